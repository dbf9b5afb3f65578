-- Nothing in this file has to be believed: it says what private functions compute, and no public contract or theorem reaches it.
-- The bits of a value are made its key and back by the weight of the sign bit; bytes are laid into a buffer; a value is read back.
use Rattle.std.specs.Prelude.{ℕ, ◌+◌, ◌-◌, ◌*◌, ◌%◌, ◌^◌, ◌≤◌, ◌<◌, Bool, false, ◌||◌, cond, List, ◌∷◌, ◌++◌, eqb, ltb, leb, length, take, drop}
use Rattle.std.specs.Prelude.{Option, None, Some}
use Rattle.float.specs.Format.{sign_in, inf_in}
use Rattle.value.specs.Kinds.{Form, unsigned, signed, floating, form_of}
use Rattle.value.specs.Outcome.{Outcome, gives, refuse_if, mapped}
use Rattle.value.specs.Rules.{chain}
use Rattle.value.specs.declared.Kind.{Kind}
use Rattle.value.specs.declared.Value.{Value}
use Rattle.value.specs.Meaning.{value_of}
use Rattle.record.specs.declared.Field.{Field}
use Rattle.record.specs.Record.{field_for}
use Rattle.key.specs.Key.{float_key, pattern_from, bits_from, not_canonical, key_numbers, canonical_rules, fields_from}
use Rattle.key.specs.declared.Weights.{Weights}
use Rattle.key.specs.declared.Weights.TheVariants as weights

-- the weight of the sign bit, and of a float the bits of plus infinity
abbrev pub weights_for : Form → Weights
weights_for (unsigned k) = weights.Unsigned
weights_for (signed k) = weights.Signed (2 ^ (k - 1))
weights_for (floating f) = weights.Float (sign_in f) (inf_in f)

-- n has no bit above the sign bit, and that fits a word
abbrev pub InWeights : Weights → ℕ → Type 0
InWeights weights.Unsigned n = Unit {0}
InWeights (weights.Signed half) n = (half ≤ 2 ^ 63) × (n < 2 * half)
InWeights (weights.Float half infinity) n = (half ≤ 2 ^ 63) × (n < 2 * half)

-- the number of a key from the bits, and the bits from the number
abbrev pub number_by_weights : Weights → ℕ → ℕ
number_by_weights weights.Unsigned b = b
number_by_weights (weights.Signed half) b = (b + half) % (2 * half)
number_by_weights (weights.Float half infinity) b = float_key half b

abbrev pub bits_by_weights : Weights → ℕ → ℕ
bits_by_weights weights.Unsigned n = n
bits_by_weights (weights.Signed half) n = (n + half) % (2 * half)
bits_by_weights (weights.Float half infinity) n = pattern_from half n

-- a NaN, and what no key stands for
abbrev pub abs_by_weight : ℕ → ℕ → ℕ
abs_by_weight half b = cond (leb half b) (b - half) b

abbrev pub nan_by_weights : Weights → ℕ → Bool
nan_by_weights weights.Unsigned b = false
nan_by_weights (weights.Signed half) b = false
nan_by_weights (weights.Float half infinity) b = ltb infinity (abs_by_weight half b)

abbrev pub foreign_by_weights : Weights → ℕ → Bool
foreign_by_weights weights.Unsigned b = false
foreign_by_weights (weights.Signed half) b = false
foreign_by_weights (weights.Float half infinity) b = ltb infinity (abs_by_weight half b) || eqb b half

-- bytes k laid into l from a place on
unfoldable pub put : ℕ → List ℕ → List ℕ → List ℕ
put at k l = take at l ++ (k ++ drop (at + length k) l)

-- the value of a kind whose key is n, if there is one
abbrev pub value_by_number : Kind → ℕ → Option Value
value_by_number k n = cond (not_canonical (form_of k) n) None (Some (value_of k (bits_from (form_of k) n)))

-- the fields of a key, or 12; `at` is the index of the first
unfoldable pub read_fields : ℕ → List Kind → List ℕ → Outcome (List Field)
read_fields at ks key = chain (canonical_rules at (key_numbers ks key)) (gives (fields_from (key_numbers ks key)))

-- one field, whose key is n, and then the others
abbrev pub field_then : ℕ → Kind → ℕ → Outcome (List Field) → Outcome (List Field)
field_then at k n rest = refuse_if (not_canonical (form_of k) n) 12 at (mapped (λ fs. field_for (value_of k (bits_from (form_of k) n)) ∷ fs) rest)
