-- The key of a record: written, and read back. RULES.md: Keys, Refusals.
use Rattle.std.specs.Prelude.{ℕ, suc, ◌+◌, ◌-◌, ◌*◌, ◌%◌, ◌^◌, Bool, false, not, ◌||◌, cond, List, [], ◌∷◌, ◌++◌, map, eqb, ltb, leb, length, take}
use Rattle.std.specs.Prelude.{drop, ℤ, pos, negsuc}
use Rattle.float.specs.Format.{sign_in, nan_in}
use Rattle.float.specs.Number.{is_none}
use Rattle.value.specs.declared.Kind.{Kind}
use Rattle.value.specs.declared.Value.{Value}
use Rattle.value.specs.Kinds.{Form, unsigned, signed, floating, form_of, kind_of, bytes_of}
use Rattle.value.specs.Meaning.{Content, natural, integer, real, content_of, exact_of, value_of}
use Rattle.value.specs.Outcome.{Outcome, gives, lent_after}
use Rattle.value.specs.Rules.{Rule, rule, chain, each_of}
use Rattle.record.specs.declared.Field.{Field}
use Rattle.record.specs.declared.Record.{Record}
use Rattle.record.specs.declared.Shape.{Shape}
use Rattle.record.specs.Record.{field_for, fields_of, bad_count, kinds_in, record_of}
use Rattle.bytewise.specs.Numbers.{big_endian, from_big_endian}

-- ---- the number of a field's key

-- z + half
abbrev pub shifted : ℕ → ℤ → ℕ
shifted half (pos n) = half + n
shifted half (negsuc n) = half - suc n

-- half is the weight of the sign bit: minus zero is made plus zero; a clear sign bit is set, and with a set one all bits are turned
abbrev pub float_key : ℕ → ℕ → ℕ
float_key half b =
    cond (eqb b half) half
    (cond (leb half b) (2 * half - 1 - b)
    (half + b))

-- a natural number is its own key, an integer is shifted, a float is turned
abbrev pub key_in : Content → ℕ
key_in (natural k n) = n
key_in (integer k z) = shifted (2 ^ (k - 1)) z
key_in (real f b) = float_key (sign_in f) b

-- the key of a value, as a number
abbrev pub key_number : Value → ℕ
key_number v = key_in (content_of v)

-- ---- bytes, high byte first

-- the key of a field, in as many bytes as its kind has
abbrev pub field_key : Value → List ℕ
field_key v = big_endian (bytes_of (kind_of v)) (key_number v)

-- the fields' keys joined
unfoldable pub key_of : List Field → List ℕ
key_of [] = []
key_of (f ∷ fs) = field_key f.value ++ key_of fs

-- ---- writing

-- 1 for a field that is a NaN; `at` is the index of the first
abbrev pub nan_rules : ℕ → List Field → List Rule
nan_rules at fs = each_of (λ (f : Field). rule 1 0 (is_none (exact_of f.value)) ∷ []) at fs

-- into a buffer of `room` bytes
abbrev pub write_rules : Record → ℕ → List Rule
write_rules r room =
    rule 11 0 (bad_count r.count)
    ∷ rule 10 0 (ltb room (length (key_of (fields_of r))))
    ∷ nan_rules 0 (fields_of r)

-- the length of the key
unfoldable pub write_of : Record → ℕ → Outcome ℕ
write_of r room = chain (write_rules r room) (gives (length (key_of (fields_of r))))

-- the buffer at the end
unfoldable pub write_exit : Record → List ℕ → List ℕ
write_exit r old = lent_after (λ n. key_of (fields_of r)) (write_of r (length old)) old

-- ---- reading

-- the bits of a float whose key is n
abbrev pub pattern_from : ℕ → ℕ → ℕ
pattern_from half n = cond (ltb n half) (2 * half - 1 - n) (n - half)

-- the bits of a value whose key is n
abbrev pub bits_from : Form → ℕ → ℕ
bits_from (unsigned k) n = n
bits_from (signed k) n = (n + 2 ^ (k - 1)) % 2 ^ k
bits_from (floating f) n = pattern_from (sign_in f) n

-- 12: a float that would be a NaN or minus zero
abbrev pub not_canonical : Form → ℕ → Bool
not_canonical (unsigned k) n = false
not_canonical (signed k) n = false
not_canonical (floating f) n = nan_in f (pattern_from (sign_in f) n) || eqb (pattern_from (sign_in f) n) (sign_in f)

-- how many bytes the keys of a shape have
unfoldable pub bytes_in : List Kind → ℕ
bytes_in [] = 0
bytes_in (k ∷ ks) = bytes_of k + bytes_in ks

-- each field's kind, and the number of its key
unfoldable pub key_numbers : List Kind → List ℕ → List (Kind × ℕ)
key_numbers [] key = []
key_numbers (k ∷ ks) key = (k, from_big_endian 0 (take (bytes_of k) key)) ∷ key_numbers ks (drop (bytes_of k) key)

-- `at` is the index of the first field
abbrev pub canonical_rules : ℕ → List (Kind × ℕ) → List Rule
canonical_rules at ns = each_of (λ (f : Kind × ℕ). rule 12 0 (not_canonical (form_of f.0) f.1) ∷ []) at ns

-- the fields whose keys these are
abbrev pub fields_from : List (Kind × ℕ) → List Field
fields_from ns = map (λ (f : Kind × ℕ). field_for (value_of f.0 (bits_from (form_of f.0) f.1))) ns

-- 11, then 9 for a key that isn't as long as the shape's, then 12 for the first field that isn't canonical
abbrev pub read_rules : Shape → List ℕ → List Rule
read_rules s key =
    rule 11 0 (bad_count s.count)
    ∷ rule 9 0 (not (eqb (length key) (bytes_in (kinds_in s))))
    ∷ canonical_rules 0 (key_numbers (kinds_in s) key)

-- the record of the fields
unfoldable pub read_of : Shape → List ℕ → Outcome Record
read_of s key = chain (read_rules s key) (gives (record_of (fields_from (key_numbers (kinds_in s) key))))
