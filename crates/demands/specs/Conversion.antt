-- Conversion from a kind to another: when it succeeds, and with what. RULES.md: Exact conversion.
use Rattle.std.specs.Prelude.{ℕ, ◌*◌, ◌%◌, ◌^◌, ◌<◌, ◌≡◌, ◌↔◌, Bool, true, false}
use Rattle.float.specs.Format.{Format, mag_in, sign_in}
use Rattle.float.specs.Number.{infinite, finite, not_number, none}
use Rattle.half.specs.Small.{IsOver}
use Rattle.value.specs.declared.Kind.{Kind}
use Rattle.value.specs.declared.Kind.TheVariants as kind
use Rattle.value.specs.declared.Value.{Value}
use Rattle.value.specs.declared.Value.TheVariants.{F16}
use Rattle.value.specs.Kinds.{kind_of, floating, form_of, is_integer, width_of}
use Rattle.value.specs.Meaning.{unit, exact_of, number_of, f32_value, value_of, bits_of, step_of, InRange}
use Rattle.value.specs.Outcome.{gives, refuses}
use Rattle.convert.specs.Convert.{convert_of, held_in}
use Rattle.convert.specs.Widening.{widens}

-- ---- "Conversion between different kinds succeeds exactly when the target holds the same number", to an integer kind "and not minus zero"

-- the kind is not the value's own
abbrev pub Other : Value → Kind → Type 0
Other v to = kind_of v ≡ to → ⊥

-- a zero with a minus sign
abbrev pub IsMinusZero : Value → Type 0
IsMinusZero v = exact_of v ≡ finite true 0

-- some pattern of the kind has the value's number
abbrev pub HasPattern : Value → Kind → Type 0
HasPattern v to = (b : ℕ) × (number_of (value_of to b) ≡ number_of v)

-- the value has a number, some pattern of the kind has it too, and it isn't minus zero to an integer kind
abbrev pub HoldsNumberOf : Value → Kind → Type 0
HoldsNumberOf v to = (number_of v ≡ none → ⊥) × HasPattern v to × (is_integer (form_of to) ≡ true → IsMinusZero v → ⊥)

-- some pattern of the second kind has the number of each pattern of the first that is no NaN
abbrev pub HoldsAllOf : Kind → Kind → Type 0
HoldsAllOf from to = (b : ℕ) → (number_of (value_of from b) ≡ none → ⊥) → (c : ℕ) × (number_of (value_of to c) ≡ number_of (value_of from b))

-- of every value and every kind
pub record Conversion : Type 0 where
  pub exactly : (v : Value) (to : Kind) → Other v to → ((w : Value) × (convert_of v to ≡ gives w)) ↔ HoldsNumberOf v to
  -- and then it gives a value of the kind, the one of its bits, with the same number
  pub same_number : (v : Value) (to : Kind) → Other v to → (w : Value) → convert_of v to ≡ gives w
      → (kind_of w ≡ to) × (value_of to (bits_of w) ≡ w) × (number_of w ≡ number_of v)
  -- no refusal hides a number that exists
  pub none_hidden : (v : Value) (to : Kind) → Other v to → (n p : ℕ) → convert_of v to ≡ refuses n p → HoldsNumberOf v to → ⊥
  -- a float format holds a magnitude, its range aside, exactly when some abs has that magnitude
  pub held_means : (f : Format) (m : ℕ) → (held_in f m ≡ true) ↔ ((a : ℕ) × (mag_in f a * step_of f ≡ m))
  -- infinities and zeros keep their sign
  pub sign_kept : (v : Value) (to : Kind) → Other v to → (w : Value) → convert_of v to ≡ gives w → exact_of w ≡ exact_of v
  -- minus zero is a float whose sign bit is set and no other
  pub minus_zero_means : (v : Value) → IsMinusZero v ↔ ((f : Format) × (form_of (kind_of v) ≡ floating f) × (bits_of v ≡ sign_in f))
  -- it passes between float kinds
  pub minus_zero_passes : (v : Value) (to : Kind) (f : Format) → Other v to → IsMinusZero v → form_of to ≡ floating f
      → (w : Value) × (convert_of v to ≡ gives w) × IsMinusZero w
  -- "infinities pass only between float kinds, NaN never"
  pub infinity_passes : (v : Value) (to : Kind) (s : Bool) (f : Format) → Other v to → exact_of v ≡ infinite s → form_of to ≡ floating f
      → (w : Value) × (convert_of v to ≡ gives w) × (exact_of w ≡ infinite s)
  pub infinity_stops : (v : Value) (to : Kind) (s : Bool) → Other v to →
      exact_of v ≡ infinite s → is_integer (form_of to) ≡ true → convert_of v to ≡ refuses 2 0
  pub nan_never : (v : Value) (to : Kind) → Other v to → exact_of v ≡ not_number → convert_of v to ≡ refuses 1 0
  -- "The same kind gives back the same bits": the value itself
  pub same_kind : (v : Value) → convert_of v (kind_of v) ≡ gives v
  -- the forms tell exactly when a kind has room for every number of another
  pub widens_means : (from to : Kind) → (widens (form_of from) (form_of to) ≡ true) ↔ HoldsAllOf from to
  -- and to such a kind nothing but a NaN is refused
  pub widened : (v : Value) (to : Kind) → InRange v → Other v to → widens (form_of (kind_of v)) (form_of to) ≡ true → (number_of v ≡ none → ⊥)
      → (w : Value) × (convert_of v to ≡ gives w)
  -- float to integer and back gives the same bits, and so does every other way to another kind and back
  pub there_and_back : (v : Value) (to : Kind) → InRange v → Other v to → (w : Value) → convert_of v to ≡ gives w
      → (u : Value) × (convert_of w (kind_of v) ≡ gives u) × (bits_of u ≡ bits_of v)
  -- "the number at place m is exactly m over 2^24", and an f16 with the bits m goes to the entry
  pub table_means : (m b : ℕ) → m < 1024 → IsOver m b
      → ((k : ℕ) × (exact_of (f32_value b) ≡ finite false k) × (k * 2 ^ 24 ≡ m * unit)) × (convert_of (F16 m) kind.F32 ≡ gives (f32_value b))
  -- the value of a kind with some bits is of that kind and has these bits
  pub pattern_made : (k : Kind) (b : ℕ) → (kind_of (value_of k b) ≡ k) × (bits_of (value_of k b) ≡ b % 2 ^ width_of k)
  -- a value in range is told by its kind and its bits: the value made of them has the same bits and stands for the same
  pub value_of_bits : (v : Value) → InRange v → (bits_of v < 2 ^ width_of (kind_of v))
      × (bits_of (value_of (kind_of v) (bits_of v)) ≡ bits_of v) × (exact_of (value_of (kind_of v) (bits_of v)) ≡ exact_of v)
