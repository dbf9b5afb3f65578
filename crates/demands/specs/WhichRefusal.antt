-- Which of the refusals 13, 3, 4 and 5 a conversion gives, by the numbers and the sign of a zero alone. RULES.md: Refusals, Exact conversion.
use Rattle.std.specs.Prelude.{ℕ, ◌-◌, ◌*◌, ◌^◌, ◌≤◌, ◌<◌, ◌≡◌, ◌↔◌, ◌⊎◌, Bool, true, false, ℤ, pos, negsuc}
use Rattle.float.specs.declared.Order.{Order}
use Rattle.float.specs.declared.Order.TheVariants.{Less, Greater}
use Rattle.float.specs.Number.{finite, times, Number, number}
use Rattle.float.specs.Number as float-number
use Rattle.float.specs.Order.{order_of}
use Rattle.value.specs.declared.Kind.{Kind}
use Rattle.value.specs.declared.Kind.TheVariants as kind
use Rattle.value.specs.declared.Value.{Value}
use Rattle.value.specs.Kinds.{Form, unsigned, signed, floating, form_of, is_integer, kind_of}
use Rattle.value.specs.Meaning.{FitsSigned, whole_of, unit, exact_of, number_of, position_of, value_of}
use Rattle.value.specs.Outcome.{gives, refuses}
use Rattle.convert.specs.Convert.{convert_of}
use Rattle.demands.specs.Conversion.{Other, IsMinusZero, HoldsNumberOf}

-- ---- of a number

-- it is neither none nor an infinity
abbrev pub IsFinite : Number → Type 0
IsFinite n = (z : ℤ) × (n ≡ number z)

-- it is that of some integer, of any size: it has no fraction
abbrev pub IsWhole : Number → Type 0
IsWhole n = (z : ℤ) × (n ≡ float-number.number_of (times unit (whole_of z)))

-- every finite number of the kind has this order to it
abbrev pub EachIs : Order → Kind → Number → Type 0
EachIs o to n = (b : ℕ) (z : ℤ) → number_of (value_of to b) ≡ number z → order_of (number z) n ≡ o

-- it lies above every finite number of the kind, or below every one
abbrev pub Beyond : Number → Kind → Type 0
Beyond n to = EachIs Less to n ⊎ EachIs Greater to n

-- an integer lies in the range of an integer form: 0 to 2^k - 1, or -2^(k-1) to 2^(k-1) - 1
abbrev pub Within : Form → ℤ → Type 0
Within (unsigned k) (pos n) = n < 2 ^ k
Within (unsigned k) (negsuc n) = ⊥
Within (signed k) z = FitsSigned (2 ^ (k - 1)) z
Within (floating f) z = ⊥

-- ---- of a conversion to another kind

-- each of the four is given exactly when the value is as its sentence says
pub record WhichRefusal : Type 0 where
  -- 13: "minus zero to any integer kind"
  pub thirteen : (v : Value) (to : Kind) → Other v to → (convert_of v to ≡ refuses 13 0) ↔ (IsMinusZero v × (is_integer (form_of to) ≡ true))
  -- 3: "finite float with a fraction, to an integer kind"
  pub three : (v : Value) (to : Kind) → Other v to
      → (convert_of v to ≡ refuses 3 0) ↔ (IsFinite (number_of v) × (is_integer (form_of to) ≡ true) × (IsWhole (number_of v) → ⊥))
  -- 4: "the number lies outside the target's range"; to an integer kind 3 comes before it
  pub four : (v : Value) (to : Kind) → Other v to
      → (convert_of v to ≡ refuses 4 0) ↔ (IsFinite (number_of v) × (is_integer (form_of to) ≡ true → IsWhole (number_of v)) × Beyond (number_of v) to)
  -- 5: "inside the range, but the target float has no such number"
  pub five : (v : Value) (to : Kind) → Other v to
      → (convert_of v to ≡ refuses 5 0)
      ↔ (IsFinite (number_of v) × (is_integer (form_of to) ≡ false) × (Beyond (number_of v) to → ⊥) × (HoldsNumberOf v to → ⊥))
  -- "Integer to integer: the same number, or 4"
  pub within_given : (v : Value) (to : Kind) → Other v to → is_integer (form_of (kind_of v)) ≡ true
      → Within (form_of to) (position_of v) → (w : Value) × (convert_of v to ≡ gives w)
  pub outside_four : (v : Value) (to : Kind) → Other v to → is_integer (form_of (kind_of v)) ≡ true → is_integer (form_of to) ≡ true
      → (Within (form_of to) (position_of v) → ⊥) → convert_of v to ≡ refuses 4 0

-- ---- towards f16, from every kind

-- a finite number of either sign, m units of 2^-1074
pub record TowardsF16 : Type 0 where
  -- 4: "a finite magnitude above 65504"
  pub four_to_f16 : (v : Value) (s : Bool) (m : ℕ) → Other v kind.F16 → exact_of v ≡ finite s m → (convert_of v kind.F16 ≡ refuses 4 0) ↔ (65504 * unit < m)
  -- 5: "any other number it lacks"
  pub five_to_f16 : (v : Value) (s : Bool) (m : ℕ) → Other v kind.F16 → exact_of v ≡ finite s m
      → (convert_of v kind.F16 ≡ refuses 5 0) ↔ ((m ≤ 65504 * unit) × ((b : ℕ) → number_of (value_of kind.F16 b) ≡ number_of v → ⊥))
