-- Exact conversion, all ordered pairs of kinds: six rules in their order, and the value that has the number. RULES.md: Exact conversion.
use Rattle.std.specs.Prelude.{ℕ, suc, ◌+◌, ◌-◌, ◌*◌, ◌/◌, ◌%◌, ◌^◌, Bool, true, false, not, ◌&&◌, cond, List, [], ◌∷◌, eqb, ltb, ℤ}
use Rattle.std.specs.Float.Ieee.{size}
use Rattle.float.specs.Format.{Format, f16, f32, f64, fraction_of, sign_in, inf_in, mag_in}
use Rattle.float.specs.ClassMeaning.{largest_in}
use Rattle.float.specs.Number.{Exact, not_number, infinite, finite, is_none, signed_of}
use Rattle.value.specs.declared.Kind.{Kind}
use Rattle.value.specs.declared.Kind.TheVariants as kind
use Rattle.value.specs.declared.Value.{Value}
use Rattle.value.specs.declared.Value.TheVariants.{U8, U16, U32, U64, I8, I16, I32, I64, F16}
use Rattle.value.specs.Kinds.{Form, unsigned, signed, floating, form_of, is_integer, kind_of, kind_number}
use Rattle.value.specs.Meaning.{exact_of, unit, step_of, f32_value, f64_value}
use Rattle.value.specs.Outcome.{Outcome, gives}
use Rattle.value.specs.Rules.{Rule, rule, chain}

-- ---- a magnitude in a float format, in units of 2^-1074

-- how many digits of a scaled magnitude lie below its p + 1 leading ones
abbrev pub drop_of : ℕ → ℕ → ℕ
drop_of p n = size n - suc p

-- the abs whose fields keep those leading digits
abbrev pub encode_at : ℕ → ℕ → ℕ
encode_at p n = drop_of p n * 2 ^ p + n / 2 ^ drop_of p n

-- of a magnitude in units of 2^-1074, counted in the format's smallest steps
unfoldable pub encode_of : Format → ℕ → ℕ
encode_of f m = encode_at (fraction_of f) (m / step_of f)

-- written as a pattern and read back, it is the same magnitude
unfoldable pub held_in : Format → ℕ → Bool
held_in f m = eqb (mag_in f (encode_of f m) * step_of f) m

-- ---- the rules of a target form

-- 1: a NaN, `is_none`; 2: an infinity to an integer kind
abbrev pub is_infinite : Exact → Bool
is_infinite not_number = false
is_infinite (infinite s) = true
is_infinite (finite s m) = false

-- 13: minus zero, to an integer kind
abbrev pub is_minus_zero : Exact → Bool
is_minus_zero not_number = false
is_minus_zero (infinite s) = false
is_minus_zero (finite s m) = s && eqb m 0

-- 3: a finite number with a fraction, to an integer kind
abbrev pub has_fraction : Exact → Bool
has_fraction not_number = false
has_fraction (infinite s) = false
has_fraction (finite s m) = not (eqb (m % unit) 0)

-- 4: the number lies outside the target's range, which goes from -low to high
abbrev pub outside : ℕ → ℕ → Bool → ℕ → Bool
outside low high true n = ltb low n
outside low high false n = ltb high n

-- by the form: an integer kind's ends, or the largest float
abbrev pub out_of_form : Form → Bool → ℕ → Bool
out_of_form (unsigned k) s m = outside 0 (2 ^ k - 1) s (m / unit)
out_of_form (signed k) s m = outside (2 ^ (k - 1)) (2 ^ (k - 1) - 1) s (m / unit)
out_of_form (floating f) s m = ltb (largest_in f * step_of f) m

-- only a finite number can lie outside
abbrev pub out_of_range : Form → Exact → Bool
out_of_range form not_number = false
out_of_range form (infinite s) = false
out_of_range form (finite s m) = out_of_form form s m

-- 5: inside the range, but the target float has no such number
abbrev pub not_held_in : Form → ℕ → Bool
not_held_in (unsigned k) m = false
not_held_in (signed k) m = false
not_held_in (floating f) m = not (held_in f m)

-- only a finite number can be missing
abbrev pub not_held : Form → Exact → Bool
not_held form not_number = false
not_held form (infinite s) = false
not_held form (finite s m) = not_held_in form m

-- ---- the value of a kind that has the number

-- the pattern with its sign bit
abbrev pub with_sign : Format → Bool → ℕ → ℕ
with_sign f s a = cond s (sign_in f + a) a

-- the sign, and beside it an integer's magnitude or a float's abs
abbrev pub sign_for : Exact → Bool
sign_for not_number = false
sign_for (infinite s) = s
sign_for (finite s m) = s

-- an integer's magnitude
abbrev pub magnitude_for : Exact → ℕ
magnitude_for not_number = 0
magnitude_for (infinite s) = 0
magnitude_for (finite s m) = m / unit

-- a float's abs
abbrev pub abs_for : Format → Exact → ℕ
abs_for f not_number = 0
abs_for f (infinite s) = inf_in f
abs_for f (finite s m) = encode_of f m

-- the integer
abbrev pub integer_for : Exact → ℤ
integer_for x = signed_of (sign_for x) (magnitude_for x)

-- the float's pattern
abbrev pub pattern_for : Format → Exact → ℕ
pattern_for f x = with_sign f (sign_for x) (abs_for f x)

-- the value itself
unfoldable pub made_in : Kind → Exact → Value
made_in kind.U8 x = U8 (magnitude_for x)
made_in kind.U16 x = U16 (magnitude_for x)
made_in kind.U32 x = U32 (magnitude_for x)
made_in kind.U64 x = U64 (magnitude_for x)
made_in kind.I8 x = I8 (integer_for x)
made_in kind.I16 x = I16 (integer_for x)
made_in kind.I32 x = I32 (integer_for x)
made_in kind.I64 x = I64 (integer_for x)
made_in kind.F32 x = f32_value (pattern_for f32 x)
made_in kind.F64 x = f64_value (pattern_for f64 x)
made_in kind.F16 x = F16 (pattern_for f16 x)

-- ---- the conversion

-- to another kind: the value of the kind with the number
abbrev pub into_rules : Form → Exact → List Rule
into_rules form x =
    rule 1 0 (is_none x)
    ∷ rule 2 0 (is_infinite x && is_integer form)
    ∷ rule 13 0 (is_minus_zero x && is_integer form)
    ∷ rule 3 0 (has_fraction x && is_integer form)
    ∷ rule 4 0 (out_of_range form x)
    ∷ rule 5 0 (not_held form x)
    ∷ []

-- to its own kind every value comes back as it is
abbrev pub own_kind : Value → Kind → Bool
own_kind v to = eqb (kind_number (kind_of v)) (kind_number to)

-- to its own kind no rule; to another 1, 2, 13, 3, 4, 5
abbrev pub convert_rules : Value → Kind → List Rule
convert_rules v to = cond (own_kind v to) [] (into_rules (form_of to) (exact_of v))

-- what comes of a conversion that no rule refuses
abbrev pub converted_to : Value → Kind → Value
converted_to v to = cond (own_kind v to) v (made_in to (exact_of v))

-- the conversion of a value to a kind
unfoldable pub convert_of : Value → Kind → Outcome Value
convert_of v to = chain (convert_rules v to) (gives (converted_to v to))
