-- There and back: a value that converts to another kind converts back to the same bits.
use mathlib.Core.Path.{◌≡◌, sym, ◌∙◌, ap}
use mathlib.Core.Logic.{inl, inr}
use mathlib.Core.Bool.{false, true≢false}
use Prim.Native.Nat.{ℕ, suc, ◌-◌, ◌%◌, ◌^◌}
use native.Mathlib.Nat.{mul-div_cancel}
use native.Mathlib.Omega.{arith}
use borrow.Author.Tests.{le-leb, lt-leb}
use lib.IntN.{ℤ, pos, negsuc}
use Rattle.float.specs.Format.{Format, f16, f32, f64, fraction_of, exponent_of, abs_in, inf_in, negative_in, sign_in}
use Rattle.float.specs.Number.{Exact, is_none, times}
use Rattle.float.specs.Order.{pattern_in}
use Rattle.float.proofs.Naturals.{lt_or_ge, three_ways}
use Rattle.float.proofs.Magnitude.{abs_clear, abs_set}
use Rattle.float.proofs.Comparing.{pattern_nan, pattern_infinite, pattern_finite}
use Rattle.value.specs.declared.Kind.{Kind}
use Rattle.value.specs.declared.Kind.TheVariants as kind
use Rattle.value.specs.declared.Value.{Value}
use Rattle.value.specs.Kinds.{kind_of, kind_number}
use Rattle.value.specs.Meaning.{InRange, whole_of, unit, step_of, exact_of, bits_of, twos_of, from_twos, f32_value, f64_value, value_of}
use Rattle.value.specs.Outcome.{gives}
use Rattle.value.proofs.Units.{unit_pos}
use Rattle.value.proofs.MadeValues.{bits_made}
use Rattle.value.proofs.OwnBits.{value_again, exact_again}
use Rattle.convert.specs.Convert.{with_sign, magnitude_for, integer_for, pattern_for, made_in, convert_of}
use Rattle.convert.specs.Inner.{into_of}
use Rattle.convert.proofs.Encode.{encode_held}
use Rattle.convert.proofs.Exactly.{none_is, into_gives, other_kind, sound}
use Rattle.convert.proofs.Widening.{own_accepted}

-- ---- a form's value made again of what it stands for

natural_again : (n : ℕ) → magnitude_for (times unit (whole_of (pos n))) ≡ n
natural_again n = mul-div_cancel n unit_pos

integer_again : (z : ℤ) → integer_for (times unit (whole_of z)) ≡ z
integer_again (pos n) = ap pos (mul-div_cancel n unit_pos)
integer_again (negsuc n) = rw (mul-div_cancel (suc n) unit_pos)

module _ (f : Format) (c : ℕ) where
  sign_abs : with_sign f (negative_in f c) (abs_in f c) ≡ c
  sign_abs = elim (lt_or_ge c (sign_in f)) [
    | inl l ↦ rw (lt-leb _ _ l) (abs_clear (fraction_of f) (exponent_of f) c l)
    | inr g ↦ rw (le-leb _ _ g, abs_set (fraction_of f) (exponent_of f) c g) (omega arith)
  ]

  pub pattern_again : is_none (times (step_of f) (pattern_in f c)) ≡ false
      → pattern_for f (times (step_of f) (pattern_in f c)) ≡ c
  pattern_again t = elim (three_ways (abs_in f c) (inf_in f)) [
    | inl l ↦
        ap (λ (x : Exact). pattern_for f (times (step_of f) x)) (pattern_finite (fraction_of f) (exponent_of f) c l)
        ∙ ap (with_sign f (negative_in f c)) (encode_held f (abs_in f c))
        ∙ sign_abs
    | inr (inl q) ↦
        ap (λ (x : Exact). pattern_for f (times (step_of f) x)) (pattern_infinite (fraction_of f) (exponent_of f) c q)
        ∙ ap (with_sign f (negative_in f c)) (sym q)
        ∙ sign_abs
    | inr (inr g) ↦ absurd (true≢false (ap (λ (x : Exact). is_none (times (step_of f) x)) (sym (pattern_nan (fraction_of f) (exponent_of f) c g)) ∙ t))
  ]

-- ---- of values

made_again : (k : Kind) (b : ℕ) → is_none (exact_of (value_of k b)) ≡ false → bits_of (made_in k (exact_of (value_of k b))) ≡ bits_of (value_of k b)
unfolding made_in value_of
made_again kind.U8 b t = natural_again (b % 2 ^ 8)
made_again kind.U16 b t = natural_again (b % 2 ^ 16)
made_again kind.U32 b t = natural_again (b % 2 ^ 32)
made_again kind.U64 b t = natural_again (b % 2 ^ 64)
made_again kind.I8 b t = ap (twos_of (2 ^ 8 - 1)) (integer_again (from_twos (2 ^ 7) (b % 2 ^ 8)))
made_again kind.I16 b t = ap (twos_of (2 ^ 16 - 1)) (integer_again (from_twos (2 ^ 15) (b % 2 ^ 16)))
made_again kind.I32 b t = ap (twos_of (2 ^ 32 - 1)) (integer_again (from_twos (2 ^ 31) (b % 2 ^ 32)))
made_again kind.I64 b t = ap (twos_of (2 ^ 64 - 1)) (integer_again (from_twos (2 ^ 63) (b % 2 ^ 64)))
made_again kind.F32 b t = ap (λ (n : ℕ). bits_of (f32_value n)) (pattern_again f32 (bits_of (value_of kind.F32 b)) t ∙ bits_made kind.F32 b)
made_again kind.F64 b t = ap (λ (n : ℕ). bits_of (f64_value n)) (pattern_again f64 (bits_of (value_of kind.F64 b)) t ∙ bits_made kind.F64 b)
made_again kind.F16 b t = pattern_again f16 (b % 2 ^ 16) t

pub returns_same : (v : Value) (to : Kind) → InRange v → (kind_number (kind_of v) ≡ kind_number to → ⊥) → (w : Value) → convert_of v to ≡ gives w
    → (u : Value) × (convert_of w (kind_of v) ≡ gives u) × (bits_of u ≡ bits_of v)
returns_same v to r other w h =
    let s = sound v to other w h in
    let k = kind_of v in
    let back : kind_number (kind_of w) ≡ kind_number k → ⊥ = λ q. other (sym q ∙ ap kind_number s.2) in
    let again : exact_of (value_of k (bits_of v)) ≡ exact_of v = exact_again v r in (
      made_in k (exact_of v),
      other_kind w k back ∙ ap (into_of k) s.4 ∙ into_gives k (exact_of v) (own_accepted v r s.0),
      ap (λ (x : Exact). bits_of (made_in k x)) (sym again) ∙ made_again k (bits_of v) (ap is_none again ∙ none_is (exact_of v) s.0) ∙ value_again v r,
    )
