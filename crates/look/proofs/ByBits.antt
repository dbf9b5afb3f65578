-- An infinity is told by abs alone, minus zero by its one pattern.
use Rattle.std.proofs.Common.{◌≡◌, ℕ, ◌+◌, ◌-◌, ◌<◌, ◌≤◌, Bool, true, false, ◌||◌, T, eqb, [], ℤ, pos, negsuc, sym, refl, ap, ◌∙◌, inl, inr, arith}
use Rattle.std.proofs.Common.{eq-eqb, ne_eqb}
use lib.Ieee.{binary32, binary64}
use Rattle.float.specs.Format.{Format, f16, f32, f64, fraction_of, exponent_of, sign_of, inf_of, abs_of, infinite_of, inf_in, infinite_in, sign_in}
use Rattle.float.specs.Number as exact
use Rattle.float.specs.Order.{pattern_of}
use Rattle.float.proofs.Naturals.{lt_or_ge, three_ways}
use Rattle.float.proofs.Magnitude.{abs_clear, abs_set}
use Rattle.float.proofs.Formats.{inf_range}
use Rattle.float.proofs.Comparing.{pattern_nan, pattern_infinite, pattern_finite}
use Rattle.value.specs.declared.Value.{Value}
use Rattle.value.specs.declared.Value.TheVariants.{U8, U16, U32, U64, I8, I16, I32, I64, F32, F64, F16}
use Rattle.value.specs.declared.Kind.TheVariants as kind
use Rattle.value.specs.Kinds.{kind_of, Form, unsigned, signed, floating, form_of, is_integer}
use Rattle.value.specs.Meaning.{real, bits_of, float_bits, exact_in, unit, step_of, whole_of}
use Rattle.cmp.proofs.KindTests.{NotOf, whole_left}
use Rattle.convert.specs.Convert.{is_infinite, is_minus_zero}
use Rattle.convert.proofs.MinusZero.{integer_signless, minus_zero_float}
use Rattle.row.specs.Row.{any}
use Rattle.look.specs.Report.{infinite, minus_zero}
use Rattle.look.specs.ReportTheorem.{infinities_in, minus_zeros_in, CountedByBits}

-- ---- a pattern of a format, in units of k

module _ (k p e b : ℕ) where
  -- what it stands for decides
  meant : {x : exact.Exact} → pattern_of p e b ≡ x → is_infinite (exact.times k (pattern_of p e b)) ≡ is_infinite (exact.times k x)
  meant q = ap (λ (y : exact.Exact). is_infinite (exact.times k y)) q

  infinite_pattern : is_infinite (exact.times k (pattern_of p e b)) ≡ infinite_of p e b
  infinite_pattern = elim (three_ways (abs_of p e b) (inf_of p e)) [
    | inl l ↦ meant (pattern_finite p e b l) ∙ sym (ne_eqb (abs_of p e b) (inf_of p e) (λ q. omega arith))
    | inr (inl q) ↦ meant (pattern_infinite p e b q) ∙ sym (eq-eqb (abs_of p e b) (inf_of p e) q)
    | inr (inr g) ↦ meant (pattern_nan p e b g) ∙ sym (ne_eqb (abs_of p e b) (inf_of p e) (λ q. omega arith))
  ]

or_none : (t : Bool) → t ≡ (t || false)
or_none true = refl
or_none false = refl

-- abs is the infinity's: with the sign bit or without it
module _ (p e b : ℕ) where
  with_sign_lem : sign_of p e ≤ b → eqb (b - sign_of p e) (inf_of p e) ≡ (eqb b (sign_of p e + inf_of p e) || false)
  with_sign_lem g = elim (three_ways b (sign_of p e + inf_of p e)) [
    | inl l ↦ rw (ne_eqb b (sign_of p e + inf_of p e) (λ q. omega arith)) (ne_eqb (b - sign_of p e) (inf_of p e) (λ q. omega arith))
    | inr (inl q) ↦ rw (eq-eqb b (sign_of p e + inf_of p e) q) (eq-eqb (b - sign_of p e) (inf_of p e) (omega arith))
    | inr (inr m) ↦ rw (ne_eqb b (sign_of p e + inf_of p e) (λ q. omega arith)) (ne_eqb (b - sign_of p e) (inf_of p e) (λ q. omega arith))
  ]

  infinite_bits : inf_of p e < sign_of p e → infinite_of p e b ≡ (eqb b (inf_of p e) || (eqb b (sign_of p e + inf_of p e) || false))
  infinite_bits below = elim (lt_or_ge b (sign_of p e)) [
    | inl l ↦ rw (abs_clear p e b l, ne_eqb b (sign_of p e + inf_of p e) (λ q. omega arith)) (or_none (eqb b (inf_of p e)))
    | inr g ↦ rw (abs_set p e b g, ne_eqb b (inf_of p e) (λ q. omega arith)) (with_sign_lem g)
  ]

-- ---- a float, and an integer

module _ (f : Format) {a b : ℕ} (bits : b ≡ a) where
  pub infinite_float : infinite_in f b ≡ is_infinite (exact_in (real f a))
  infinite_float = ap (infinite_in f) bits ∙ sym (infinite_pattern (step_of f) (fraction_of f) (exponent_of f) a)

  pub minus_zero_told : eqb b (sign_in f) ≡ is_minus_zero (exact_in (real f a))
  minus_zero_told = ap (λ (n : ℕ). eqb n (sign_in f)) bits ∙ sym (minus_zero_float f a)

-- its two infinities and its minus zero, by their bits
by_format : (f : Format) (b : ℕ)
    → (is_infinite (exact_in (real f b)) ≡ (eqb b (inf_in f) || (eqb b (sign_in f + inf_in f) || false)))
    × (is_minus_zero (exact_in (real f b)) ≡ (eqb b (sign_in f) || false))
by_format f b = (
  sym (infinite_float f refl) ∙ infinite_bits (fraction_of f) (exponent_of f) b (inf_range f).1,
  minus_zero_float f b ∙ or_none (eqb b (sign_in f)),
)

-- an integer is neither
neither : (z : ℤ) → (is_infinite (exact.times unit (whole_of z)) ≡ false) × (is_minus_zero (exact.times unit (whole_of z)) ≡ false)
neither (pos n) = (refl, integer_signless (pos n))
neither (negsuc n) = (refl, integer_signless (negsuc n))

-- ---- a value

pub counted_by_bits : CountedByBits
unfolding any
counted_by_bits (U8 n) = neither (pos n)
counted_by_bits (U16 n) = neither (pos n)
counted_by_bits (U32 n) = neither (pos n)
counted_by_bits (U64 n) = neither (pos n)
counted_by_bits (I8 z) = neither z
counted_by_bits (I16 z) = neither z
counted_by_bits (I32 z) = neither z
counted_by_bits (I64 z) = neither z
counted_by_bits (F32 x w) = by_format f32 (float_bits binary32 x w)
counted_by_bits (F64 x w) = by_format f64 (float_bits binary64 x w)
counted_by_bits (F16 b) = by_format f16 b

-- ---- the arm of the integer kinds: they have no such bits

no_bits : (form : Form) → T (is_integer form) → (infinities_in form ≡ []) × (minus_zeros_in form ≡ [])
no_bits (unsigned n) t = (refl, refl)
no_bits (signed n) t = (refl, refl)
no_bits (floating f) t = absurd t

module _ (v : Value) (f : NotOf kind.F32 v) (g : NotOf kind.F64 v) (h : NotOf kind.F16 v) where
  none : (infinities_in (form_of (kind_of v)) ≡ []) × (minus_zeros_in (form_of (kind_of v)) ≡ [])
  none = no_bits (form_of (kind_of v)) (whole_left v f g h)

  pub infinite_integer : false ≡ infinite v
  unfolding any
  infinite_integer = sym ((counted_by_bits v).0 ∙ ap (any (eqb (bits_of v))) none.0)

  pub minus_zero_integer : false ≡ minus_zero v
  unfolding any
  minus_zero_integer = sym ((counted_by_bits v).1 ∙ ap (any (eqb (bits_of v))) none.1)
