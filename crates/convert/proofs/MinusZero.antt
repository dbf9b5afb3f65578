-- Minus zero: no integer is it, nor is a number that isn't 0, and of a float's patterns the one with the sign bit alone: of every other pattern with
-- this bit abs is above 0, and so is the magnitude, which rises with it.
use mathlib.Core.Path.{◌≡◌, refl, sym, ◌∙◌, ap}
use mathlib.Core.Bool.{Bool, true, false, ◌&&◌, true≢false, and-false}
use mathlib.Core.Logic.{inl, inr}
use Prim.Native.Nat.{ℕ, zero, suc, ◌*◌, ◌≤◌, ◌<◌}
use native.Mathlib.Nat.{zero-mul, suc-mul}
use native.Mathlib.Omega.{arith}
use borrow.Author.Tests.{lt-leb, le-leb, eq-eqb, ne_eqb, eqb-true}
use lib.Dec.{eqb}
use lib.IntN.{ℤ, pos, negsuc}
use Rattle.float.specs.Format.{Format, fraction_of, exponent_of, sign_of, inf_of, negative_of, abs_of, mag_of, sign_in}
use Rattle.float.specs.Number.{Exact, not_number, infinite, finite, times}
use Rattle.float.specs.Order.{pattern_of}
use Rattle.float.proofs.Naturals.{three_ways}
use Rattle.float.proofs.Magnitude.{abs_set, mag_rises, mag_zero}
use Rattle.float.proofs.Formats.{inf_range}
use Rattle.float.proofs.Comparing.{times_rises, pattern_nan, pattern_infinite, pattern_finite}
use Rattle.value.specs.Meaning.{real, exact_in, unit, step_of, whole_of}
use Rattle.value.proofs.Units.{unit_pos, step_pos}
use Rattle.convert.specs.Convert.{is_minus_zero}

-- ---- a sign and a magnitude

-- there is one
pub is_minus_zero_lem : (x : Exact) → is_minus_zero x ≡ true → x ≡ finite true 0
is_minus_zero_lem not_number h = absurd (true≢false (sym h))
is_minus_zero_lem (infinite s) h = absurd (true≢false (sym h))
is_minus_zero_lem (finite true m) h = ap (finite true) (eqb-true m 0 h)
is_minus_zero_lem (finite false m) h = absurd (true≢false (sym h))

pub some_magnitude : (s : Bool) (m : ℕ) → 0 < m → is_minus_zero (finite s m) ≡ false
some_magnitude s m h = ap (λ (t : Bool). s && t) (ne_eqb m 0 (λ q. omega arith)) ∙ and-false s

-- a minus sign that isn't minus zero's
pub minus_magnitude : (m : ℕ) → is_minus_zero (finite true m) ≡ false → 0 < m
minus_magnitude zero h = absurd (true≢false h)
minus_magnitude (suc m) h = omega arith

pub integer_signless : (z : ℤ) → is_minus_zero (times unit (whole_of z)) ≡ false
integer_signless (pos n) = refl
integer_signless (negsuc n) = some_magnitude true (suc n * unit) (omega (arith, unit_pos, suc-mul n unit))

-- ---- a pattern of a format, in units of k

module _ (k p e b : ℕ) where
  -- what it stands for decides
  meant : {x : Exact} → pattern_of p e b ≡ x → is_minus_zero (times k (pattern_of p e b)) ≡ is_minus_zero (times k x)
  meant q = ap (λ (y : Exact). is_minus_zero (times k y)) q

  no_minus_zero : (s : Bool) → negative_of p e b ≡ s → (s && eqb (mag_of p (abs_of p e b) * k) 0) ≡ false
      → is_minus_zero (times k (pattern_of p e b)) ≡ false
  no_minus_zero s q h = elim (three_ways (abs_of p e b) (inf_of p e)) [
    | inl l ↦ meant (pattern_finite p e b l) ∙ ap (λ (t : Bool). t && eqb (mag_of p (abs_of p e b) * k) 0) q ∙ h
    | inr (inl i) ↦ meant (pattern_infinite p e b i)
    | inr (inr g) ↦ meant (pattern_nan p e b g)
  ]

  minus_zero_pattern : 0 < k → 0 < inf_of p e → is_minus_zero (times k (pattern_of p e b)) ≡ eqb b (sign_of p e)
  minus_zero_pattern some h = elim (three_ways b (sign_of p e)) [
    | inl l ↦ no_minus_zero false (lt-leb (sign_of p e) b l) refl ∙ sym (ne_eqb b (sign_of p e) (λ q. omega arith))
    | inr (inl q) ↦
        let set : sign_of p e ≤ b = omega arith in
        let a : abs_of p e b ≡ 0 = abs_set p e b set ∙ omega arith in
        let nothing : is_minus_zero (times k (finite (negative_of p e b) (mag_of p (abs_of p e b)))) ≡ true =
        simp (le-leb (sign_of p e) b set, a, mag_zero p, zero-mul) in
        meant (pattern_finite p e b (omega arith)) ∙ nothing ∙ sym (eq-eqb b (sign_of p e) q)
    | inr (inr g) ↦
        let set : sign_of p e ≤ b = omega arith in
        let a : 0 < abs_of p e b = omega (arith, abs_set p e b set) in
        let m : 0 * k < mag_of p (abs_of p e b) * k =
        times_rises k some 0 (mag_of p (abs_of p e b)) (omega (arith, mag_zero p, mag_rises p 0 (abs_of p e b) a)) in
        no_minus_zero true (le-leb (sign_of p e) b set) (ne_eqb (mag_of p (abs_of p e b) * k) 0 (λ q. omega arith))
        ∙ sym (ne_eqb b (sign_of p e) (λ q. omega arith))
  ]

-- ---- a float

pub minus_zero_float : (f : Format) (b : ℕ) → is_minus_zero (exact_in (real f b)) ≡ eqb b (sign_in f)
minus_zero_float f b = minus_zero_pattern (step_of f) (fraction_of f) (exponent_of f) b (step_pos f) (inf_range f).0
