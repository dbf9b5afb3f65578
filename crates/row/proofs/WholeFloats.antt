-- Which f32 are whole, by their bits and by the test (x + 2^23) - 2^23 == x.
use mathlib.Core.Path.{◌≡◌, refl, sym, ◌∙◌, ap}
use mathlib.Core.Bool.{true, false}
use Prim.Native.Nat.{ℕ, zero, suc, ◌+◌, ◌-◌, ◌*◌, ◌/◌, ◌%◌, ◌^◌, ◌≤◌, ◌<◌}
use native.Mathlib.Nat.{lt_of_lt_of_le, le_of_eq, mul_assoc, mul-div_cancel, mul-mod_left, le-div_iff_mul-le, add-zero}
use native.Mathlib.Omega.{arith}
use lib.Dec.{T}
use lib.IntN.{pos, nat_abs}
use lib.Pow.{pow-add, pow_pos}
use lib.Ieee.{Float, binary32, fits, to_bits, of_bits, of_fields, odd, add, sub, eq}
use lib.Ieee.Exact.{HasValue}
use lib.Ieee.Fits.{sub-fits}
use Rattle.float.specs.Format.{mag_at, mag_of}
use Rattle.float.specs.Number.{Exact, number_of}
use Rattle.float.specs.Order.{order_z, order_of, pattern_of, compare_of, is_equal}
use Rattle.float.proofs.Magnitude.{mag_rises}
use Rattle.float.proofs.Naturals.{order_equal}
use Rattle.float.proofs.Operators.{eq_is}
use Rattle.float.proofs.SameNumber.{is_equal_lem, equal_integers}
use Rattle.row.specs.Inner.{shift, is_whole}
use Rattle.row.proofs.FloatValue.{value_pattern, over_more}
use Rattle.row.proofs.WholeTest.{back_again}

-- ---- the number that the code names

shift_value : HasValue shift false (2 ^ 23) 1
unfolding of_bits of_fields odd
shift_value = (refl, refl)

-- ---- the language's test on floats, by what their bits stand for

module _ (x y : Float) (hx : T (fits binary32 x)) (hy : T (fits binary32 y)) {X Y : Exact}
    (px : pattern_of 23 8 (to_bits binary32 x) ≡ X) (py : pattern_of 23 8 (to_bits binary32 y) ≡ Y) where
  eq_at : eq x y ≡ is_equal (order_of (number_of X) (number_of Y))
  unfolding compare_of
  eq_at = eq_is binary32 x y hx hy ∙ cc (px, py)

-- ---- the test

module _ (x : Float) (a : ℕ) (hx : T (fits binary32 x)) (v : HasValue x false a (2 ^ 149)) (l : a < 2 ^ 23 * 2 ^ 149) where
  abbrev back : Float
  back = sub binary32 (add binary32 x shift) shift

  back_value : (q : ℕ) × (HasValue back false q 1 × ((n : ℕ) → a ≡ n * 2 ^ 149 → q ≡ n))
  back_value = back_again binary32 x shift a v shift_value l

  tested : is_whole x ≡ is_equal (order_z (pos (back_value.0 * 2 ^ 149)) (pos a))
  tested =
      let q = back_value.0 in
      let back-pattern = value_pattern binary32 back false (q * 2 ^ 149) (sub-fits binary32 (add binary32 x shift) shift)
      (over_more back false q (2 ^ 149) back_value.1.0) in
      eq_at back x (sub-fits binary32 (add binary32 x shift) shift) hx back-pattern (value_pattern binary32 x false a hx v)

  pub whole_found : is_whole x ≡ true → (n : ℕ) × (a ≡ n * 2 ^ 149)
  whole_found h =
      let same : pos (back_value.0 * 2 ^ 149) ≡ pos a = equal_integers (pos (back_value.0 * 2 ^ 149)) (pos a) (is_equal_lem _ (sym tested ∙ h)) in
      (back_value.0, sym (ap nat_abs same))

  pub whole_passes : (n : ℕ) → a ≡ n * 2 ^ 149 → is_whole x ≡ true
  whole_passes n q = tested ∙ ap is_equal (order_equal _ _ (ap (λ (k : ℕ). k * 2 ^ 149) (back_value.1.1 n q) ∙ sym q))

-- ---- by the bits: from 2^p * 2^l steps on there is no digit below 2^l

pub large_whole : (p l x : ℕ) → suc l * 2 ^ p ≤ x → (n : ℕ) × (mag_of p x ≡ n * 2 ^ l)
unfolding mag_of
large_whole p l x h = at_field (x / 2 ^ p) ((le-div_iff_mul-le (pow_pos p)).1 h)
  where
    at_field : (E : ℕ) → suc l ≤ E → (n : ℕ) × (mag_at p E (x % 2 ^ p) ≡ n * 2 ^ l)
    at_field zero g = absurd (omega arith)
    at_field (suc k) g =
        let parts : k ≡ (k - l) + l = omega arith in
        let m = 2 ^ p + x % 2 ^ p in
        (m * 2 ^ (k - l), ap (λ (j : ℕ). m * 2 ^ j) parts ∙ ap (λ (j : ℕ). m * j) (pow-add 2 (k - l) l) ∙ sym (mul_assoc m (2 ^ (k - l)) (2 ^ l)))

mag_edge : (p l : ℕ) → mag_of p (suc l * 2 ^ p) ≡ 2 ^ p * 2 ^ l
unfolding mag_of
mag_edge p l = rw (mul-div_cancel (suc l) (pow_pos p), mul-mod_left (suc l) (2 ^ p), add-zero (2 ^ p)) refl

pub below_large : (p l x : ℕ) → x < suc l * 2 ^ p → mag_of p x < 2 ^ p * 2 ^ l
below_large p l x h = lt_of_lt_of_le (mag_rises p x (suc l * 2 ^ p) h) (le_of_eq (mag_edge p l))
