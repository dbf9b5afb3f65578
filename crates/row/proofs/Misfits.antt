-- The tests of the looking pass: a sample passes them exactly when it is a whole number from 0 to 65535, and not minus zero.
use mathlib.Core.Path.{◌≡◌, refl, sym, ◌∙◌, ap, subst}
use mathlib.Core.Bool.{Bool, true, false, not, ◌&&◌, true≢false}
use Prim.Native.Nat.{ℕ, ◌*◌, ◌^◌, ◌≤◌, ◌<◌}
use native.Mathlib.Nat.{le_trans, le_of_eq, le_of_mul-le-mul_right, mul-le-mul_right, mul-lt-mul_of_pos_right, lt_of_le_of_lt}
use native.Mathlib.Omega.{arith}
use borrow.Author.Tests.{le-leb, leb-true}
use lib.Dec.{T, leb, lit<, lit≤}
use lib.Pow.{pow_pos}
use lib.Ieee.{Float, binary32, fits, to_bits}
use Rattle.float.specs.Format.{mag_of}
use Rattle.float.specs.Number.{finite}
use Rattle.float.proofs.Magnitude.{mag_grows, mag_reflects}
use Rattle.float.proofs.Comparing.{pattern_clear, clear_magnitude}
use Rattle.row.specs.Inner.{is_whole, is_misfit}
use Rattle.row.proofs.FloatValue.{pattern_value}
use Rattle.row.proofs.WholeFloats.{whole_found, whole_passes}
use Rattle.row.proofs.F32Sample.{exact_of}

-- a whole number from 0 to 65535, without a sign
pub record Sample (x : Float) : Type 0 where
  pub count : ℕ
  pub exact : exact_of x ≡ finite false (count * 2 ^ 149)
  pub small : count ≤ 65535

-- ---- the compare of bits: from plus zero to 65535

last_magnitude : mag_of 23 0x477f_ff00 ≡ 65535 * 2 ^ 149
unfolding mag_of
last_magnitude = refl

-- a magnitude up to the last one lies below that from which all floats are whole
below_shift : (a : ℕ) → a ≤ 65535 * 2 ^ 149 → a < 2 ^ 23 * 2 ^ 149
below_shift a h = let l : 65535 < 2 ^ 23 = lit< tt in lt_of_le_of_lt h (mul-lt-mul_of_pos_right l (pow_pos 149))

both : (p q : Bool) → not (p && q) ≡ false → (p ≡ true) × (q ≡ true)
both true true h = (refl, refl)
both true false h = absurd (true≢false h)
both false q h = absurd (true≢false h)

module _ (x : Float) (hx : T (fits binary32 x)) where
  abbrev bits : ℕ
  bits = to_bits binary32 x

  -- the test on a sample that lies in the range
  module _ (a : ℕ) (q : exact_of x ≡ finite false a) (m : a ≤ 65535 * 2 ^ 149) where
    found : is_whole x ≡ true → (n : ℕ) × (a ≡ n * 2 ^ 149)
    found = whole_found x a hx (pattern_value binary32 x false a hx q) (below_shift a m)

    passes : (n : ℕ) → a ≡ n * 2 ^ 149 → is_whole x ≡ true
    passes = whole_passes x a hx (pattern_value binary32 x false a hx q) (below_shift a m)

  pub fit_sample : is_misfit x ≡ false → Sample x
  fit_sample h =
      let t = both (leb bits 0x477f_ff00) (is_whole x) h in
      let low : bits ≤ 0x477f_ff00 = leb-true bits 0x477f_ff00 t.0 in
      let q = pattern_clear 23 8 bits (omega arith) (lit≤ tt) in
      let m : mag_of 23 bits ≤ 65535 * 2 ^ 149 = subst (λ (k : ℕ). mag_of 23 bits ≤ k) last_magnitude (mag_grows 23 bits 0x477f_ff00 low) in
      let n = found (mag_of 23 bits) q m t.1 in
      record {
        count = n.0;
        exact = q ∙ ap (finite false) n.1;
        small = le_of_mul-le-mul_right (subst (λ (k : ℕ). k ≤ 65535 * 2 ^ 149) n.1 m) (pow_pos 149);
      }

  pub sample_fit : Sample x → is_misfit x ≡ false
  sample_fit t =
      let m : t.count * 2 ^ 149 ≤ 65535 * 2 ^ 149 = mul-le-mul_right (2 ^ 149) t.small in
      let own : mag_of 23 bits ≡ t.count * 2 ^ 149 = clear_magnitude 23 8 bits (t.count * 2 ^ 149) t.exact in
      let low : bits ≤ 0x477f_ff00 = mag_reflects 23 bits 0x477f_ff00 (le_trans (le_of_eq own) (le_trans m (le_of_eq (sym last_magnitude)))) in
      cc (le-leb bits 0x477f_ff00 low, passes (t.count * 2 ^ 149) t.exact m t.count refl)
