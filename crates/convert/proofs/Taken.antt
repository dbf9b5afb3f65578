-- A value taken apart: the parts mean what the value stands for.
use mathlib.Core.Path.{◌≡◌, refl, sym, ◌∙◌, ap}
use mathlib.Core.Bool.{Bool}
use Prim.Native.Nat.{ℕ, suc, ◌+◌, ◌-◌, ◌*◌, ◌/◌, ◌%◌, ◌^◌, ◌≤◌, ◌<◌}
use native.Mathlib.Nat.{mul_assoc, div-lt_iff_lt-mul, lt_of_lt_of_le}
use native.Mathlib.Omega.{arith}
use borrow.Author.Tests.{lt-ltb, le-ltb, eq-eqb, ne_eqb}
use lib.Pow.{pow_pos, pow-add}
use Rattle.float.specs.Format.{Format, fraction_of, mag_at, mag_of, abs_in, inf_in, negative_in}
use Rattle.float.specs.Number.{not_number, infinite, finite, times}
use Rattle.float.specs.Order.{pattern_of, pattern_in}
use Rattle.convert.specs.Inner.{pattern_at}

-- ---- the parts of a pattern

module _ (p i : ℕ) (s : Bool) (a c : ℕ) where
  pub taken_nan : i < a → not_number ≡ times (2 ^ c) (pattern_at p i s a)
  taken_nan h = simp (lt-ltb i a h)

  pub taken_infinite : a ≤ i → a ≡ i → infinite s ≡ times (2 ^ c) (pattern_at p i s a)
  taken_infinite h q = simp (le-ltb i a h, eq-eqb a i q)

  finite_at : a ≤ i → (a ≡ i → ⊥) → pattern_at p i s a ≡ finite s (mag_of p a)
  finite_at h d = simp (le-ltb i a h, ne_eqb a i d)

  pub taken_low : a ≤ i → (a ≡ i → ⊥) → a / 2 ^ p ≡ 0 → finite s (a % 2 ^ p * 2 ^ c) ≡ times (2 ^ c) (pattern_at p i s a)
  unfolding mag_of
  taken_low h d e = sym (ap (times (2 ^ c)) (finite_at h d) ∙ rw e refl)

  pub taken_high : a ≤ i → (a ≡ i → ⊥) → (a / 2 ^ p ≡ 0 → ⊥) → finite s ((2 ^ p + a % 2 ^ p) * 2 ^ (a / 2 ^ p - 1 + c)) ≡ times (2 ^ c) (pattern_at p i s a)
  unfolding mag_of
  taken_high h d e =
      let k = a / 2 ^ p - 1 in
      let q : a / 2 ^ p ≡ suc k = omega arith in
      let w : mag_at p (a / 2 ^ p) (a % 2 ^ p) * 2 ^ c ≡ (2 ^ p + a % 2 ^ p) * 2 ^ (k + c) =
      ap (λ (n : ℕ). mag_at p n (a % 2 ^ p) * 2 ^ c) q
      ∙ mul_assoc (2 ^ p + a % 2 ^ p) (2 ^ k) (2 ^ c)
      ∙ ap (λ (n : ℕ). (2 ^ p + a % 2 ^ p) * n) (sym (pow-add 2 k c)) in
      sym (ap (times (2 ^ c)) (finite_at h d) ∙ ap (finite s) w)

-- the exponent field is small
pub field_small : (p i a : ℕ) → i ≤ 2047 * 2 ^ p → a ≤ i → (a ≡ i → ⊥) → a / 2 ^ p < 2047
field_small p i a h l d = let b : a < i = omega arith in (div-lt_iff_lt-mul {k = 2 ^ p} {x = a} {y = 2047} (pow_pos p)).1 (lt_of_lt_of_le b h)

-- a float's pattern by its sign and abs
pub taken_pattern : (f : Format) {s : Bool} {a b m : ℕ} → b ≡ m → s ≡ negative_in f b →
    a ≡ abs_in f b → pattern_at (fraction_of f) (inf_in f) s a ≡ pattern_in f m
unfolding pattern_of
taken_pattern f {s} {a} {b} q r t =
    ap (λ (k : Bool). pattern_at (fraction_of f) (inf_in f) k a) r
    ∙ ap (pattern_at (fraction_of f) (inf_in f) (negative_in f b)) t
    ∙ ap (λ (c : ℕ). pattern_at (fraction_of f) (inf_in f) (negative_in f c) (abs_in f c)) q
