-- The sign, abs and the scaled magnitude of a pattern, over (p, e). The scaled magnitude strictly rises with abs:
-- within one exponent the fraction decides, and a higher exponent at least doubles what the lower one can reach.
use mathlib.Core.Path.{◌≡◌, refl, sym, ◌∙◌, ap, subst}
use mathlib.Core.Bool.{Bool, true, false}
use mathlib.Core.Logic.{inl, inr}
use Prim.Native.Nat.{ℕ, zero, suc, ◌+◌, ◌-◌, ◌*◌, ◌/◌, ◌%◌, ◌^◌, ◌≤◌, ◌<◌}
use native.Mathlib.Nat.{eq-or-lt_of_le, le_trans, lt_of_lt_of_le, mul-lt-mul_of_pos_right, mul-le-mul_right, mul-le-mul_left, mul_assoc}
use native.Mathlib.Nat.{mul_comm, pow-suc, pow-zero, mul-one, mod-lt, le_of_lt, le_of_eq, zero-div, zero-mod, div-eq_of_lt, mod-eq_of_lt}
use native.Mathlib.Nat.{div_self, mod_self, suc-mul, add-zero, add_comm}
use native.Mathlib.Omega.{arith}
use borrow.Author.Tests.{le-leb, lt-leb, ltb-true, ltb-false}
use lib.Dec.{ltb}
use lib.Pow.{pow_pos, pow_mono, shr_mono, split, high, low, high_ones}
use lib.IntN.{nat_abs}
use Rattle.float.specs.Number.{signed_of}
use Rattle.float.specs.Format.{sign_of, inf_of, abs_of, mag_at, mag_of}
use Rattle.float.specs.ClassMeaning.{largest_of}
use Rattle.float.proofs.Naturals.{lt_or_ge}

-- ---- abs

pub abs_clear : (p e b : ℕ) → b < 2 ^ (p + e) → abs_of p e b ≡ b
unfolding abs_of
abs_clear p e b h = simp (lt-leb _ _ h)

pub abs_set : (p e b : ℕ) → 2 ^ (p + e) ≤ b → abs_of p e b ≡ b - 2 ^ (p + e)
unfolding abs_of
abs_set p e b h = simp (le-leb _ _ h)

-- for a function, by its test
pub abs_below : (p e b : ℕ) → ltb b (sign_of p e) ≡ true → b ≡ abs_of p e b
abs_below p e b t = sym (abs_clear p e b (ltb-true _ _ t))

pub abs_reached : (p e b s : ℕ) {x : ℕ} → x ≡ b - s → s ≡ sign_of p e → ltb b s ≡ false → x ≡ abs_of p e b
abs_reached p e b s q r t = q ∙ ap (λ (n : ℕ). b - n) r ∙ sym (abs_set p e b (ltb-false _ _ (cc (r, t))))

pub abs_lt : (p e b : ℕ) → b < 2 * 2 ^ (p + e) → abs_of p e b < 2 ^ (p + e)
abs_lt p e b h = elim (lt_or_ge b (2 ^ (p + e))) [
  | inl l ↦ rw (abs_clear p e b l) l
  | inr g ↦ rw (abs_set p e b g) (omega arith)
]

pub abs_signed : (s : Bool) (m : ℕ) → nat_abs (signed_of s m) ≡ m
abs_signed false m = refl
abs_signed true zero = refl
abs_signed true (suc m) = refl

-- ---- the scaled magnitude

mag_below : (p E f : ℕ) → f < 2 ^ p → mag_at p E f < 2 ^ p * 2 ^ E
mag_below p zero f h = simp (pow-zero, mul-one) h
mag_below p (suc k) f h =
    let l : (2 ^ p + f) * 2 ^ k < (2 ^ p * 2) * 2 ^ k = mul-lt-mul_of_pos_right (omega arith) (pow_pos k) in
    rw (pow-suc, mul_comm (2 ^ k) 2, ← mul_assoc) l

mag_above : (p k f : ℕ) → 2 ^ p * 2 ^ k ≤ mag_at p (suc k) f
mag_above p k f = mul-le-mul_right (2 ^ k) (omega arith)

-- a higher exponent field
mag_fields : (p E F f g : ℕ) → E < F → f < 2 ^ p → mag_at p E f < mag_at p F g
mag_fields p E zero f g h hf = absurd (omega arith)
mag_fields p E (suc k) f g h hf =
    lt_of_lt_of_le (mag_below p E f hf) (le_trans (mul-le-mul_left (2 ^ p) (pow_mono (omega arith))) (mag_above p k g))

-- the same exponent field
mag_fractions : (p E f g : ℕ) → f < g → mag_at p E f < mag_at p E g
mag_fractions p zero f g h = h
mag_fractions p (suc k) f g h = mul-lt-mul_of_pos_right (omega arith) (pow_pos k)

pub mag_rises : (p x y : ℕ) → x < y → mag_of p x < mag_of p y
unfolding mag_of
mag_rises p x y h =
    elim (eq-or-lt_of_le (shr_mono p (le_of_lt h))) [
      | inl same ↦
          let u = split x p in
          let v = split y p in
          let g : x % 2 ^ p < y % 2 ^ p = omega (arith, ap (λ (n : ℕ). n * 2 ^ p) same) in
          subst (λ (n : ℕ). mag_at p (x / 2 ^ p) (x % 2 ^ p) < mag_at p n (y % 2 ^ p)) same (mag_fractions p (x / 2 ^ p) (x % 2 ^ p) (y % 2 ^ p) g)
      | inr less ↦ mag_fields p (x / 2 ^ p) (y / 2 ^ p) (x % 2 ^ p) (y % 2 ^ p) less (mod-lt x (pow_pos p))
    ]

pub mag_zero : (p : ℕ) → mag_of p 0 ≡ 0
unfolding mag_of
mag_zero p = simp (zero-div, zero-mod)

pub mag_grows : (p x y : ℕ) → x ≤ y → mag_of p x ≤ mag_of p y
mag_grows p x y h = elim (eq-or-lt_of_le h) [
  | inl q ↦ le_of_eq (ap (mag_of p) q)
  | inr l ↦ le_of_lt (mag_rises p x y l)
]

pub mag_reflects : (p x y : ℕ) → mag_of p x ≤ mag_of p y → x ≤ y
mag_reflects p x y h = elim (lt_or_ge y x) [
  | inl l ↦ absurd (omega (arith, mag_rises p y x l))
  | inr g ↦ g
]

-- so no two have one magnitude
pub mag_injective : (p x y : ℕ) → mag_of p x ≡ mag_of p y → x ≡ y
mag_injective p x y q = omega (arith, mag_reflects p x y (le_of_eq q), mag_reflects p y x (le_of_eq (sym q)))

-- below 2 ^ p the exponent field is 0
pub mag_small : (p x : ℕ) → x < 2 ^ p → mag_of p x ≡ x
unfolding mag_of
mag_small p x h = simp (div-eq_of_lt h, mod-eq_of_lt h)

-- the smallest normal magnitude, and the largest
pub mag_normal : (p : ℕ) → mag_of p (2 ^ p) ≡ 2 ^ p
unfolding mag_of
mag_normal p = simp (div_self (pow_pos p), mod_self, pow-zero, mul-one, add-zero)

-- the last abs of an exponent field has all ones below it
pub mag_last : (p k : ℕ) → mag_of p (suc (suc k) * 2 ^ p - 1) ≡ (2 ^ suc p - 1) * 2 ^ k
unfolding mag_of
mag_last p k =
    let u : 0 < 2 ^ p = pow_pos p in
    let l : 2 ^ p - 1 < 2 ^ p = omega arith in
    let x : suc (suc k) * 2 ^ p - 1 ≡ suc k * 2 ^ p + (2 ^ p - 1) = omega (arith, suc-mul (suc k) (2 ^ p)) in
    let m : 2 ^ p + (2 ^ p - 1) ≡ 2 ^ suc p - 1 = omega (arith, pow-suc 2 p) in
    ap (mag_of p) x ∙ rw (high (suc k) p l, low (suc k) p l) (ap (λ (n : ℕ). n * 2 ^ k) m)

-- for a format with two exponent bits or more
pub mag_largest : (p e : ℕ) → 2 ≤ e → mag_of p (inf_of p e - 1) ≡ largest_of p e
mag_largest p e h =
    let t : 4 ≤ 2 ^ e = pow_mono h in
    let i : 2 ^ (p + e) - 2 ^ p ≡ (2 ^ e - 1) * 2 ^ p = ap (λ (n : ℕ). 2 ^ n - 2 ^ p) (add_comm p e) ∙ high_ones e p in
    let s : 2 ^ e - 1 ≡ suc (suc (2 ^ e - 3)) = omega arith in
    ap (λ (n : ℕ). mag_of p (n - 1)) (i ∙ ap (λ (n : ℕ). n * 2 ^ p) s) ∙ mag_last p (2 ^ e - 3)
