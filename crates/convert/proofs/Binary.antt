-- Binary digits of whole numbers: how many there are, what lies below a place, and m * 2^g over 2^d.
use mathlib.Core.Path.{◌≡◌, sym, ◌∙◌, ap, subst}
use mathlib.Core.Bool.{true, false, not}
use mathlib.Core.Logic.{inl, inr}
use Prim.Native.Nat.{ℕ, zero, suc, ◌+◌, ◌-◌, ◌*◌, ◌/◌, ◌%◌, ◌^◌, ◌≤◌, ◌<◌}
use native.Mathlib.Nat.{lt_of_lt_of_le, lt_of_le_of_lt, lt_of_not-le, mul-le-mul_right, mul-lt-mul_of_pos_right, mul_assoc, mul-pos}
use native.Mathlib.Nat.{mul-mod_left, mul-div_cancel, mul-div-mul_right, mod-eq_of_lt, div-eq_of_lt, mod-one, one-mul, zero-mul, add-zero}
use native.Mathlib.Nat.{pow-suc, suc-add, sub-add_cancel}
use native.Mathlib.Omega.{arith}
use borrow.Author.Tests.{ne_eqb, lt-ltb}
use lib.Arith.{mod-mul}
use lib.Count.{count_leading_zeros, leading_top, leading_of_zero, count_trailing_zeros}
use lib.Dec.{eqb, ltb, leb-suc-zero, leb-suc-suc}
use lib.Pow.{pow_pos, pow-add, pow_mono}
use lib.Ieee.{size}
use lib.Ieee.Digits.{size-lt, size_reaches, size-le}
use Rattle.float.proofs.Naturals.{lt_or_ge}

-- ---- how many digits

pub size_is : (n j : ℕ) → 2 ^ j ≤ n → n < 2 ^ suc j → size n ≡ suc j
size_is n j h k =
    let a : size n ≤ suc j = size-le n (suc j) k in
    let b : j < size n = lt_of_not-le (λ (w : size n ≤ j). let x : n < 2 ^ j = lt_of_lt_of_le (size-lt n) (pow_mono w) in omega arith) in
    omega arith

pub size_zero : size 0 ≡ 0
size_zero = let h = size-le 0 0 (omega arith) in omega arith

size_pos : (n : ℕ) → 0 < n → 0 < size n
size_pos n h = lt_of_not-le (λ (w : size n ≤ 0). let x : n < 2 ^ 0 = lt_of_lt_of_le (size-lt n) (pow_mono w) in omega arith)

-- k more digits below
pub size_scale : (n k : ℕ) → 0 < n → size (n * 2 ^ k) ≡ size n + k
size_scale n k h =
    let s = size_pos n h in
    let j = size n - 1 in
    let e : size n ≡ suc j = omega arith in
    let lo : 2 ^ j ≤ n = size_reaches n j (omega arith) in
    let hi : n < 2 ^ suc j = subst (λ (s : ℕ). n < 2 ^ s) e (size-lt n) in
    let r : size (n * 2 ^ k) ≡ suc (j + k) = size_is (n * 2 ^ k) (j + k)
    (subst (λ (x : ℕ). x ≤ n * 2 ^ k) (sym (pow-add 2 j k)) (mul-le-mul_right (2 ^ k) lo))
    (subst (λ (x : ℕ). n * 2 ^ k < x) (sym (pow-add 2 (suc j) k) ∙ ap (λ (x : ℕ). 2 ^ x) (suc-add j k)) (mul-lt-mul_of_pos_right hi (pow_pos k))) in
    omega arith

-- the machine's count of leading zeros gives it
pub size_leading : (n : ℕ) → n < 2 ^ 64 → 64 - count_leading_zeros 64 n ≡ size n
size_leading zero h = let e = leading_of_zero 64 in let z = size_zero in omega arith
size_leading (suc n) h =
    let t = leading_top 64 (suc n) (omega arith) h in
    let e = size_is (suc n) t.0 t.2 t.3 in
    omega (arith, t.1)

-- ---- the digits below a place, from the lowest on

lowest_first : (n l : ℕ) → n % 2 ^ suc l ≡ (n / 2 % 2 ^ l) * 2 + n % 2
lowest_first n l = ap (λ (k : ℕ). n % k) (pow-suc 2 l) ∙ mod-mul n (pow_pos l) (omega arith)

fraction_found : (n l : ℕ) → 0 < l → n % 2 ≡ 1 → eqb (n % 2 ^ l) 0 ≡ false
fraction_found n zero h o = absurd (omega arith)
fraction_found n (suc l) h o = ne_eqb _ _ (λ (e : n % 2 ^ suc l ≡ 0). omega (arith, lowest_first n l))

zero_scale : (a : ℕ) {c : ℕ} → 0 < c → eqb (a * c) 0 ≡ eqb a 0
zero_scale zero {c} h = ap (λ (n : ℕ). eqb n 0) (zero-mul c)
zero_scale (suc a) {c} h = let p : 0 < suc a = omega arith in
    ne_eqb (suc a * c) 0 (λ e. let k = mul-pos p h in omega arith) ∙ sym (ne_eqb (suc a) 0 (λ e. omega arith))

fraction_passed : (n l : ℕ) → 0 < l → (n % 2 ≡ 1 → ⊥) → eqb (n / 2 % 2 ^ (l - 1)) 0 ≡ eqb (n % 2 ^ l) 0
fraction_passed n zero h o = absurd (omega arith)
fraction_passed n (suc l) h o =
    let q : suc l - 1 ≡ l = omega arith in
    let z : n % 2 ≡ 0 = omega arith in
    rw q (sym (ap (λ (k : ℕ). eqb k 0) (lowest_first n l ∙ ap (λ (k : ℕ). n / 2 % 2 ^ l * 2 + k) z ∙ add-zero _) ∙ zero_scale (n / 2 % 2 ^ l) (omega arith)))

fraction_none : (n : ℕ) {l : ℕ} → l ≤ 0 → eqb (n % 2 ^ l) 0 ≡ true
fraction_none n {l} h = let z : l ≡ 0 = omega arith in rw (z, mod-one n)

-- so one of the lowest t is set exactly when fewer than t zeros stand at the end
pub trailing_fraction : (k n t : ℕ) → 0 < n → n < 2 ^ k → ltb (count_trailing_zeros k n) t ≡ not (eqb (n % 2 ^ t) 0)
unfolding count_trailing_zeros
trailing_fraction zero n t z h = absurd (omega arith)
trailing_fraction (suc k) n zero z h = leb-suc-zero (count_trailing_zeros (suc k) n) ∙ sym (ap not (fraction_none n {l = 0} (omega arith)))
trailing_fraction (suc k) n (suc t) z h = elim (lt_or_ge 0 (n % 2)) [
  | inl l ↦
      let odd : n % 2 ≡ 1 = omega arith in
      rw odd (lt-ltb 0 (suc t) (omega arith) ∙ sym (ap not (fraction_found n (suc t) (omega arith) odd)))
  | inr g ↦
      let even : n % 2 ≡ 0 = omega arith in
      let one_less : suc t - 1 ≡ t = omega arith in
      let passed = fraction_passed n (suc t) (omega arith) (λ o. omega arith) in
      rw even (leb-suc-suc _ t ∙ trailing_fraction k (n / 2) t (omega arith) (omega (arith, pow-suc 2 k)) ∙ ap not (rw one_less at passed))
]

-- ---- m * 2^g over 2^d

-- a factor of both is a factor of the remainder
pub mod_scale : (m : ℕ) {d c : ℕ} → 0 < d → 0 < c → m * c % (d * c) ≡ m % d * c
mod_scale m {d} {c} hd hc = mod-mul (m * c) hd hc ∙ rw (mul-div_cancel m hc, mul-mod_left m c, add-zero (m % d * c))

pow_split : (g l : ℕ) → l ≤ g → 2 ^ g ≡ 2 ^ (g - l) * 2 ^ l
pow_split g l h = ap (λ (n : ℕ). 2 ^ n) (sym (sub-add_cancel h)) ∙ pow-add 2 (g - l) l

module _ (m g d : ℕ) where
  pub over_up : d ≤ g → (m * 2 ^ g % 2 ^ d ≡ 0) × (m * 2 ^ g / 2 ^ d ≡ m * 2 ^ (g - d))
  over_up h =
      let e : m * 2 ^ g ≡ m * 2 ^ (g - d) * 2 ^ d = ap (λ (n : ℕ). m * n) (pow_split g d h) ∙ sym (mul_assoc m (2 ^ (g - d)) (2 ^ d)) in
      (rw (e, mul-mod_left (m * 2 ^ (g - d)) (2 ^ d)), rw (e, mul-div_cancel (m * 2 ^ (g - d)) (pow_pos d)))

  pub over_down : g ≤ d → (eqb (m * 2 ^ g % 2 ^ d) 0 ≡ eqb (m % 2 ^ (d - g)) 0) × (m * 2 ^ g / 2 ^ d ≡ m / 2 ^ (d - g))
  over_down h = (
    rw (pow_split d g h, mod_scale m (pow_pos (d - g)) (pow_pos g), zero_scale (m % 2 ^ (d - g)) (pow_pos g)),
    rw (pow_split d g h, mul-div-mul_right m (2 ^ (d - g)) (pow_pos g)),
  )

  -- as the machine shifts
  pub shift_up : d ≤ g → 0 < m → m * 2 ^ g / 2 ^ d < 2 ^ 64 → (g - d < 64) × (m * 2 ^ (g - d) % 2 ^ 64 ≡ m * 2 ^ g / 2 ^ d)
  shift_up h z b =
      let q : m * 2 ^ (g - d) < 2 ^ 64 = subst (λ (x : ℕ). x < 2 ^ 64) (over_up h).1 b in
      let r : 2 ^ (g - d) ≤ m * 2 ^ (g - d) = subst (λ (x : ℕ). x ≤ m * 2 ^ (g - d)) (one-mul (2 ^ (g - d))) (mul-le-mul_right (2 ^ (g - d)) z) in
      (below (g - d) (lt_of_le_of_lt r q), mod-eq_of_lt q ∙ sym (over_up h).1)
    where
      below : (k : ℕ) → 2 ^ k < 2 ^ 64 → k < 64
      below k h = lt_of_not-le (λ (w : 64 ≤ k). let x : 2 ^ 64 ≤ 2 ^ k = pow_mono {i = 64} {j = k} w in omega arith)

  pub shift_out : g ≤ d → m < 2 ^ 64 → 63 < d - g → 0 ≡ m * 2 ^ g / 2 ^ d
  shift_out h f k = sym ((over_down h).1 ∙ div-eq_of_lt (lt_of_lt_of_le f (pow_mono {i = 64} {j = d - g} k)))
