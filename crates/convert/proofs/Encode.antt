-- Encoding undoes reading, over the number p of fraction bits: so a format holds a magnitude exactly when some abs of it has that magnitude.
use mathlib.Core.Path.{◌≡◌, sym, ◌∙◌, ap, subst}
use mathlib.Core.Bool.{true}
use mathlib.Core.Logic.{inl, inr}
use Prim.Native.Nat.{ℕ, zero, suc, ◌+◌, ◌-◌, ◌*◌, ◌/◌, ◌%◌, ◌^◌, ◌≤◌, ◌<◌}
use native.Mathlib.Nat.{lt_of_lt_of_le, le-div_iff_mul-le, div-lt_iff_lt-mul, mul-mod_left, mod-one, mul-le-mul_right}
use native.Mathlib.Nat.{mul-lt-mul_of_pos_right, mul-div_cancel, div-add-mod', mod-lt, div-one, zero-mul, zero-add, pow-suc, suc-mul}
use native.Mathlib.Nat.{suc-add}
use native.Mathlib.Omega.{arith}
use borrow.Author.Tests.{eq-eqb, eqb-true}
use lib.Pow.{pow_pos, pow-add, pow_mono, high, low}
use lib.Ieee.{size}
use lib.Ieee.Digits.{size-lt, size-le, size_reaches}
use Rattle.float.specs.Format.{Format, fraction_of, mag_at, mag_of, mag_in}
use Rattle.float.proofs.Magnitude.{mag_small}
use Rattle.float.proofs.Naturals.{lt_or_ge}
use Rattle.value.specs.Meaning.{step_of}
use Rattle.value.proofs.Units.{step_pos}
use Rattle.convert.proofs.Binary.{size_is}
use Rattle.convert.specs.Convert.{drop_of, encode_at, encode_of, held_in}

-- ---- how many digits are dropped

drop_low : (p n : ℕ) → n < 2 ^ suc p → drop_of p n ≡ 0
drop_low p n h = let a : size n ≤ suc p = size-le n (suc p) h in omega arith

-- p + 1 leading digits m, and k more below them
drop_high : (p m k : ℕ) → 2 ^ p ≤ m → m < 2 ^ suc p → drop_of p (m * 2 ^ k) ≡ k
drop_high p m k h l =
    let a : size (m * 2 ^ k) ≡ suc (p + k) = size_is (m * 2 ^ k) (p + k)
    (subst (λ (n : ℕ). n ≤ m * 2 ^ k) (sym (pow-add 2 p k)) (mul-le-mul_right (2 ^ k) h))
    (subst (λ (n : ℕ). m * 2 ^ k < n) (sym (pow-add 2 (suc p) k) ∙ ap (λ (n : ℕ). 2 ^ n) (suc-add p k)) (mul-lt-mul_of_pos_right l (pow_pos k))) in
    omega arith

-- ---- encoding undoes reading

encode_fields : (p E f : ℕ) → f < 2 ^ p → encode_at p (mag_at p E f) ≡ E * 2 ^ p + f
encode_fields p zero f h =
    let d : drop_of p f ≡ 0 = drop_low p f (lt_of_lt_of_le h (pow_mono (omega arith))) in
    rw (d, zero-mul (2 ^ p), zero-add (f / 1), div-one f) (omega arith)
encode_fields p (suc k) f h =
    let t : 2 ^ suc p ≡ 2 ^ p * 2 = pow-suc 2 p in
    let d : drop_of p ((2 ^ p + f) * 2 ^ k) ≡ k = drop_high p (2 ^ p + f) k (omega arith) (omega arith) in
    rw (d, mul-div_cancel (2 ^ p + f) (pow_pos k)) (omega (arith, suc-mul k (2 ^ p)))

pub encode_mag : (p x : ℕ) → encode_at p (mag_of p x) ≡ x
unfolding mag_of
encode_mag p x = encode_fields p (x / 2 ^ p) (x % 2 ^ p) (mod-lt x (pow_pos p)) ∙ div-add-mod' x (2 ^ p)

-- so two abs of one scaled magnitude are one
pub mag_same : (p x y : ℕ) → mag_of p x ≡ mag_of p y → x ≡ y
mag_same p x y h = sym (encode_mag p x) ∙ ap (encode_at p) h ∙ encode_mag p y

-- and nothing stood below the leading digits
has_fields : (p E f : ℕ) → f < 2 ^ p → mag_at p E f % 2 ^ drop_of p (mag_at p E f) ≡ 0
has_fields p zero f h =
    let d : drop_of p f ≡ 0 = drop_low p f (lt_of_lt_of_le h (pow_mono (omega arith))) in
    rw (d, mod-one f)
has_fields p (suc k) f h =
    let t : 2 ^ suc p ≡ 2 ^ p * 2 = pow-suc 2 p in
    let d : drop_of p ((2 ^ p + f) * 2 ^ k) ≡ k = drop_high p (2 ^ p + f) k (omega arith) (omega arith) in
    rw (d, mul-mod_left (2 ^ p + f) (2 ^ k))

pub mag_has : (p x : ℕ) → mag_of p x % 2 ^ drop_of p (mag_of p x) ≡ 0
unfolding mag_of
mag_has p x = has_fields p (x / 2 ^ p) (x % 2 ^ p) (mod-lt x (pow_pos p))

-- ---- reading undoes encoding, where nothing stands below the leading digits

-- q has p + 1 digits: the field is one more than k
mag_leading : (p k q : ℕ) → 2 ^ p ≤ q → q < 2 ^ suc p → mag_of p (k * 2 ^ p + q) ≡ q * 2 ^ k
unfolding mag_of
mag_leading p k q l h =
    let t : 2 ^ suc p ≡ 2 ^ p * 2 = pow-suc 2 p in
    let r : q - 2 ^ p < 2 ^ p = omega arith in
    let a : k * 2 ^ p + q ≡ suc k * 2 ^ p + (q - 2 ^ p) = omega (arith, suc-mul k (2 ^ p)) in
    let m : 2 ^ p + (q - 2 ^ p) ≡ q = omega arith in
    rw (a, high (suc k) p r, low (suc k) p r) (ap (λ (n : ℕ). n * 2 ^ k) m)

-- the leading digits: fewer than p + 2, and p + 1 of them when some are dropped
leading_small : (p n : ℕ) → n / 2 ^ drop_of p n < 2 ^ suc p
leading_small p n =
    let b : 2 ^ size n ≤ 2 ^ suc p * 2 ^ drop_of p n = subst (λ (x : ℕ). 2 ^ size n ≤ x) (pow-add 2 (suc p) (drop_of p n)) (pow_mono (omega arith)) in
    (div-lt_iff_lt-mul {k = 2 ^ drop_of p n} {x = n} {y = 2 ^ suc p} (pow_pos (drop_of p n))).1 (lt_of_lt_of_le (size-lt n) b)

leading_large : (p n : ℕ) → 0 < drop_of p n → 2 ^ p ≤ n / 2 ^ drop_of p n
leading_large p n h =
    let b : 2 ^ (p + drop_of p n) ≤ n = size_reaches n (p + drop_of p n) (omega arith) in
    (le-div_iff_mul-le {k = 2 ^ drop_of p n} {x = 2 ^ p} {y = n} (pow_pos (drop_of p n))).1 (subst (λ (x : ℕ). x ≤ n) (pow-add 2 p (drop_of p n)) b)

none_dropped : (p n : ℕ) → n / 2 ^ drop_of p n < 2 ^ p → drop_of p n ≡ 0
none_dropped p n l = elim (lt_or_ge 0 (drop_of p n)) [
  | inl h ↦ let g : 2 ^ p ≤ n / 2 ^ drop_of p n = leading_large p n h in absurd (omega arith)
  | inr z ↦ omega arith
]

pub mag_encode : (p n : ℕ) → n % 2 ^ drop_of p n ≡ 0 → mag_of p (encode_at p n) ≡ n
mag_encode p n z = elim (lt_or_ge (n / 2 ^ drop_of p n) (2 ^ p)) [
  | inl l ↦
      let d : drop_of p n ≡ 0 = none_dropped p n l in
      let e : encode_at p n ≡ n = rw (d, zero-mul (2 ^ p), zero-add (n / 1), div-one n) in
      let s : n < 2 ^ p = subst (λ (x : ℕ). x < 2 ^ p) (rw (d, div-one n)) l in
      ap (mag_of p) e ∙ mag_small p n s
  | inr g ↦
      mag_leading p (drop_of p n) (n / 2 ^ drop_of p n) g (leading_small p n) ∙ omega (arith, div-add-mod' n (2 ^ drop_of p n))
]

-- ---- what a format holds

-- what some abs has is encoded as that abs
pub encode_held : (f : Format) (x : ℕ) → encode_of f (mag_in f x * step_of f) ≡ x
unfolding encode_of
encode_held f x = rw (mul-div_cancel (mag_in f x) (step_pos f)) (encode_mag (fraction_of f) x)

-- held: some abs has the magnitude
pub held_of : (f : Format) (x : ℕ) → held_in f (mag_in f x * step_of f) ≡ true
unfolding held_in
held_of f x = eq-eqb _ _ (ap (λ (n : ℕ). mag_in f n * step_of f) (encode_held f x))

-- and the encoded abs is one that has it
pub held_has : (f : Format) (m : ℕ) → held_in f m ≡ true → mag_in f (encode_of f m) * step_of f ≡ m
unfolding held_in
held_has f m h = eqb-true _ _ h
