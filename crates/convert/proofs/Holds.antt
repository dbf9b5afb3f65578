-- A magnitude S in a float format of p fraction bits, smallest step 2^c and highest exponent `last`: k digits are dropped beside the c below the step.
-- The format holds S exactly when those digits are 0; above the largest number it is 4, else 5.
use mathlib.Core.Path.{◌≡◌, refl, sym, ◌∙◌, ap, subst}
use mathlib.Core.Bool.{Bool, true, false, not}
use mathlib.Core.Logic.{◌⊎◌, inl, inr}
use Prim.Native.Nat.{ℕ, zero, suc, ◌+◌, ◌-◌, ◌*◌, ◌/◌, ◌%◌, ◌^◌, ◌≤◌, ◌<◌}
use native.Mathlib.Nat.{mul-le-mul, mul_assoc, mul_comm, mul-pos, zero-mul, zero-div, lt_of_lt_of_le, le_of_lt, le_of_eq, le_trans}
use native.Mathlib.Nat.{le-div_iff_mul-le, div-lt_iff_lt-mul, div-eq_of_lt, div-add-mod', mod-lt, mod-eq_of_lt, mul-div_cancel, suc-mul}
use native.Mathlib.Nat.{add-zero, pow-suc}
use native.Mathlib.Omega.{arith}
use borrow.Author.Tests.{eq-eqb, eqb-true, eqb-false, lt-ltb, le-ltb, not-true}
use lib.Dec.{eqb}
use lib.Arith.{mod-mul}
use lib.Ieee.{size}
use lib.Ieee.Digits.{size-lt, size_reaches}
use lib.Pow.{pow_pos, pow-add, pow_mono, pow-lt, shr-shr}
use Rattle.float.specs.Format.{mag_of}
use Rattle.float.proofs.Naturals.{lt_or_ge}
use Rattle.value.specs.Outcome.{gives, refuses}
use Rattle.convert.specs.Convert.{drop_of, encode_at}
use Rattle.convert.specs.Inner.{found, held_at, float_at}
use Rattle.convert.proofs.Binary.{size_is, size_zero, size_scale, mod_scale}
use Rattle.convert.proofs.Encode.{mag_has, mag_encode}

-- ---- the digits that stay

size_over : (S c : ℕ) → size (S / 2 ^ c) ≡ size S - c
size_over S c = elim (lt_or_ge c (size S)) [
  | inl h ↦
      let j = size S - 1 - c in
      let lo : 2 ^ (j + c) ≤ S = size_reaches S (j + c) (omega arith) in
      let hi : 2 ^ size S ≤ 2 ^ suc j * 2 ^ c = subst (λ (n : ℕ). 2 ^ size S ≤ n) (pow-add 2 (suc j) c) (pow_mono (omega arith)) in
      let s : size (S / 2 ^ c) ≡ suc j = size_is (S / 2 ^ c) j
      ((le-div_iff_mul-le {k = 2 ^ c} {x = 2 ^ j} {y = S} (pow_pos c)).1 (subst (λ (n : ℕ). n ≤ S) (pow-add 2 j c) lo))
      ((div-lt_iff_lt-mul {k = 2 ^ c} {x = S} {y = 2 ^ suc j} (pow_pos c)).1 (lt_of_lt_of_le (size-lt S) hi)) in
      omega arith
  | inr g ↦
      let l : S < 2 ^ c = lt_of_lt_of_le (size-lt S) (pow_mono g) in
      let z : S / 2 ^ c ≡ 0 = div-eq_of_lt l in
      rw (z, size_zero) (omega arith)
]

module _ (p c S k : ℕ) (e : k ≡ size S - suc p - c) where
  drop_is : drop_of p (S / 2 ^ c) ≡ k
  drop_is = let s = size_over S c in omega arith

  over_is : S / 2 ^ c / 2 ^ k ≡ S / 2 ^ (k + c)
  over_is = shr-shr S c k ∙ ap (λ (n : ℕ). S / 2 ^ n) (omega arith)

  pub encode_is : encode_at p (S / 2 ^ c) ≡ k * 2 ^ p + S / 2 ^ (k + c)
  encode_is = rw (drop_is, over_is)

  -- what is dropped, above the step and below it
  rest_is : S % 2 ^ (k + c) ≡ S / 2 ^ c % 2 ^ k * 2 ^ c + S % 2 ^ c
  rest_is = ap (λ (n : ℕ). S % n) (pow-add 2 k c) ∙ mod-mul S (pow_pos k) (pow_pos c)

  pub held_when : S % 2 ^ (k + c) ≡ 0 → held_at p (2 ^ c) S ≡ true
  held_when z =
      let n = S / 2 ^ c in
      let low : S % 2 ^ c ≡ 0 = let r = rest_is in omega arith in
      let above : n % 2 ^ k ≡ 0 = zero_factor (n % 2 ^ k) (2 ^ c) (pow_pos c) (let r = rest_is in omega arith) in
      let m : mag_of p (encode_at p n) ≡ n = mag_encode p n (rw drop_is above) in
      let w : n * 2 ^ c ≡ S = omega (arith, div-add-mod' S (2 ^ c)) in
      eq-eqb _ _ (ap (λ (x : ℕ). x * 2 ^ c) m ∙ w)
    where
      zero_factor : (a b : ℕ) → 0 < b → a * b ≡ 0 → a ≡ 0
      zero_factor zero b h q = refl
      zero_factor (suc a) b h q = absurd (omega (arith, suc-mul a b))

  pub held_only : held_at p (2 ^ c) S ≡ true → S % 2 ^ (k + c) ≡ 0
  held_only h =
      let n = S / 2 ^ c in
      let m = mag_of p (encode_at p n) in
      let q : m * 2 ^ c ≡ S = eqb-true _ _ h in
      let same : n ≡ m = ap (λ (x : ℕ). x / 2 ^ c) (sym q) ∙ mul-div_cancel m (pow_pos c) in
      let d : drop_of p m ≡ k = ap (drop_of p) (sym same) ∙ drop_is in
      let z : m % 2 ^ k ≡ 0 = subst (λ (x : ℕ). m % 2 ^ x ≡ 0) d (mag_has p (encode_at p n)) in
      ap (λ (x : ℕ). S % x) (pow-add 2 k c) ∙ ap (λ (x : ℕ). x % (2 ^ k * 2 ^ c)) (sym q) ∙ mod_scale m (pow_pos k) (pow_pos c) ∙ rw z (zero-mul (2 ^ c))

  -- ---- how large it is

  below_next : S < 2 ^ suc p * 2 ^ (k + c)
  below_next = lt_of_lt_of_le (size-lt S) (subst (λ (n : ℕ). 2 ^ size S ≤ n) (pow-add 2 (suc p) (k + c)) (pow_mono (omega arith)))

  pub kept_small : S / 2 ^ (k + c) < 2 ^ suc p
  kept_small = (div-lt_iff_lt-mul {k = 2 ^ (k + c)} {x = S} {y = 2 ^ suc p} (pow_pos (k + c))).1 below_next

  split : S / 2 ^ (k + c) * 2 ^ (k + c) + S % 2 ^ (k + c) ≡ S
  split = div-add-mod' S (2 ^ (k + c))

  module _ (last : ℕ) where
    top_is : (2 ^ suc p - 1) * 2 ^ last * 2 ^ c ≡ (2 ^ suc p - 1) * 2 ^ (last + c)
    top_is = mul_assoc (2 ^ suc p - 1) (2 ^ last) (2 ^ c) ∙ ap (λ (n : ℕ). (2 ^ suc p - 1) * n) (sym (pow-add 2 last c))

    -- a quotient and a place that the format has
    within : (q d : ℕ) → S ≤ q * 2 ^ d → q ≤ 2 ^ suc p - 1 → d ≤ last + c → S ≤ (2 ^ suc p - 1) * 2 ^ last * 2 ^ c
    within q d h i j = subst (λ (n : ℕ). S ≤ n) (sym top_is)
        (le_trans h (mul-le-mul {n₁ = q} {m₁ = 2 ^ d} {n₂ = 2 ^ suc p - 1} {m₂ = 2 ^ (last + c)} i (pow_mono j)))

    pub beyond : last < k → (2 ^ suc p - 1) * 2 ^ last * 2 ^ c < S
    beyond h =
        let r : 2 ^ (suc p + (last + c)) ≤ S = size_reaches S (suc p + (last + c)) (omega arith) in
        subst (λ (n : ℕ). n < S) (sym top_is)
        (lt_of_lt_of_le (less_one (2 ^ suc p) (2 ^ (last + c)) (pow_pos (suc p)) (pow_pos (last + c)))
        (subst (λ (n : ℕ). n ≤ S) (pow-add 2 (suc p) (last + c)) r))
      where
        less_one : (q a : ℕ) → 0 < q → 0 < a → (q - 1) * a < q * a
        less_one zero a h k = absurd (omega arith)
        less_one (suc q) a h k = let e : suc q - 1 ≡ q = omega arith in subst (λ (x : ℕ). x * a < suc q * a) (sym e) (omega (arith, suc-mul q a))

    pub exact_within : k ≤ last → S % 2 ^ (k + c) ≡ 0 → S ≤ (2 ^ suc p - 1) * 2 ^ last * 2 ^ c
    exact_within h z = within (S / 2 ^ (k + c)) (k + c) (le_of_eq (sym split ∙ rw z (add-zero _))) (let q = kept_small in omega arith) (omega arith)

    -- a lower exponent, or leading digits that aren't all ones
    near_within : k ≤ last → (k < last) ⊎ (S / 2 ^ (k + c) < 2 ^ suc p - 1) → S ≤ (2 ^ suc p - 1) * 2 ^ last * 2 ^ c
    near_within h (inl w) =
        let half : S < 2 ^ p * 2 ^ suc (k + c) =
        subst (λ (n : ℕ). S < n)
        (ap (λ (n : ℕ). n * 2 ^ (k + c)) (pow-suc 2 p)
        ∙ mul_assoc (2 ^ p) 2 (2 ^ (k + c))
        ∙ ap (λ (n : ℕ). 2 ^ p * n) (mul_comm 2 (2 ^ (k + c)) ∙ sym (pow-suc 2 (k + c)))) below_next in
        let t : 2 ^ suc p ≡ 2 ^ p * 2 = pow-suc 2 p in
        let z : 0 < 2 ^ p = pow_pos p in
        within (2 ^ p) (suc (k + c)) (le_of_lt half) (omega arith) (omega arith)
    near_within h (inr w) =
        let r : S % 2 ^ (k + c) < 2 ^ (k + c) = mod-lt S (pow_pos (k + c)) in
        let n : S ≤ suc (S / 2 ^ (k + c)) * 2 ^ (k + c) = omega (arith, split, suc-mul (S / 2 ^ (k + c)) (2 ^ (k + c))) in
        within (suc (S / 2 ^ (k + c))) (k + c) n w (omega arith)

    -- ---- the ways out

    module _ (s : Bool) where
      pub held_far : last < k → refuses 4 0 ≡ float_at p (2 ^ c) last s S
      held_far h = simp (lt-ltb _ _ (beyond h))

      pub held_is : k ≤ last → S % 2 ^ (k + c) ≡ 0 → gives (found s (k * 2 ^ p + S / 2 ^ (k + c))) ≡ float_at p (2 ^ c) last s S
      held_is h z = ap (λ (n : ℕ). gives (found s n)) (sym encode_is) ∙ simp (le-ltb _ _ (exact_within h z), held_when z)

      unheld : (S % 2 ^ (k + c) ≡ 0 → ⊥) → held_at p (2 ^ c) S ≡ false
      unheld d = not_held_lem (held_at p (2 ^ c) S) refl
        where
          not_held_lem : (b : Bool) → held_at p (2 ^ c) S ≡ b → b ≡ false
          not_held_lem true q = absurd (d (held_only q))
          not_held_lem false q = refl

      pub held_none : k ≤ last → (S % 2 ^ (k + c) ≡ 0 → ⊥) → (k < last) ⊎ (S / 2 ^ (k + c) < 2 ^ suc p - 1) → refuses 5 0 ≡ float_at p (2 ^ c) last s S
      held_none h d o = simp (le-ltb _ _ (near_within h o), unheld d)

      pub held_over : k ≡ last → (S % 2 ^ (k + c) ≡ 0 → ⊥) → S / 2 ^ (k + c) ≡ 2 ^ suc p - 1 → refuses 4 0 ≡ float_at p (2 ^ c) last s S
      held_over h d q =
          let l : S / 2 ^ (k + c) * 2 ^ (k + c) < S = omega (arith, split) in
          let t : S / 2 ^ (k + c) * 2 ^ (k + c) ≡ (2 ^ suc p - 1) * 2 ^ last * 2 ^ c =
          ap (λ (n : ℕ). n * 2 ^ (k + c)) q ∙ ap (λ (n : ℕ). (2 ^ suc p - 1) * 2 ^ (n + c)) h ∙ sym top_is in
          simp (lt-ltb _ _ (subst (λ (n : ℕ). n < S) t l))

-- ---- as the code has it

pub held_zero : (p c last : ℕ) (s : Bool) (m g : ℕ) → m ≡ 0 → gives (found s 0) ≡ float_at p (2 ^ c) last s (m * 2 ^ g)
held_zero p c last s m g h =
    let q : m * 2 ^ g ≡ 0 = rw h (zero-mul (2 ^ g)) in
    let k : 0 ≡ size 0 - suc p - c = let z = size_zero in omega arith in
    let d : 0 / 2 ^ (0 + c) ≡ 0 = zero-div (2 ^ (0 + c)) in
    let r : 0 % 2 ^ (0 + c) ≡ 0 = mod-eq_of_lt (pow_pos (0 + c)) in
    rw q (ap (λ (n : ℕ). gives (found s n)) (sym (rw (d, zero-mul (2 ^ p)))) ∙ held_is p c 0 0 k last s (omega arith) r)

pub dropped_is : (p c m g z k : ℕ) → 0 < m → z ≡ size m → k ≡ z + g - (p + 1 + c) → k ≡ size (m * 2 ^ g) - suc p - c
dropped_is p c m g z k h e q = let w : size (m * 2 ^ g) ≡ size m + g = size_scale m g h in omega arith

-- the two refusals that the exponent alone decides, of what the code has: z digits in m, k dropped of the product's
pub far_refused : (p c last : ℕ) (s : Bool) (m g z k : ℕ) → last < k → z ≡ size m → (m ≡ 0 → ⊥) → k ≡ z + g - (p + 1 + c)
    → refuses 4 0 ≡ float_at p (2 ^ c) last s (m * 2 ^ g)
far_refused p c last s m g z k h e n q = held_far p c (m * 2 ^ g) k (dropped_is p c m g z k (omega arith) e q) last s h

pub low_refused : (p c last : ℕ) (s : Bool) (m g z k : ℕ) (rest : Bool) → rest ≡ not (eqb (m * 2 ^ g % 2 ^ (k + c)) 0) → rest ≡ true
    → k ≤ last → (k ≡ last → ⊥) → z ≡ size m → (m ≡ 0 → ⊥) → k ≡ z + g - (p + 1 + c) → refuses 5 0 ≡ float_at p (2 ^ c) last s (m * 2 ^ g)
low_refused p c last s m g z k rest r t h d e n q =
    let left : m * 2 ^ g % 2 ^ (k + c) ≡ 0 → ⊥ = eqb-false _ _ (not-true _ (sym r ∙ t)) in
    held_none p c (m * 2 ^ g) k (dropped_is p c m g z k (omega arith) e q) last s h left (inl (omega (arith, d)))

pub all_ones : (p : ℕ) → p ≤ 52 → 2 * 2 ^ p % 2 ^ 64 ≡ 2 ^ suc p
all_ones p h = mod-eq_of_lt
    (subst (λ (x : ℕ). x < 2 ^ 64) (pow-suc 2 p ∙ mul_comm (2 ^ p) 2) (pow-lt {i = suc p} {j = 64} (omega arith))) ∙ mul_comm 2 (2 ^ p) ∙ sym (pow-suc 2 p)

-- one power of 2 or two of them don't wrap
pub ones_left : (b p : ℕ) → 0 < b → b ≤ 2 → p ≤ 52 → 0 < b * 2 ^ p % 2 ^ 64
ones_left b p h i j =
    let m : b * 2 ^ p ≤ 2 * 2 ^ 52 = mul-le-mul {n₁ = b} {m₁ = 2 ^ p} {n₂ = 2} {m₂ = 2 ^ 52} i (pow_mono {i = p} {j = 52} j) in
    let w : b * 2 ^ p % 2 ^ 64 ≡ b * 2 ^ p = mod-eq_of_lt (omega arith) in
    rw w (mul-pos h (pow_pos p))

pub field_small : (k p last : ℕ) → k ≤ last → last ≤ 2047 → p ≤ 52 → k * 2 ^ p ≤ 2047 * 2 ^ 52
field_small k p last h j i = mul-le-mul {n₁ = k} {m₁ = 2 ^ p} {n₂ = 2047} {m₂ = 2 ^ 52} (omega arith) (pow_mono {i = p} {j = 52} i)

pub digits_few : (p n : ℕ) → p ≤ 52 → n < 2 ^ suc p → n < 2 ^ 53
digits_few p n i h = lt_of_lt_of_le h (pow_mono {i = suc p} {j = 53} (omega arith))
