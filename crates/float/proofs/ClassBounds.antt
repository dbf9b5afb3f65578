-- Each class has its own bounds of abs, and the tests of these bounds tell the classes apart. What a class stands for tells its bounds
-- back: the scaled magnitude rises with abs, so a bound of the one is a bound of the other.
use mathlib.Core.Path.{◌≡◌, refl, sym, ◌∙◌, ap, subst}
use mathlib.Core.Logic.{◌↔◌, ◌⊎◌, inl, inr}
use mathlib.Core.Bool.{Bool, true, and-eq-true_iff}
use Prim.Native.Nat.{ℕ, suc, ◌+◌, ◌-◌, ◌^◌, ◌≤◌, ◌<◌}
use native.Mathlib.Nat.{pow-suc, le_of_eq}
use native.Mathlib.Omega.{arith}
use borrow.Author.Tests.{ltb-true, leb-true, eqb-true, lt-ltb, le-leb, eq-eqb}
use lib.Dec.{ltb, leb}
use lib.Pow.{pow_mono, pow_pos}
use lib.IntN.{pos, nat_abs}
use Rattle.float.specs.declared.Class.{Class}
use Rattle.float.specs.declared.Class.TheVariants.{Zero, Subnormal, Normal, Infinite, Nan}
use Rattle.float.specs.Format.{inf_of, negative_of, abs_of, finite_of, infinite_of, nan_of, zero_of, subnormal_of, normal_of, class_of, mag_of, scaled_of}
use Rattle.float.specs.ClassMeaning.{largest_of, ClassMeans}
use Rattle.float.proofs.Naturals.{three_ways}
use Rattle.float.proofs.Tests.{clash}
use Rattle.float.proofs.Magnitude.{abs_signed, mag_zero, mag_reflects, mag_normal, mag_largest}
use Rattle.float.proofs.Comparing.{pattern_nan, pattern_infinite, pattern_finite}
use Rattle.float.proofs.ClassMeaning.{class_nan, class_infinite, class_zero, class_subnormal, class_normal, by_class}

-- the test of the bounds of a class
abbrev pub bounds_test : ℕ → ℕ → ℕ → Class → Bool
bounds_test p e b Zero = zero_of p e b
bounds_test p e b Subnormal = subnormal_of p e b
bounds_test p e b Normal = normal_of p e b
bounds_test p e b Infinite = infinite_of p e b
bounds_test p e b Nan = nan_of p e b

-- ---- a class by its bounds

own_bounds : (p e b : ℕ) → bounds_test p e b (class_of p e b) ≡ true
own_bounds p e b =
    by_class p e b (λ c. bounds_test p e b c ≡ true) (lt-ltb _ _) (eq-eqb _ _) (eq-eqb _ _)
    (λ l g. simp (lt-ltb _ _ l, lt-ltb _ _ g)) (λ g l. simp (le-leb _ _ g, lt-ltb _ _ l))

-- a format with an exponent bit or more has room for its subnormal patterns
small_finite : (p e x : ℕ) → 1 ≤ e → x < 2 ^ p → x < inf_of p e
small_finite p e x h l =
    let g : 2 ^ suc p ≤ 2 ^ (p + e) = pow_mono (omega arith) in
    omega (arith, pow-suc 2 p)

module _ (p e b : ℕ) (h : 1 ≤ e) where
  zero_finite : abs_of p e b ≡ 0 → abs_of p e b < inf_of p e
  zero_finite q = let u : 0 < 2 ^ p = pow_pos p in small_finite p e (abs_of p e b) h (omega arith)

  bounds_class : (c : Class) → bounds_test p e b c ≡ true → c ≡ class_of p e b
  bounds_class Zero t =
      let q : abs_of p e b ≡ 0 = eqb-true _ _ t in
      let l : abs_of p e b < inf_of p e = zero_finite q in
      class_zero p e b refl (omega arith) (λ r. omega arith) q
  bounds_class Subnormal t =
      let s = (and-eq-true_iff _ _).0 t in
      let u : 0 < abs_of p e b = ltb-true _ _ s.0 in
      let g : abs_of p e b < 2 ^ p = ltb-true _ _ s.1 in
      let l : abs_of p e b < inf_of p e = small_finite p e (abs_of p e b) h g in
      class_subnormal p e b refl (omega arith) (λ r. omega arith) (λ r. omega arith) g
  bounds_class Normal t =
      let s = (and-eq-true_iff _ _).0 t in
      let g : 2 ^ p ≤ abs_of p e b = leb-true _ _ s.0 in
      let l : abs_of p e b < inf_of p e = ltb-true _ _ s.1 in
      let u : 0 < 2 ^ p = pow_pos p in
      class_normal p e b refl (omega arith) (λ r. omega arith) (λ r. omega arith) g
  bounds_class Infinite t = let q : abs_of p e b ≡ inf_of p e = eqb-true _ _ t in class_infinite p e b refl (omega arith) q
  bounds_class Nan t = class_nan p e b refl (ltb-true _ _ t)

  pub class_bounds : (c : Class) → (bounds_test p e b c ≡ true) ↔ (class_of p e b ≡ c)
  class_bounds c = (λ t. sym (bounds_class c t), λ q. subst (λ d. bounds_test p e b d ≡ true) q (own_bounds p e b))

-- ---- the finite classes

abbrev pub Finite : Class → Type 0
Finite c = (c ≡ Zero) ⊎ ((c ≡ Subnormal) ⊎ (c ≡ Normal))

module _ (p e b : ℕ) where
  finite_class : abs_of p e b < inf_of p e → Finite (class_of p e b)
  finite_class l =
      by_class p e b Finite (λ g. absurd (omega arith)) (λ q. absurd (omega arith)) (λ q. inl refl)
      (λ u g. inr (inl refl)) (λ g u. inr (inr refl))

  class_finite : 1 ≤ e → Finite (class_of p e b) → abs_of p e b < inf_of p e
  class_finite h (inl q) = zero_finite p e b h (eqb-true _ _ ((class_bounds p e b h Zero).1 q))
  class_finite h (inr (inl q)) =
      let s = (and-eq-true_iff (ltb 0 (abs_of p e b)) (ltb (abs_of p e b) (2 ^ p))).0 ((class_bounds p e b h Subnormal).1 q) in
      small_finite p e (abs_of p e b) h (ltb-true _ _ s.1)
  class_finite h (inr (inr q)) =
      let s = (and-eq-true_iff (leb (2 ^ p) (abs_of p e b)) (finite_of p e b)).0 ((class_bounds p e b h Normal).1 q) in
      ltb-true _ _ s.1

  pub finite_classes : 1 ≤ e → (finite_of p e b ≡ true) ↔ Finite (class_of p e b)
  finite_classes h = (λ t. finite_class (ltb-true _ _ t), λ s. lt-ltb _ _ (class_finite h s))

-- ---- a class by what it stands for

scaled_abs : (p e b : ℕ) → scaled_of p e b ≡ pos 0 → abs_of p e b ≡ 0
unfolding scaled_of
scaled_abs p e b m =
    let q : mag_of p (abs_of p e b) ≡ 0 = sym (abs_signed (negative_of p e b) (mag_of p (abs_of p e b))) ∙ ap nat_abs m in
    let l : abs_of p e b ≤ 0 = mag_reflects p (abs_of p e b) 0 (le_of_eq (q ∙ sym (mag_zero p))) in
    omega arith

-- for a format with two exponent bits or more
normal_bounds : (p e x : ℕ) → 2 ≤ e → 2 ^ p ≤ mag_of p x → mag_of p x ≤ largest_of p e → (2 ^ p ≤ x) × (x < inf_of p e)
normal_bounds p e x h low high =
    let g : 2 ^ p ≤ x = mag_reflects p (2 ^ p) x (subst (λ (n : ℕ). n ≤ mag_of p x) (sym (mag_normal p)) low) in
    let l : x ≤ inf_of p e - 1 = mag_reflects p x (inf_of p e - 1) (subst (λ (n : ℕ). mag_of p x ≤ n) (sym (mag_largest p e h)) high) in
    let u : 0 < 2 ^ p = pow_pos p in
    (g, omega arith)

module _ (p e b : ℕ) (h : 2 ≤ e) where
  means_bounds : (c : Class) → ClassMeans p e b c → bounds_test p e b c ≡ true
  means_bounds Zero m = eq-eqb _ _ (scaled_abs p e b m)
  means_bounds Subnormal m = simp (lt-ltb _ _ m.1, lt-ltb _ _ m.2)
  means_bounds Normal m = let r = normal_bounds p e (abs_of p e b) h m.0 m.1 in simp (le-leb _ _ r.0, lt-ltb _ _ r.1)
  means_bounds Infinite m = elim (three_ways (abs_of p e b) (inf_of p e)) [
    | inl l ↦ clash (cc (m, pattern_finite p e b l))
    | inr (inl q) ↦ eq-eqb _ _ q
    | inr (inr g) ↦ clash (cc (m, pattern_nan p e b g))
  ]
  means_bounds Nan m = elim (three_ways (abs_of p e b) (inf_of p e)) [
    | inl l ↦ clash (cc (m, pattern_finite p e b l))
    | inr (inl q) ↦ clash (cc (m, pattern_infinite p e b q))
    | inr (inr g) ↦ lt-ltb _ _ g
  ]

  pub class_only : (c : Class) → ClassMeans p e b c → c ≡ class_of p e b
  class_only c m = bounds_class p e b (omega arith) c (means_bounds c m)
