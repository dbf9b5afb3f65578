-- Class by class: the tests that pick it, and what its patterns stand for. A finite pattern's number is its scaled number.
use mathlib.Core.Path.{◌≡◌, refl, sym, ◌∙◌, ap, subst}
use mathlib.Core.Bool.{Bool, true, false, cond}
use Prim.Native.Nat.{ℕ, ◌-◌, ◌^◌, ◌≤◌, ◌<◌}
use native.Mathlib.Omega.{arith}
use borrow.Author.Tests.{ltb-true, ltb-false, eqb-true, eqb-false, lt-ltb, le-ltb, eq-eqb, ne_eqb}
use lib.Dec.{ltb, eqb}
use lib.IntN.{pos}
use Rattle.float.specs.declared.Class.{Class}
use Rattle.float.specs.declared.Class.TheVariants.{Zero, Subnormal, Normal, Infinite, Nan}
use Rattle.float.specs.Format.{inf_of, negative_of, abs_of, finite_of, mag_of, scaled_of, class_at, class_of}
use Rattle.float.specs.Number.{signed_of, number, number_of}
use Rattle.float.specs.Order.{pattern_of}
use Rattle.float.specs.ClassMeaning.{largest_of, ClassMeans}
use Rattle.float.proofs.Magnitude.{mag_grows, mag_small, mag_normal, mag_zero, mag_largest}
use Rattle.float.proofs.Comparing.{pattern_nan, pattern_infinite, pattern_finite}

-- ---- the tests, for a function that has abs in a local

module _ (p e b : ℕ) {x : ℕ} (q : x ≡ abs_of p e b) where
  picked : {c : Class} → class_at p e x ≡ c → c ≡ class_of p e b
  unfolding class_of
  picked h = sym h ∙ ap (class_at p e) q

  pub class_nan : inf_of p e < x → Nan ≡ class_of p e b
  class_nan a = picked (simp (lt-ltb _ _ a))

  pub class_infinite : x ≤ inf_of p e → x ≡ inf_of p e → Infinite ≡ class_of p e b
  class_infinite a c = picked (simp (le-ltb _ _ a, eq-eqb _ _ c))

  module _ (a : x ≤ inf_of p e) (c : x ≡ inf_of p e → ⊥) where
    pub class_zero : x ≡ 0 → Zero ≡ class_of p e b
    class_zero d = picked (simp (le-ltb _ _ a, ne_eqb _ _ c, eq-eqb _ _ d))

    pub class_subnormal : (x ≡ 0 → ⊥) → x < 2 ^ p → Subnormal ≡ class_of p e b
    class_subnormal d f = picked (simp (le-ltb _ _ a, ne_eqb _ _ c, ne_eqb _ _ d, lt-ltb _ _ f))

    pub class_normal : (x ≡ 0 → ⊥) → 2 ^ p ≤ x → Normal ≡ class_of p e b
    class_normal d f = picked (simp (le-ltb _ _ a, ne_eqb _ _ c, ne_eqb _ _ d, le-ltb _ _ f))

-- ---- what a class stands for

signed_zero : (s : Bool) → signed_of s 0 ≡ pos 0
signed_zero true = refl
signed_zero false = refl

scaled_zero : (p e b : ℕ) → abs_of p e b ≡ 0 → scaled_of p e b ≡ pos 0
unfolding scaled_of
scaled_zero p e b q =
    ap (λ (x : ℕ). signed_of (negative_of p e b) (mag_of p x)) q ∙ ap (signed_of (negative_of p e b)) (mag_zero p) ∙ signed_zero (negative_of p e b)

normal_range : (p e x : ℕ) → 2 ≤ e → x < inf_of p e → 2 ^ p ≤ x → (2 ^ p ≤ mag_of p x) × (mag_of p x ≤ largest_of p e)
normal_range p e x h l g =
    let low = mag_grows p (2 ^ p) x g in
    let high = mag_grows p x (inf_of p e - 1) (omega arith) in
    (subst (λ (n : ℕ). n ≤ mag_of p x) (mag_normal p) low, subst (λ (n : ℕ). mag_of p x ≤ n) (mag_largest p e h) high)

module _ (p e b : ℕ) where
  -- what holds of each class by its bounds of abs holds of the class of the pattern
  pub by_class : (P : Class → Type 0) → (inf_of p e < abs_of p e b → P Nan) → (abs_of p e b ≡ inf_of p e → P Infinite) → (abs_of p e b ≡ 0 → P Zero)
      → (0 < abs_of p e b → abs_of p e b < 2 ^ p → P Subnormal) → (2 ^ p ≤ abs_of p e b → abs_of p e b < inf_of p e → P Normal) → P (class_of p e b)
  unfolding class_of
  by_class P nan infinite zero subnormal normal = go _ _ _ _ refl refl refl refl
    where
      go : (n i z s : Bool) → ltb (inf_of p e) (abs_of p e b) ≡ n → eqb (abs_of p e b) (inf_of p e) ≡ i → eqb (abs_of p e b) 0 ≡ z
          → ltb (abs_of p e b) (2 ^ p) ≡ s → P (cond n Nan (cond i Infinite (cond z Zero (cond s Subnormal Normal))))
      go true i z s a c d f = nan (ltb-true _ _ a)
      go false true z s a c d f = infinite (eqb-true _ _ c)
      go false false true s a c d f = zero (eqb-true _ _ d)
      go false false false true a c d f = subnormal (omega (arith, eqb-false (abs_of p e b) 0 d)) (ltb-true _ _ f)
      go false false false false a c d f =
          normal (ltb-false _ _ f) (omega (arith, ltb-false (inf_of p e) (abs_of p e b) a, eqb-false (abs_of p e b) (inf_of p e) c))

  pub class_means : 2 ≤ e → ClassMeans p e b (class_of p e b)
  class_means h =
      by_class (ClassMeans p e b) (pattern_nan p e b) (pattern_infinite p e b) (scaled_zero p e b)
      (λ l g. (mag_small p _ g, l, g)) (λ g l. normal_range p e _ h l g)

-- the comparison of two finite patterns is that of their scaled numbers
pub number_scaled : (p e b : ℕ) → finite_of p e b ≡ true → number_of (pattern_of p e b) ≡ number (scaled_of p e b)
unfolding scaled_of
number_scaled p e b h = ap number_of (pattern_finite p e b (ltb-true _ _ h))
