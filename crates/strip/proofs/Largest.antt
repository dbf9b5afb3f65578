-- Two samples are at distance 0 exactly when their bits are the same, as every pattern has its own position. So the largest distance is 0 exactly when no
-- place differs.
use Rattle.std.proofs.Common.{◌≡◌, ℕ, zero, suc, ◌<◌, ◌≤◌, Bool, true, false, cond, not, eqb, ◌⊎◌, List, [], ◌∷◌, length, get_or, ℤ, pos, negsuc}
use Rattle.std.proofs.Common.{◌+ℤ◌, ◌-ℤ◌, nat_abs, sym, refl, ap, ◌∙◌, inl, inr, le_of_suc-le-suc, not-suc-le-zero, arith, eq-eqb, eqb-true}
use lib.IntN.{+ℤ_idl, +ℤ_invr, -ℤ-+ℤ_cancel}
use Rattle.float.specs.Format.{position_of}
use Rattle.float.proofs.Place.{position_injective}
use Rattle.float.proofs.Naturals.{lt_or_ge}
use Rattle.row.specs.Row.{how_many}
use Rattle.strip.specs.Difference.{Pair, is_different, distance, widest_of}
use Rattle.strip.specs.DifferenceTheorem.{Largest}

-- ---- one place

none_between : (x y : ℤ) → nat_abs (x -ℤ y) ≡ 0 → x ≡ y
none_between x y h = sym (-ℤ-+ℤ_cancel x y) ∙ ap (λ (z : ℤ). z +ℤ y) (nought (x -ℤ y) h) ∙ +ℤ_idl y
  where
    nought : (z : ℤ) → nat_abs z ≡ 0 → z ≡ pos zero
    nought (pos n) q = ap pos q
    nought (negsuc n) q = absurd (omega arith)

same_apart : (p : Pair) → p.left ≡ p.right → distance p ≡ 0
same_apart p q = rw q (ap nat_abs (+ℤ_invr (position_of 23 8 p.right)))

apart_same : (p : Pair) → distance p ≡ 0 → p.left ≡ p.right
apart_same p h = position_injective 23 8 p.left p.right (none_between (position_of 23 8 p.left) (position_of 23 8 p.right) h)

-- ---- all places

module _ (p : Pair) (ps : List Pair) where
  same_first : how_many is_different (p ∷ ps) ≡ 0 → (p.left ≡ p.right) × (how_many is_different ps ≡ 0)
  unfolding how_many
  same_first h = go (eqb p.left p.right) refl h
    where
      go : (t : Bool) → eqb p.left p.right ≡ t → cond (not t) (suc (how_many is_different ps)) (how_many is_different ps) ≡ 0
          → (p.left ≡ p.right) × (how_many is_different ps ≡ 0)
      go true q k = (eqb-true p.left p.right q, k)
      go false q k = absurd (omega arith)

  first_same : p.left ≡ p.right → how_many is_different ps ≡ 0 → how_many is_different (p ∷ ps) ≡ 0
  unfolding how_many
  first_same q h = rw (eq-eqb p.left p.right q) h

pub none_wide : (ps : List Pair) → how_many is_different ps ≡ 0 → widest_of ps ≡ 0
unfolding widest_of
none_wide [] h = refl
none_wide (p ∷ ps) h =
    let s = same_first p ps h in
    let far = same_apart p s.0 in
    let rest = none_wide ps s.1 in
    omega (arith, far, rest)

no_places : how_many is_different [] ≡ 0
unfolding how_many
no_places = refl

wide_none : (ps : List Pair) → widest_of ps ≡ 0 → how_many is_different ps ≡ 0
unfolding widest_of
wide_none [] h = no_places
wide_none (p ∷ ps) h = first_same p ps (apart_same p (omega (arith, h))) (wide_none ps (omega (arith, h)))

above : (ps : List Pair) (i : ℕ) (d : Pair) → i < length ps → distance (get_or ps i d) ≤ widest_of ps
unfolding widest_of
above [] i d h = absurd (not-suc-le-zero h)
above (p ∷ ps) zero d h = omega arith
above (p ∷ ps) (suc i) d h = let k = above ps i d (le_of_suc-le-suc h) in omega (arith, k)

abbrev Reaches : List Pair → Type 0
Reaches ps = (i : ℕ) × (i < length ps) × ((d : Pair) → distance (get_or ps i d) ≡ widest_of ps)

reach_first : (p : Pair) (ps : List Pair) → (ps ≡ []) ⊎ Reaches ps → Reaches (p ∷ ps)
unfolding widest_of
reach_first p ps (inl none) = (0, omega arith, λ d. rw none (omega arith))
reach_first p ps (inr (i, h, at)) = elim (lt_or_ge (distance p) (widest_of ps)) [
  | inl l ↦ (suc i, omega arith, λ d. at d ∙ omega arith)
  | inr g ↦ (0, omega arith, λ d. omega arith)
]

reach : (ps : List Pair) → (ps ≡ []) ⊎ Reaches ps
reach [] = inl refl
reach (p ∷ ps) = inr (reach_first p ps (reach ps))

pub largest : (ps : List Pair) → Largest ps (widest_of ps)
largest ps = record { above_all = above ps; reached = reach ps; none_differs = (wide_none ps, none_wide ps) }
