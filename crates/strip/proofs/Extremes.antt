-- The lowest and the highest of samples: both tests are orders of positions, so what is found last is farthest of all.
use Rattle.std.specs.Prelude.{Option, None, Some}
use Rattle.std.proofs.Common.{◌≡◌, ℕ, Bool, true, false, cond, List, [], ◌∷◌, ◌++◌, refl}
use lib.Signed.{lt_z}
use Rattle.float.specs.Format.{nan_of, position_of}
use Rattle.float.proofs.Transitive.{lt_irreflexive, lt_trans}
use Rattle.row.specs.Row.{any}
use Rattle.row.proofs.Picked.{Strict, strict_of, none_still, picked_first, picked_next, picked_still, held_by_all}
use Rattle.strip.specs.Sheet.{is_before, is_behind, farther_of, extreme_of}
use Rattle.strip.specs.SheetTheorem.{Farthest}

-- ---- one block behind another

pub extreme_joined : (test : ℕ → ℕ → Bool) (f : Option ℕ) (a b : List ℕ) → extreme_of test (extreme_of test f a) b ≡ extreme_of test f (a ++ b)
unfolding extreme_of
extreme_joined test f [] b = refl
extreme_joined test f (x ∷ a) b = extreme_joined test (farther_of test f x) a b

-- ---- all samples

module _ (test : ℕ → ℕ → Bool) (strict : Strict (nan_of 23 8) test) where
  farthest_step : (p : List ℕ) (f : Option ℕ) (b : ℕ) → Farthest test p f → Farthest test (p ++ (b ∷ [])) (farther_of test f b)
  farthest_step p None b h = go (nan_of 23 8 b) refl
    where
      go : (t : Bool) → nan_of 23 8 b ≡ t → Farthest test (p ++ (b ∷ [])) (cond t None (Some b))
      go true q = none_still (nan_of 23 8) p b h q
      go false q = picked_first strict p b h q
  farthest_step p (Some a) b h = go (test b a) refl
    where
      go : (t : Bool) → test b a ≡ t → Farthest test (p ++ (b ∷ [])) (cond t (Some b) (Some a))
      go true q = picked_next strict p b a h q
      go false q = picked_still strict p b a h q

  farthest_of : (bs : List ℕ) → Farthest test bs (extreme_of test None bs)
  unfolding any extreme_of
  farthest_of bs = held_by_all (farther_of test) (extreme_of test) (λ f. refl) (λ f b l. refl) (Farthest test) farthest_step bs None refl

-- ---- by position

pub lowest_of : (bs : List ℕ) → Farthest is_before bs (extreme_of is_before None bs)
lowest_of = farthest_of is_before (strict_of (nan_of 23 8) (λ b a. lt_z (position_of 23 8 b) (position_of 23 8 a))
    (λ a. lt_irreflexive (position_of 23 8 a))
    (λ c b a. lt_trans (position_of 23 8 c) (position_of 23 8 b) (position_of 23 8 a)))

pub highest_of : (bs : List ℕ) → Farthest is_behind bs (extreme_of is_behind None bs)
highest_of = farthest_of is_behind (strict_of (nan_of 23 8) (λ b a. lt_z (position_of 23 8 a) (position_of 23 8 b))
    (λ a. lt_irreflexive (position_of 23 8 a))
    (λ c b a h k. lt_trans (position_of 23 8 a) (position_of 23 8 b) (position_of 23 8 c) k h))
