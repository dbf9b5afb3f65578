-- Where two masters differ, place by place, by the bits of their samples. RULES.md: Two masters.
use Rattle.std.specs.Prelude.{ℕ, ◌+◌, max, Bool, cond, not, List, [], ◌∷◌, length, ◌-ℤ◌, ◌==◌, nat_lt, unsigned_abs, Option, None, Some}
use Rattle.float.specs.Format.{f32, position_in}
use Rattle.row.specs.Row.{first, how_many}
use Rattle.sample.specs.Samples.{counted}
use Rattle.strip.specs.declared.Difference.{Difference}
use Rattle.strip.specs.Sheet.{taken_in}

-- ---- one place

-- the bits of the left sample and of the right one
pub record Pair : Type 0 where
  pub left : ℕ
  pub right : ℕ

-- the bits aren't the same
abbrev pub is_different : Pair → Bool
is_different p = not (p.left == p.right)

-- how far apart the samples lie in total order
abbrev pub distance : Pair → ℕ
distance p = unsigned_abs (position_in f32 p.left -ℤ position_in f32 p.right)

-- ---- all places

-- those that both have
unfoldable pub shared : List ℕ → List ℕ → List Pair
shared [] rs = []
shared (l ∷ ls) [] = []
shared (l ∷ ls) (r ∷ rs) = record { left = l; right = r } ∷ shared ls rs

-- the largest distance, 0 where there is no place
unfoldable pub widest_of : List Pair → ℕ
widest_of [] = 0
widest_of (p ∷ ps) = max (distance p) (widest_of ps)

-- the index of the first that differs, behind so many places
abbrev pub first_in : ℕ → List Pair → Option ℕ
first_in before ps = cond (nat_lt (first is_different ps) (length ps)) (Some (before + first is_different ps)) None

-- what was found before stays
abbrev pub earlier_of : Option ℕ → Option ℕ → Option ℕ
earlier_of (Some n) f = Some n
earlier_of None f = f

-- ---- a block of each behind what was seen before them

-- each count goes on by what the two blocks have, and so do the first place and the largest distance
unfoldable pub difference_after : Difference → List ℕ → List ℕ → Difference
difference_after s left right =
    let ls = taken_in s.left left in
    let rs = taken_in s.right right in
    record {
      left = s.left + length ls;
      right = s.right + length rs;
      different = counted (s.different + how_many is_different (shared ls rs));
      first = earlier_of s.first (first_in s.left (shared ls rs));
      widest = max s.widest (widest_of (shared ls rs));
    }
