-- Nothing in this file has to be believed: it says what private functions compute, and no public contract or theorem reaches it.
use Rattle.std.specs.Prelude.{ℕ, ◌+◌, ◌-◌, Bool, cond, List, [], ◌∷◌, map, ℤ, pos, negsuc, int_lt, nat_lt, Option, None, Some}
use Rattle.float.specs.Format.{f32, zero_in, subnormal_in, normal_in, infinite_in, nan_in, position_in}
use Rattle.row.specs.Row.{how_many}
use Rattle.bytewise.specs.Numbers.{from_little_endian}
use Rattle.strip.specs.declared.tallies.Tally.{Tally}
use Rattle.strip.specs.Difference.{Pair, is_different, distance}

-- the bits of samples of four bytes
abbrev pub all_bits : List (List ℕ) → List ℕ
all_bits samples = map from_little_endian samples

-- the two ends of all positions, where only NaN are
abbrev pub top_end : ℤ
top_end = pos 2147483647

abbrev pub bottom_end : ℤ
bottom_end = negsuc 2147483647

-- the position of a sample; a NaN counts as an end
abbrev pub place_of : ℤ → ℕ → ℤ
place_of end b = cond (nan_in f32 b) end (position_in f32 b)

-- the position that passes a test against all others, from one on
unfoldable pub farthest_from : (ℤ → ℤ → Bool) → ℤ → ℤ → List ℕ → ℤ
farthest_from test end m [] = m
farthest_from test end m (b ∷ bs) = farthest_from test end (cond (test (place_of end b) m) (place_of end b) m) bs

-- above
abbrev pub gt_z : ℤ → ℤ → Bool
gt_z x y = int_lt y x

-- the bits of the sample at a position
abbrev pub bits_at : ℤ → ℕ
bits_at (pos x) = x
bits_at (negsuc x) = 2147483648 + x

-- what samples have: how many there are of each class, and the farthest positions from two on
unfoldable pub tally_of : ℤ → ℤ → List ℕ → Tally
tally_of low high bs = record {
  zero = how_many (zero_in f32) bs;
  subnormal = how_many (subnormal_in f32) bs;
  normal = how_many (normal_in f32) bs;
  infinite = how_many (infinite_in f32) bs;
  nan = how_many (nan_in f32) bs;
  low = farthest_from int_lt top_end low bs;
  high = farthest_from gt_z bottom_end high bs;
}

-- the position of what was found before, or an end
abbrev pub start_at : ℤ → Option ℕ → ℤ
start_at end (Some a) = position_in f32 a
start_at end None = end

-- the sample at the position that was reached, if there is one
abbrev pub found_at : Option ℕ → Bool → ℤ → Option ℕ
found_at (Some a) some m = Some (bits_at m)
found_at None some m = cond some (Some (bits_at m)) None

-- ---- two masters

-- the position of a sample, counted from the lowest
abbrev pub shifted_of : ℕ → ℕ
shifted_of b = cond (nat_lt b 2147483648) (b + 2147483648) (4294967295 - b)

-- the samples at a place, as they stand in two blocks
abbrev pub pair_of : List ℕ × List ℕ → Pair
pair_of p = record { left = from_little_endian p.0; right = from_little_endian p.1 }

abbrev pub differ : List ℕ × List ℕ → Bool
differ p = is_different (pair_of p)

abbrev pub far : List ℕ × List ℕ → ℕ
far p = distance (pair_of p)
