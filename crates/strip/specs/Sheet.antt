-- What a sheet tells of f32 samples, by their bits. RULES.md: Strip sheet.
use Rattle.std.specs.Prelude.{ℕ, ◌+◌, ◌-◌, ◌/◌, ◌%◌, min, Bool, cond, not, ◌&&◌, List, [], ◌∷◌, length, int_lt, nat_le, Option, None, Some}
use Rattle.float.specs.Format.{f32, zero_in, subnormal_in, normal_in, infinite_in, nan_in, position_in}
use Rattle.row.specs.Row.{how_many}
use Rattle.sample.specs.Samples.{numbers_in, counted}
use Rattle.strip.specs.declared.Sheet.{Sheet}

-- ---- the lowest and the highest, by total order

-- b is no NaN, and comes before a in total order
abbrev pub is_before : ℕ → ℕ → Bool
is_before b a = not (nan_in f32 b) && int_lt (position_in f32 b) (position_in f32 a)

-- b is no NaN, and comes behind a in total order
abbrev pub is_behind : ℕ → ℕ → Bool
is_behind b a = not (nan_in f32 b) && int_lt (position_in f32 a) (position_in f32 b)

-- what was found so far, or a sample that passes a test against it; a NaN is never found
abbrev pub farther_of : (ℕ → ℕ → Bool) → Option ℕ → ℕ → Option ℕ
farther_of test None b = cond (nan_in f32 b) None (Some b)
farther_of test (Some a) b = cond (test b a) (Some b) (Some a)

-- the same of samples, one after the other
unfoldable pub extreme_of : (ℕ → ℕ → Bool) → Option ℕ → List ℕ → Option ℕ
extreme_of test f [] = f
extreme_of test f (b ∷ bs) = extreme_of test (farther_of test f b) bs

-- ---- a block behind what was told before it

-- no more samples than this are told
abbrev pub most : ℕ
most = 4294967295

-- how many samples of a block are taken, behind so many
abbrev pub taken_of : ℕ → List ℕ → ℕ
taken_of before src = min (length src / 4) (most - before)

-- their bits
abbrev pub taken_in : ℕ → List ℕ → List ℕ
taken_in before src = numbers_in 4 (taken_of before src) src

-- the bytes left over behind so many samples; none once there are as many as are told
abbrev pub tail_of : ℕ → List ℕ → ℕ
tail_of samples src = cond (nat_le most samples) 0 (length src % 4)

-- each count goes on by the samples of its class, each class by its own bounds
unfoldable pub sheet_after : Sheet → List ℕ → Sheet
sheet_after s src =
    let bs = taken_in s.samples src in
    record {
      samples = s.samples + length bs;
      zero = counted (s.zero + how_many (zero_in f32) bs);
      subnormal = counted (s.subnormal + how_many (subnormal_in f32) bs);
      normal = counted (s.normal + how_many (normal_in f32) bs);
      infinite = counted (s.infinite + how_many (infinite_in f32) bs);
      nan = counted (s.nan + how_many (nan_in f32) bs);
      lowest = extreme_of is_before s.lowest bs;
      highest = extreme_of is_behind s.highest bs;
      tail = tail_of (s.samples + length bs) src;
    }
