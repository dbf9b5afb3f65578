-- What the theorems on sheets speak of: an input that is told as blocks, and the classes that are counted. RULES.md: Strip sheet.
use Rattle.std.specs.Prelude.{◌≡◌, ℕ, ◌+◌, ◌*◌, ◌/◌, ◌<◌, ◌≤◌, min, Bool, true, false, not, ◌↔◌, List, [], ◌∷◌, length, slice_index_or, Option, None, Some}
use Rattle.float.specs.declared.Class.TheVariants.{Zero, Subnormal, Normal, Infinite, Nan}
use Rattle.float.specs.Format.{f32, zero_in, subnormal_in, normal_in, infinite_in, nan_in, class_in}
use Rattle.value.specs.declared.Kind.TheVariants.{F32}
use Rattle.row.specs.Row.{any, how_many}
use Rattle.sample.specs.Samples.{numbers_in, joined, WholeBlocks}
use Rattle.strip.specs.declared.Sheet.{Sheet}
use Rattle.strip.specs.Sheet.{is_before, is_behind, most, sheet_after}

-- before the first sample
abbrev pub blank : Sheet
blank = record { samples = 0; zero = 0; subnormal = 0; normal = 0; infinite = 0; nan = 0; lowest = None; highest = None; tail = 0 }

-- the blocks, one after the other
abbrev pub sheet_of : Sheet → List (List ℕ) → Sheet
sheet_of s [] = s
sheet_of s (b ∷ bs) = sheet_of (sheet_after s b) bs

-- the samples of a whole input that are told, by their bits
abbrev pub strip_of : List ℕ → List ℕ
strip_of bytes = numbers_in 4 (min (length bytes / 4) most) bytes

-- what is found is no NaN, it is one of the samples, and none passes the test against it; nothing is found where all are NaN
abbrev pub Farthest : (ℕ → ℕ → Bool) → List ℕ → Option ℕ → Type 0
Farthest test bs None = any (λ b. not (nan_in f32 b)) bs ≡ false
Farthest test bs (Some a) = (nan_in f32 a ≡ false) × ((i : ℕ) × (i < length bs) × (slice_index_or bs i a ≡ a)) × (any (λ b. test b a) bs ≡ false)

-- what is told of a whole input
pub record SheetTells (bytes : List ℕ) (s : Sheet) : Type 0 where
  pub samples : s.samples ≡ length (strip_of bytes)
  pub zero : s.zero ≡ how_many (zero_in f32) (strip_of bytes)
  pub subnormal : s.subnormal ≡ how_many (subnormal_in f32) (strip_of bytes)
  pub normal : s.normal ≡ how_many (normal_in f32) (strip_of bytes)
  pub infinite : s.infinite ≡ how_many (infinite_in f32) (strip_of bytes)
  pub nan : s.nan ≡ how_many (nan_in f32) (strip_of bytes)
  -- the five classes sum to the samples
  pub sum : s.zero + s.subnormal + s.normal + s.infinite + s.nan ≡ s.samples
  pub lowest : Farthest is_before (strip_of bytes) s.lowest
  pub highest : Farthest is_behind (strip_of bytes) s.highest
  -- of an input that isn't too long every byte is in a sample or left over, and fewer are left over than a sample has
  pub all_told : length bytes < 4 * most → (4 * s.samples + s.tail ≡ length bytes) × (s.tail < 4)
  -- of a longer one, and of one that is just as long, as many samples are told as can be, and no byte is left over
  pub no_more : 4 * most ≤ length bytes → (s.samples ≡ most) × (s.tail ≡ 0)

-- what the blocks of an input tell, one after the other, is what the whole has
abbrev pub SheetsTell : Type 0
SheetsTell = (bs : List (List ℕ)) → WholeBlocks F32 bs → SheetTells (joined bs) (sheet_of blank bs)

-- the five tests that are counted are the five classes
pub record Classes : Type 0 where
  pub zero : (b : ℕ) → (zero_in f32 b ≡ true) ↔ (class_in f32 b ≡ Zero)
  pub subnormal : (b : ℕ) → (subnormal_in f32 b ≡ true) ↔ (class_in f32 b ≡ Subnormal)
  pub normal : (b : ℕ) → (normal_in f32 b ≡ true) ↔ (class_in f32 b ≡ Normal)
  pub infinite : (b : ℕ) → (infinite_in f32 b ≡ true) ↔ (class_in f32 b ≡ Infinite)
  pub nan : (b : ℕ) → (nan_in f32 b ≡ true) ↔ (class_in f32 b ≡ Nan)
