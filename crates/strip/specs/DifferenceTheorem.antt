-- What the theorems on two masters speak of: what the definitions mean in other words, and masters that are compared as blocks.
-- RULES.md: Two masters.
use Rattle.std.specs.Prelude.{◌≡◌, ℕ, ◌<◌, ◌≤◌, min, true, false, ◌⊎◌, ◌↔◌, List, [], ◌++◌, length, pos, ◌+ℤ◌, slice_index, slice_index_or, Option, None, Some}
use Rattle.float.specs.Format.{f32, position_in}
use Rattle.value.specs.declared.Kind.TheVariants.{F32}
use Rattle.row.specs.Row.{how_many}
use Rattle.sample.specs.Samples.{left_of}
use Rattle.strip.specs.declared.Difference.{Difference}
use Rattle.strip.specs.SheetTheorem.{strip_of}
use Rattle.strip.specs.Difference.{Pair, is_different, distance, shared, difference_after}

-- ---- places

pub record Places : Type 0 where
  -- two samples don't differ exactly when their bits are the same
  pub same : (p : Pair) → (is_different p ≡ false) ↔ (p.left ≡ p.right)
  -- so many positions on from one of them the other stands
  pub apart : (p : Pair)
      → (position_in f32 p.left +ℤ pos (distance p) ≡ position_in f32 p.right)
      ⊎ (position_in f32 p.right +ℤ pos (distance p) ≡ position_in f32 p.left)
  -- there are as many as the shorter one has
  pub how_many_lem : (ls rs : List ℕ) → length (shared ls rs) ≡ min (length ls) (length rs)
  -- each has the two samples that stand there
  pub each : (ls rs : List ℕ) (i : ℕ) (d : Pair) → i < length (shared ls rs) →
      slice_index_or (shared ls rs) i d ≡ record { left = slice_index ls i; right = slice_index rs i }

-- no distance is above it, it is one of them unless there is no place, and it is 0 exactly when no place differs
pub record Largest (ps : List Pair) (w : ℕ) : Type 0 where
  pub above_all : (i : ℕ) (d : Pair) → i < length ps → distance (slice_index_or ps i d) ≤ w
  pub reached : (ps ≡ []) ⊎ ((i : ℕ) × (i < length ps) × ((d : Pair) → distance (slice_index_or ps i d) ≡ w))
  pub none_differs : (w ≡ 0) ↔ (how_many is_different ps ≡ 0)

-- the place there differs, and none before it does; there is none exactly when no place differs
abbrev pub FirstDifferent : List Pair → Option ℕ → Type 0
FirstDifferent ps None = (i : ℕ) (d : Pair) → i < length ps → is_different (slice_index_or ps i d) ≡ false
FirstDifferent ps (Some n) =
    (n < length ps)
    × ((d : Pair) → is_different (slice_index_or ps n d) ≡ true)
    × ((i : ℕ) (d : Pair) → i < n → is_different (slice_index_or ps i d) ≡ false)

-- ---- two masters

-- what is told of two whole masters
pub record DifferenceTells (left right : List ℕ) (s : Difference) : Type 0 where
  pub left_samples : s.left ≡ length (strip_of left)
  pub right_samples : s.right ≡ length (strip_of right)
  pub different : s.different ≡ how_many is_different (shared (strip_of left) (strip_of right))
  pub first : FirstDifferent (shared (strip_of left) (strip_of right)) s.first
  pub widest : Largest (shared (strip_of left) (strip_of right)) s.widest

-- before the first block
abbrev pub unseen : Difference
unseen = record { left = 0; right = 0; different = 0; first = None; widest = 0 }

-- two blocks may follow what was seen of both: behind whole samples, as many of the one as of the other; behind the end of the one that is no longer
-- than the other, of which whole samples were seen, a block of the other alone
pub data InStep (left right nextLeft nextRight : List ℕ) : Type 0 where
  both : left_of F32 left ≡ 0 → length left ≡ length right → InStep left right nextLeft nextRight
  left_ended : nextLeft ≡ [] → length left ≤ length right → left_of F32 right ≡ 0 → InStep left right nextLeft nextRight
  right_ended : nextRight ≡ [] → length right ≤ length left → left_of F32 left ≡ 0 → InStep left right nextLeft nextRight

-- what was seen of both, and what is told of it, block after block
pub data Seen : List ℕ → List ℕ → Difference → Type 0 where
  nothing : Seen [] [] unseen
  more : (left right nextLeft nextRight : List ℕ) (s : Difference) → Seen left right s → InStep left right nextLeft nextRight
      → Seen (left ++ nextLeft) (right ++ nextRight) (difference_after s nextLeft nextRight)

-- what the blocks of two masters tell, however they were cut in step, is what the whole masters have
abbrev pub DifferencesTell : Type 0
DifferencesTell = (left right : List ℕ) (s : Difference) → Seen left right s → DifferenceTells left right s
