-- Which rows are accepted, what a row holds after that, and which sample decides when it is refused. RULES.md: Rows, Choosing and clamping.
use Rattle.std.specs.Prelude.{ℕ, ◌<◌, ◌≡◌, ◌↔◌, true, List, [], length, get_or, Float}
use Rattle.std.specs.Float.{nan}
use Rattle.float.specs.Order.{is_less_or_equal}
use Rattle.value.specs.declared.Kind.TheVariants as kind
use Rattle.value.specs.declared.Value.TheVariants.{U8, U16, F32}
use Rattle.value.specs.Outcome.{Outcome, gives, refuses, done}
use Rattle.choose.specs.declared.Range.{Range}
use Rattle.choose.specs.Choose.{sample_order, sample_of}
use Rattle.convert.specs.Convert.{convert_of}
use Rattle.row.specs.Convert.{u8_to_u16, u16_to_u8, u16_to_f32, f32_to_u16, convert_answer, convert_exit}
use Rattle.rowclamp.specs.Clamp.{clamp_answer, clamp_exit}

-- the sample at every index of a row and the one at the same index of another belong together
abbrev pub AtEveryIndex : {A B : Type 0} → (A → B → Type 0) → List A → List B → Type 0
AtEveryIndex {A} {B} Together src left = (i : ℕ) (x : A) (y : B) → i < length src → Together (get_or src i x) (get_or left i y)

-- no sample before index n is refused
abbrev pub GivenBelow : {A B : Type 0} → (A → Outcome B) → List A → ℕ → Type 0
GivenBelow {A} {B} conv src n = (i : ℕ) (x : A) → i < n → (y : B) × (conv (get_or src i x) ≡ gives y)

-- ---- "each output sample is the conversion of the input sample at that index, or the whole row is refused"

-- of rows over any conversion of one sample
pub record AnyRow {A B : Type 0} (conv : A → Outcome B) : Type 0 where
  -- "Length 0 is accepted"
  pub empty : convert_answer conv [] [] ≡ gives done
  -- a row is accepted exactly when the lengths are the same and no sample is refused
  pub accepted : (src : List A) (dst : List B)
      → (convert_answer conv src dst ≡ gives done) ↔ ((length src ≡ length dst) × GivenBelow conv src (length src))
  -- and then the destination has as many samples as before, and at every index the conversion of the sample there
  pub same_length : (src : List A) (dst : List B) → convert_answer conv src dst ≡ gives done → length (convert_exit conv src dst) ≡ length dst
  pub converted : (src : List A) (dst : List B) → convert_answer conv src dst ≡ gives done
      → AtEveryIndex (λ a b. conv a ≡ gives b) src (convert_exit conv src dst)
  -- rows of two lengths are 9
  pub lengths_differ_lem : (src : List A) (dst : List B) → (length src ≡ length dst → ⊥) → convert_answer conv src dst ≡ refuses 9 0
  -- else the lowest index decides, with the number of the sample there
  pub lowest : (src : List A) (dst : List B) → length src ≡ length dst → (i : ℕ) → i < length src → GivenBelow conv src i
      → (n p : ℕ) (x : A) → conv (get_or src i x) ≡ refuses n p → convert_answer conv src dst ≡ refuses n i

-- a range whose bounds are lower ≤ upper
abbrev pub BoundsInOrder : Range → Type 0
BoundsInOrder range = is_less_or_equal (sample_order range.lower range.upper) ≡ true

-- of every row
pub record Rows : Type 1 where
  pub any_row : {A B : Type 0} (conv : A → Outcome B) → AnyRow conv
  -- the four calls: the conversions of samples are those of values
  pub u8_to_u16_lem : (src dst : List ℕ) → convert_answer u8_to_u16 src dst ≡ gives done
      → AtEveryIndex (λ m n. convert_of (U8 m) kind.U16 ≡ gives (U16 n)) src (convert_exit u8_to_u16 src dst)
  pub u16_to_u8_lem : (src dst : List ℕ) → convert_answer u16_to_u8 src dst ≡ gives done
      → AtEveryIndex (λ m n. convert_of (U16 m) kind.U8 ≡ gives (U8 n)) src (convert_exit u16_to_u8 src dst)
  pub u16_to_f32_lem : (src : List ℕ) (dst : List Float) → convert_answer u16_to_f32 src dst ≡ gives done
      → AtEveryIndex (λ m x. convert_of (U16 m) kind.F32 ≡ gives (F32 x 0)) src (convert_exit u16_to_f32 src dst)
  pub f32_to_u16_lem : (src : List Float) (dst : List ℕ) → convert_answer f32_to_u16 src dst ≡ gives done
      → AtEveryIndex (λ x n. convert_of (F32 x 0) kind.U16 ≡ gives (U16 n)) src (convert_exit f32_to_u16 src dst)
  -- the clamp of a row in place: accepted exactly when the bounds are in order and no sample is refused
  pub clamp_accepted : (range : Range) (row : List Float)
      → (clamp_answer range row ≡ gives done) ↔ (BoundsInOrder range × GivenBelow (sample_of range) row (length row))
  -- and then the row has as many samples as before, and at every index the clamp of the sample there
  pub clamp_same_length : (range : Range) (row : List Float) → clamp_answer range row ≡ gives done → length (clamp_exit range row) ≡ length row
  pub clamped : (range : Range) (row : List Float) → clamp_answer range row ≡ gives done
      → AtEveryIndex (λ x y. sample_of range x ≡ gives y) row (clamp_exit range row)
  -- bounds that are not lower ≤ upper are 6, whatever the row holds
  pub bounds_first : (range : Range) (row : List Float) → (BoundsInOrder range → ⊥) → clamp_answer range row ≡ refuses 6 0
  -- else the lowest index decides, and a NaN is 8
  pub clamp_lowest : (range : Range) (row : List Float) → BoundsInOrder range → (i : ℕ) → i < length row → GivenBelow (sample_of range) row i
      → (n p : ℕ) (x : Float) → sample_of range (get_or row i x) ≡ refuses n p → clamp_answer range row ≡ refuses n i
  pub nan_refused : (range : Range) → BoundsInOrder range → sample_of range nan ≡ refuses 8 0
