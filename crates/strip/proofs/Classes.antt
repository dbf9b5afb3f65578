-- The five tests are those of the five classes. The bounds of a class begin where those of the class before it end: what a class counts, and
-- what is counted from its end on, is what is counted from its begin on. So all five count every sample.
use Rattle.std.proofs.Common.{◌≡◌, ℕ, suc, ◌+◌, ◌^◌, ◌≤◌, Bool, true, false, cond, ◌&&◌, eqb, ltb, leb, List, [], ◌∷◌, length, refl, ap, inl, inr}
use Rattle.std.proofs.Common.{add-zero, arith, lit≤, le-ltb, lt-ltb, eq-eqb, ne_eqb, le-leb}
use mathlib.Core.Bool.{and-true}
use borrow.Author.Tests.{lt-leb}
use Rattle.float.specs.declared.Class.TheVariants.{Zero, Subnormal, Normal, Infinite, Nan}
use Rattle.float.specs.Format.{inf_of, abs_of, zero_of, subnormal_of, normal_of, infinite_of, nan_of}
use Rattle.float.proofs.Naturals.{lt_or_ge, three_ways}
use Rattle.float.proofs.ClassBounds.{class_bounds}
use Rattle.row.specs.Row.{how_many}
use Rattle.strip.specs.SheetTheorem.{Classes}

pub the_classes : Classes
the_classes = record {
  zero = λ b. class_bounds 23 8 b (lit≤ tt) Zero;
  subnormal = λ b. class_bounds 23 8 b (lit≤ tt) Subnormal;
  normal = λ b. class_bounds 23 8 b (lit≤ tt) Normal;
  infinite = λ b. class_bounds 23 8 b (lit≤ tt) Infinite;
  nan = λ b. class_bounds 23 8 b (lit≤ tt) Nan;
}

-- ---- bounds end where others begin

one_more : (t : Bool) (k : ℕ) → cond t (suc k) k ≡ cond t 1 0 + k
one_more true k = omega arith
one_more false k = omega arith

at_or_above : (n x : ℕ) → cond (eqb x n) 1 0 + cond (ltb n x) 1 0 ≡ cond (leb n x) 1 0
at_or_above n x = elim (three_ways x n) [
  | inl l ↦ rw (ne_eqb x n (λ q. omega arith), le-ltb n x (omega arith), lt-leb n x l) refl
  | inr (inl q) ↦ rw (eq-eqb x n q, le-ltb n x (omega arith), le-leb n x (omega arith)) refl
  | inr (inr g) ↦ rw (ne_eqb x n (λ q. omega arith), lt-ltb n x g, le-leb n x (omega arith)) refl
]

below_or_above : (m n x : ℕ) → m ≤ n → cond (leb m x && ltb x n) 1 0 + cond (leb n x) 1 0 ≡ cond (leb m x) 1 0
below_or_above m n x h = elim (lt_or_ge x n) [
  | inl l ↦ rw (lt-ltb x n l, lt-leb n x l, and-true (leb m x)) (add-zero (cond (leb m x) 1 0))
  | inr g ↦ rw (le-ltb x n g, le-leb n x g, le-leb m x (omega arith)) refl
]

-- how many samples there are whose abs passes a test
abbrev many_by : (ℕ → Bool) → List ℕ → ℕ
many_by test bs = how_many (λ b. test (abs_of 23 8 b)) bs

-- those of two parts are those of both
parts_many : (t u both : ℕ → Bool) → ((x : ℕ) → cond (t x) 1 0 + cond (u x) 1 0 ≡ cond (both x) 1 0) → (bs : List ℕ)
    → many_by t bs + many_by u bs ≡ many_by both bs
unfolding how_many
parts_many t u both parts [] = refl
parts_many t u both parts (b ∷ bs) =
    let x = abs_of 23 8 b in
    omega (
      arith,
      parts x,
      parts_many t u both parts bs,
      one_more (t x) (many_by t bs),
      one_more (u x) (many_by u bs),
      one_more (both x) (many_by both bs),
    )

from_zero : (bs : List ℕ) → many_by (leb 0) bs ≡ length bs
unfolding how_many
from_zero [] = refl
from_zero (b ∷ bs) = rw (le-leb 0 (abs_of 23 8 b) (omega arith)) (ap suc (from_zero bs))

module _ (bs : List ℕ) where
  at : (n : ℕ) → many_by (λ x. eqb x n) bs + many_by (ltb n) bs ≡ many_by (leb n) bs
  at n = parts_many (λ x. eqb x n) (ltb n) (leb n) (at_or_above n) bs

  below : (m n : ℕ) → m ≤ n → many_by (λ x. leb m x && ltb x n) bs + many_by (leb n) bs ≡ many_by (leb m) bs
  below m n h = parts_many (λ x. leb m x && ltb x n) (leb n) (leb m) (λ x. below_or_above m n x h) bs

  pub class_sum : how_many (zero_of 23 8) bs + how_many (subnormal_of 23 8) bs + how_many (normal_of 23 8) bs + how_many (infinite_of 23 8) bs
      + how_many (nan_of 23 8) bs ≡ length bs
  class_sum = omega (arith, at 0, below 1 (2 ^ 23) (lit≤ tt), below (2 ^ 23) (inf_of 23 8) (lit≤ tt), at (inf_of 23 8), from_zero bs)
