-- All blocks are seen as one, so what is told of two masters is told of the whole of both behind nothing. No count wraps, for none is above `most`.
use Rattle.std.proofs.Common.{◌≡◌, ℕ, suc, ◌+◌, ◌/◌, ◌≤◌, min, max, not, ◌⊎◌, List, length, ℤ, pos, negsuc, ◌+ℤ◌, ◌-ℤ◌, nat_abs, sym, refl, ap, ◌∙◌}
use Rattle.std.proofs.Common.{inl, inr, mod-eq_of_lt, zero-add, arith, eq-eqb, eqb-true}
use borrow.Author.Tests.{not-false}
use lib.IntN.{+ℤ_comm, -ℤ-+ℤ_cancel}
use Rattle.float.specs.Format.{position_of}
use Rattle.row.specs.Row.{how_many}
use Rattle.row.proofs.HowMany.{many_few}
use Rattle.sample.specs.Samples.{counted}
use Rattle.sample.proofs.Samplings.{length_numbers}
use Rattle.strip.specs.Sheet.{most}
use Rattle.strip.specs.SheetTheorem.{strip_of}
use Rattle.strip.specs.Difference.{Pair, is_different, shared, widest_of, difference_after}
use Rattle.strip.specs.DifferenceTheorem.{Places, DifferenceTells, unseen, DifferencesTell}
use Rattle.strip.proofs.Pairs.{shared_count, shared_place}
use Rattle.strip.proofs.Firsts.{first_different}
use Rattle.strip.proofs.Largest.{largest}
use Rattle.strip.proofs.Meeting.{seen_whole}

-- ---- what the definitions mean

-- so many on from the one is the other
steps_apart : (x y : ℤ) → (x +ℤ pos (nat_abs (x -ℤ y)) ≡ y) ⊎ (y +ℤ pos (nat_abs (x -ℤ y)) ≡ x)
steps_apart x y = go (x -ℤ y) (-ℤ-+ℤ_cancel x y)
  where
    go : (z : ℤ) → z +ℤ y ≡ x → (x +ℤ pos (nat_abs z) ≡ y) ⊎ (y +ℤ pos (nat_abs z) ≡ x)
    go (pos n) q = inr (+ℤ_comm y (pos n) ∙ q)
    go (negsuc n) q =
        inl (ap (λ (w : ℤ). w +ℤ pos (suc n)) (sym q ∙ +ℤ_comm (negsuc n) y) ∙ -ℤ-+ℤ_cancel y (pos (suc n)))

pub places : Places
places = record {
  same = λ p. (λ h. eqb-true p.left p.right (not-false _ h), λ q. ap not (eq-eqb p.left p.right q));
  apart = λ p. steps_apart (position_of 23 8 p.left) (position_of 23 8 p.right);
  how_many_lem = shared_count;
  each = shared_place;
}

-- ---- two whole masters

module _ (left right : List ℕ) where
  abbrev pairs : List Pair
  pairs = shared (strip_of left) (strip_of right)

  few : how_many is_different pairs ≤ most
  few =
      let samples = length_numbers 4 (min (length left / 4) most) left in
      omega (arith, many_few is_different pairs, shared_count (strip_of left) (strip_of right), samples)

  none_wraps : counted (0 + how_many is_different pairs) ≡ how_many is_different pairs
  none_wraps = rw (zero-add (how_many is_different pairs)) (mod-eq_of_lt (omega (arith, few)))

  whole_tells : DifferenceTells left right (difference_after unseen left right)
  unfolding difference_after
  whole_tells =
      let wide : max 0 (widest_of pairs) ≡ widest_of pairs = omega arith in
      rw (zero-add (length (strip_of left)), zero-add (length (strip_of right)), none_wraps, wide)
      (record { left_samples = refl; right_samples = refl; different = refl; first = first_different pairs; widest = largest pairs })

pub differences_tell : DifferencesTell
differences_tell left right s seen = rw (seen_whole seen) (whole_tells left right)
