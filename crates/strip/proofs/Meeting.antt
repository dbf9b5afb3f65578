-- Two blocks behind others in step are compared as both joined: the places they share follow those before, and every count goes on.
use Rattle.std.specs.Prelude.{Option}
use Rattle.std.proofs.Common.{◌≡◌, ℕ, ◌+◌, ◌≤◌, max, List, [], ◌++◌, length, sym, refl, ap, ◌∙◌, append-nil, add_assoc, arith, length-append}
use Rattle.row.specs.Row.{first, how_many}
use Rattle.sample.specs.Samples.{numbers_in}
use Rattle.sample.proofs.Samplings.{length_numbers}
use Rattle.strip.specs.declared.Difference.{Difference}
use Rattle.strip.specs.Sheet.{taken_of, taken_in}
use Rattle.strip.specs.Difference.{is_different, shared, widest_of, first_in, earlier_of, difference_after}
use Rattle.strip.specs.DifferenceTheorem.{unseen, InStep, both, left_ended, right_ended, Seen, nothing, more}
use Rattle.strip.proofs.Blocks.{taken_joined, counts_joined}
use Rattle.strip.proofs.Pairs.{shared_count, shared_joined, shared_left_ends, shared_right_ends, none_shared, widest_joined}
use Rattle.strip.proofs.Firsts.{no_more_found, found_joined}

-- ---- samples

-- as many of the one as of the other, or no more of the shorter one
data Meets (a b c d : List ℕ) : Type 0 where
  even : length a ≡ length b → Meets a b c d
  left_done : length a ≤ length b → c ≡ [] → Meets a b c d
  right_done : length b ≤ length a → d ≡ [] → Meets a b c d

meets_shared : (a b c d : List ℕ) → Meets a b c d → shared (a ++ c) (b ++ d) ≡ shared a b ++ shared c d
unfolding shared
meets_shared a b c d (even h) = shared_joined a c b d h
meets_shared a b c d (left_done h q) = rw (q, append-nil a, shared_left_ends a b d h) (sym (append-nil (shared a b)))
meets_shared a b c d (right_done h q) = rw (q, append-nil b, shared_right_ends a c b h, none_shared c) (sym (append-nil (shared a b)))

-- what was found, with the places counted on from the left samples
meets_found : (f : Option ℕ) (n : ℕ) (a b c d : List ℕ) → Meets a b c d
    → earlier_of (earlier_of f (first_in n (shared a b))) (first_in (n + length a) (shared c d)) ≡ earlier_of f (first_in n (shared a b ++ shared c d))
unfolding shared
meets_found f n a b c d (even h) =
    let many : length (shared a b) ≡ length a = shared_count a b ∙ omega arith in
    ap (λ (m : ℕ). earlier_of (earlier_of f (first_in n (shared a b))) (first_in (n + m) (shared c d))) (sym many) ∙ found_joined f n (shared a b) (shared c d)
meets_found f n a b c d (left_done h q) =
    rw (q, append-nil (shared a b)) (no_more_found (earlier_of f (first_in n (shared a b))) (n + length a))
meets_found f n a b c d (right_done h q) =
    rw (q, none_shared c, append-nil (shared a b)) (no_more_found (earlier_of f (first_in n (shared a b))) (n + length a))

-- ---- blocks

-- none are taken of no bytes
none_taken : (n : ℕ) → taken_in n [] ≡ []
unfolding numbers_in
none_taken n = let none : taken_of n [] ≡ 0 = omega arith in ap (λ (k : ℕ). numbers_in 4 k []) none

taken_alone : (n : ℕ) (p b : List ℕ) → b ≡ [] → taken_in n (p ++ b) ≡ taken_in n p ++ taken_in (n + length (taken_in n p)) b
taken_alone n p b none = rw (none, append-nil p, none_taken (n + length (taken_in n p)), append-nil (taken_in n p)) refl

module _ (s : Difference) (l r c d : List ℕ) where
  abbrev ls : List ℕ
  ls = taken_in s.left l

  abbrev rs : List ℕ
  rs = taken_in s.right r

  abbrev cs : List ℕ
  cs = taken_in (s.left + length ls) c

  abbrev ds : List ℕ
  ds = taken_in (s.right + length rs) d

  difference_joined : taken_in s.left (l ++ c) ≡ ls ++ cs → taken_in s.right (r ++ d) ≡ rs ++ ds → Meets ls rs cs ds
      → difference_after (difference_after s l r) c d ≡ difference_after s (l ++ c) (r ++ d)
  unfolding difference_after
  difference_joined left right meets =
      let wide : max (max s.widest (widest_of (shared ls rs))) (widest_of (shared cs ds))
      ≡ max s.widest (max (widest_of (shared ls rs)) (widest_of (shared cs ds))) =
      omega arith in
      rw (
        left,
        right,
        length-append ls cs,
        length-append rs ds,
        ← add_assoc s.left (length ls) (length cs),
        ← add_assoc s.right (length rs) (length ds),
        meets_shared ls rs cs ds meets,
        counts_joined is_different s.different (shared ls rs) (shared cs ds),
        meets_found s.first s.left ls rs cs ds meets,
        widest_joined (shared ls rs) (shared cs ds),
        wide,
      ) refl

-- ---- what was seen

many_taken : (n : ℕ) (p : List ℕ) → length (taken_in n p) ≡ taken_of n p
many_taken n p = length_numbers 4 (taken_of n p) p

seen_more : (l r c d : List ℕ) → InStep l r c d → difference_after (difference_after unseen l r) c d ≡ difference_after unseen (l ++ c) (r ++ d)
seen_more l r c d (both whole level) =
    difference_joined unseen l r c d (taken_joined 0 l c whole) (taken_joined 0 r d (rw (← level) whole))
    (even (omega (arith, many_taken 0 l, many_taken 0 r, level)))
seen_more l r c d (left_ended none shorter whole) =
    difference_joined unseen l r c d (taken_alone 0 l c none) (taken_joined 0 r d whole)
    (left_done (omega (arith, many_taken 0 l, many_taken 0 r, shorter)) (rw none (none_taken _)))
seen_more l r c d (right_ended none shorter whole) =
    difference_joined unseen l r c d (taken_joined 0 l c whole) (taken_alone 0 r d none)
    (right_done (omega (arith, many_taken 0 l, many_taken 0 r, shorter)) (rw none (none_taken _)))

nothing_seen : unseen ≡ difference_after unseen [] []
unfolding difference_after numbers_in shared how_many first widest_of
nothing_seen = refl

pub seen_whole : {l r : List ℕ} {s : Difference} → Seen l r s → s ≡ difference_after unseen l r
seen_whole nothing = nothing_seen
seen_whole (more l r c d s seen step) = ap (λ (t : Difference). difference_after t c d) (seen_whole seen) ∙ seen_more l r c d step
