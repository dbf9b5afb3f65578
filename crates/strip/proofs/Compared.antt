-- Two blocks behind what was seen before them: the places that both have are those that were gone over.
use Rattle.std.specs.Prelude.{Option, None, Some, MatchOption, option_map, position, fold, sum_by}
use Rattle.std.specs.Int.{from_bool}
use Rattle.std.specs.List.{zip, prefix_len}
use Rattle.std.proofs.lemmas.List.Sums.{sum_by-cons}
use Rattle.std.proofs.Common.{◌≡◌, ℕ, suc, ◌+◌, ◌^◌, ◌<◌, max, Bool, true, false, cond, not, ltb, List, [], ◌∷◌, map, length, sym, refl, ap, ◌∙◌}
use Rattle.std.proofs.Common.{mod-eq_of_lt, add-zero, arith}
use lib.ListN.{length-map}
use Rattle.row.specs.Row.{first, how_many}
use Rattle.sample.specs.Samples.{counted}
use Rattle.strip.specs.declared.Difference.{Difference}
use Rattle.strip.specs.Sheet.{taken_in}
use Rattle.strip.specs.Difference.{Pair, is_different, shared, widest_of, first_in, earlier_of, difference_after}
use Rattle.strip.specs.Inner.{all_bits, pair_of, differ, far}
use Rattle.strip.proofs.Counting.{length_bits}
use Rattle.strip.proofs.Firsts.{none_differ}
use Rattle.strip.proofs.Largest.{none_wide}

-- ---- the places, one after the other

pub pairs_shared : (ls rs : List (List ℕ)) → map pair_of (zip ls rs) ≡ shared (all_bits ls) (all_bits rs)
unfolding shared
pairs_shared [] rs = refl
pairs_shared (l ∷ ls) [] = refl
pairs_shared (l ∷ ls) (r ∷ rs) = ap (λ (ps : List Pair). pair_of (l, r) ∷ ps) (pairs_shared ls rs)

abbrev Places : Type 0
Places = List (List ℕ × List ℕ)

one_more : (t : Bool) (m : ℕ) → from_bool t + m ≡ cond t (suc m) m
one_more true m = omega arith
one_more false m = omega arith

many_differ : (ps : Places) → sum_by (λ p. from_bool (differ p)) ps ≡ how_many is_different (map pair_of ps)
unfolding how_many
many_differ [] = refl
many_differ (p ∷ ps) =
    sum_by-cons (λ p. from_bool (differ p)) p ps
    ∙ ap (λ (m : ℕ). from_bool (differ p) + m) (many_differ ps)
    ∙ one_more (differ p) (how_many is_different (map pair_of ps))

wide_from : (w : ℕ) (ps : Places) → fold (λ w p. max w (far p)) w ps ≡ max w (widest_of (map pair_of ps))
unfolding widest_of
wide_from w [] = omega arith
wide_from w (p ∷ ps) = wide_from (max w (far p)) ps ∙ omega arith

all_wide : (ps : Places) → fold (λ w p. max w (far p)) 0 ps ≡ widest_of (map pair_of ps)
all_wide ps = wide_from 0 ps ∙ omega arith

passed : (t : Bool) (m : ℕ) → cond t 0 (suc m) ≡ cond (not t) (1 + m) 0
passed true m = refl
passed false m = omega arith

first_place : (ps : Places) → first is_different (map pair_of ps) ≡ prefix_len (λ p. not (differ p)) ps
unfolding first
first_place [] = refl
first_place (p ∷ ps) = ap (λ (m : ℕ). cond (differ p) 0 (suc m)) (first_place ps) ∙ passed (differ p) (prefix_len (λ p. not (differ p)) ps)

mapped_if : (t : Bool) (before m : ℕ) → option_map (λ i. before + i) (cond t (Some m) None) ≡ cond t (Some (before + m)) None
mapped_if true before m = refl
mapped_if false before m = refl

first_found : (before : ℕ) (ps : Places) → option_map (λ i. before + i) (position differ ps) ≡ first_in before (map pair_of ps)
first_found before ps =
    rw (first_place ps, length-map ps pair_of) (mapped_if (ltb (prefix_len (λ p. not (differ p)) ps) (length ps)) before (prefix_len (λ p. not (differ p)) ps))

-- what was found before stays
pub found_or : (f : Option ℕ) {r o : Option ℕ} {P : Type 0} → (P → r ≡ o) → MatchOption f P (λ x. r ≡ Some x) → r ≡ earlier_of f o
found_or None h m = h m
found_or (Some n) h m = m

-- ---- two blocks

module _ (s : Difference) (left right : List ℕ) (ls rs : List (List ℕ)) (l : all_bits ls ≡ taken_in s.left left) (r : all_bits rs ≡ taken_in s.right right)
    {d : ℕ} (counted_is : d ≡ sum_by (λ p. from_bool (differ p)) (zip ls rs)) where
  places : map pair_of (zip ls rs) ≡ shared (taken_in s.left left) (taken_in s.right right)
  places = pairs_shared ls rs ∙ rw (l, r) refl

  differing : d ≡ how_many is_different (map pair_of (zip ls rs))
  differing = counted_is ∙ many_differ (zip ls rs)

  none_first : (f : Option ℕ) → earlier_of f None ≡ f
  none_first (Some n) = refl
  none_first None = refl

  pub all_same : d ≡ 0 → s.different < 2 ^ 64
      → record { left = s.left + length ls; right = s.right + length rs; different = s.different; first = s.first; widest = s.widest }
      ≡ difference_after s left right
  unfolding difference_after
  all_same none small =
      let nothing : how_many is_different (map pair_of (zip ls rs)) ≡ 0 = sym differing ∙ none in
      rw (
        ← places,
        nothing,
        add-zero s.different,
        mod-eq_of_lt small,
        ← none_differ s.left _ nothing,
        none_wide _ nothing,
        none_first s.first,
        ← l,
        ← r,
        length_bits ls,
        length_bits rs,
      ) (ap (λ (w : ℕ). record { left = s.left + length ls; right = s.right + length rs; different = s.different; first = s.first; widest = w }) (omega arith))

  pub some_differ : {total wide : ℕ} {f : Option ℕ} → total ≡ counted (s.different + d)
      → f ≡ earlier_of s.first (option_map (λ i. s.left + i) (position differ (zip ls rs)))
      → wide ≡ max s.widest (fold (λ w p. max w (far p)) 0 (zip ls rs))
      → record { left = s.left + length ls; right = s.right + length rs; different = total; first = f; widest = wide } ≡ difference_after s left right
  unfolding difference_after
  some_differ sum found farthest =
      rw (sum, found, farthest, differing, all_wide (zip ls rs), first_found s.left (zip ls rs), places, ← length_bits ls, ← length_bits rs, l, r)
