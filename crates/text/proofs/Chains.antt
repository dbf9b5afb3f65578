-- What std says of the chains of iterators in `words` is what the definitions say.
use mathlib.Core.Path.{◌≡◌, refl, sym, ◌∙◌, ap}
use mathlib.Core.Bool.{cond, ◌&&◌, not}
use mathlib.Core.List.{List, [], ◌∷◌}
use mathlib.Core.Logic.{◌⊎◌, inl, inr}
use borrow.Author.Tests.{lt-ltb, le-ltb}
use Prim.Native.Nat.{ℕ, zero, suc, ◌≤◌, ◌<◌}
use native.Mathlib.Omega.{arith}
use lib.Dec.{eqb, ltb}
use lib.ListN.{length, take, length-take}
use Rattle.std.specs.Prelude.{Option, None, Some}
use Rattle.std.specs.Borrow.{Bor}
use Rattle.float.proofs.Naturals.{lt_or_ge}
use Rattle.std.specs.Cmp.Lexicographic.{pointwise}
use Rattle.std.specs.List.{position, position_or_len, prefix_len, slice_split, onto_first, slice_get}
use Rattle.std.specs.Option.{unwrap_or, option_map}
use Rattle.std.proofs.lemmas.List.Folds.{length-prefix_len}
use Rattle.std.proofs.lemmas.List.Recursion.{is_position_or_len}
use Rattle.text.specs.Words.{place_of, same_bytes, begun, words_of, number_among, nth_of}

-- the place of the first b, or the length
pub place_is : (b : ℕ) (s : List ℕ) → unwrap_or (position (λ x. eqb x b) s) (length s) ≡ place_of b s
unfolding place_of
place_is b s = found (lt_or_ge n (length s)) ∙ sym (is_position_or_len (place_of b) (λ x. eqb x b) refl (λ x xs. ap (cond (eqb x b) 0) (omega arith)) s)
  where
    n : ℕ
    n = position_or_len (λ x. eqb x b) s

    within : n ≤ length s
    within = let h = sym (length-prefix_len (λ x. not (eqb x b)) s) ∙ length-take (position_or_len (λ x. eqb x b) s) s in omega arith

    found : (n < length s) ⊎ (length s ≤ n) → unwrap_or (cond (ltb n (length s)) (Some n) None) (length s) ≡ n
    found (inl l) = rw (lt-ltb _ _ l)
    found (inr g) = let e : length s ≡ n = omega (arith, within) in rw (le-ltb _ _ g) e

same_is : (a b : List ℕ) → pointwise eqb a b ≡ same_bytes a b
unfolding same_bytes
same_is [] [] = refl
same_is [] (y ∷ b) = refl
same_is (x ∷ a) [] = refl
same_is (x ∷ a) (y ∷ b) = ap (λ t. eqb x y && t) (same_is a b)

begun_is : (b : ℕ) (ws : List (List ℕ)) → onto_first b ws ≡ begun b ws
begun_is b [] = refl
begun_is b (w ∷ ws) = refl

pub words_is : (s : List ℕ) → slice_split (λ b. eqb b 32) s ≡ words_of s
unfolding words_of
words_is [] = refl
words_is (b ∷ s) =
    ap (λ ws. cond (eqb b 32) ([] ∷ ws) (onto_first b ws)) (words_is s) ∙ ap (cond (eqb b 32) ([] ∷ words_of s)) (begun_is b (words_of s))

pub number_is : (s : List ℕ) (ws : List (List ℕ)) → length (take (prefix_len (λ w. not (pointwise eqb s w)) ws) ws) ≡ number_among s ws
unfolding number_among
number_is s ws = length-prefix_len (λ w. not (pointwise eqb s w)) ws
    ∙ sym (is_position_or_len (number_among s) (pointwise eqb s) refl (λ w ws. rw (same_is s w) (ap (cond (same_bytes s w) 0) (omega arith))) ws)

pub nth_is : (n : ℕ) (ws : List (List ℕ)) → unwrap_or (slice_get ws n) [] ≡ nth_of n ws
unfolding nth_of
nth_is n [] = refl
nth_is zero (w ∷ ws) = refl
nth_is (suc n) (w ∷ ws) = nth_is n ws

pub now_is : {A : Type 0} (r : Option (Bor A)) (d : Bor A) → (unwrap_or r d).now ≡ unwrap_or (option_map (λ (x : Bor A). x.now) r) d.now
now_is None d = refl
now_is (Some x) d = refl

-- no number is past the list
pub among_most : (s : List ℕ) (ws : List (List ℕ)) → number_among s ws ≤ length ws
among_most s ws = let h = sym (number_is s ws) ∙ length-take _ ws in omega arith
