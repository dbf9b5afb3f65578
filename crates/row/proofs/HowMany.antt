-- How many samples of a row pass a test: of two rows one behind the other the sum, of one sample one or none, and never more than there are.
use mathlib.Core.Path.{◌≡◌, refl, sym}
use mathlib.Core.Bool.{Bool, true, false, cond}
use mathlib.Core.List.{List, [], ◌∷◌, ◌++◌}
use Prim.Native.Nat.{ℕ, suc, ◌+◌, ◌≤◌}
use native.Mathlib.Nat.{zero-add}
use native.Mathlib.Omega.{arith}
use lib.ListN.{length}
use Rattle.row.specs.Row.{how_many}

one_more : (t : Bool) (m n : ℕ) → cond t (suc (m + n)) (m + n) ≡ cond t (suc m) m + n
one_more true m n = omega arith
one_more false m n = refl

pub many_joined : {A : Type 0} (test : A → Bool) (a b : List A) → how_many test (a ++ b) ≡ how_many test a + how_many test b
unfolding how_many
many_joined test [] b = sym (zero-add (how_many test b))
many_joined test (x ∷ a) b = rw (many_joined test a b) (one_more (test x) (how_many test a) (how_many test b))

at_most : (t : Bool) (m n : ℕ) → m ≤ n → cond t (suc m) m ≤ suc n
at_most true m n h = omega arith
at_most false m n h = omega arith

pub many_few : {A : Type 0} (test : A → Bool) (xs : List A) → how_many test xs ≤ length xs
unfolding how_many
many_few test [] = omega arith
many_few test (x ∷ xs) = at_most (test x) (how_many test xs) (length xs) (many_few test xs)

-- one sample more
pub many_last : {A : Type 0} (test : A → Bool) (xs : List A) (x : A) → how_many test (xs ++ (x ∷ [])) ≡ how_many test xs + cond (test x) 1 0
unfolding how_many
many_last test xs x = many_joined test xs (x ∷ [])
