-- An order in a match: an arm that names several cases knows every test that holds of each of them.
use mathlib.Core.Path.{◌≡◌, refl, sym, subst}
use mathlib.Core.Logic.{inl, inr}
use mathlib.Core.List.{List, [], ◌∷◌}
use mathlib.Core.Bool.{Bool, true, ◌&&◌}
use Prim.Native.Nat.{ℕ, zero, suc}
use lib.Dec.{T}
use types.Run.{OneOf}
use denote.Enum.Declared.{tag_of}
use Rattle.float.specs.declared.Order.{Order}
use Rattle.float.specs.declared.Order.TheVariants.{Less, Equal, Greater, Unordered}
use Rattle.float.specs.contracts.Order.{the_type}
use Rattle.float.proofs.Tests.{and_left, and_right}
use Rattle.cmp.proofs.KindTests.{is_true}

-- a test that holds of every key of an arm holds of the tag
abbrev all : (ℕ → Bool) → ℕ → List ℕ → Bool
all p j [] = p j
all p j (i ∷ is) = p j && all p i is

all_keys : (p : ℕ → Bool) (j : ℕ) (js : List ℕ) (x : ℕ) → T (all p j js) → OneOf (j ∷ js) x → T (p x)
all_keys p j [] x t q = subst (λ (n : ℕ). T (p n)) (sym q) t
all_keys p j (i ∷ is) x t (inl q) = subst (λ (n : ℕ). T (p n)) (sym q) (and_left (p j) (all p i is) t)
all_keys p j (i ∷ is) x t (inr q) = all_keys p i is x (and_right (p j) (all p i is) t) q

-- the order with a tag
abbrev pub order_at : ℕ → Order
order_at zero = Less
order_at (suc zero) = Equal
order_at (suc (suc zero)) = Greater
order_at (suc (suc (suc n))) = Unordered

order_tag : (o : Order) → order_at (tag_of the_type o) ≡ o
order_tag Less = refl
order_tag Equal = refl
order_tag Greater = refl
order_tag Unordered = refl

pub order_keys : (test : Order → Bool) (j : ℕ) (js : List ℕ) (o : Order) → OneOf (j ∷ js) (tag_of the_type o)
    → T (all (λ n. test (order_at n)) j js) → test o ≡ true
order_keys test j js o k t = is_true _ (subst (λ (p : Order). T (test p)) (order_tag o) (all_keys (λ n. test (order_at n)) j js _ t k))
