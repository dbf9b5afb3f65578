-- What is chosen, by each order.
use mathlib.Core.Path.{◌≡◌, sym, ap}
use mathlib.Core.Bool.{true, not, ◌||◌}
use Prim.Native.Nat.{ℕ}
use borrow.Author.Tests.{not-true}
use Rattle.float.specs.declared.Order.{Order}
use Rattle.float.specs.declared.Order.TheVariants.{Greater, Unordered}
use Rattle.float.specs.Order.{is_greater, is_unordered}
use Rattle.float.proofs.Tests.{neither}
use Rattle.value.specs.Outcome.{gives, refuses}
use Rattle.cmp.specs.Inner.{chosen_by}

module _ {A : Type 0} (place : ℕ) (one other : A) (o : Order) where
  pub chosen_unordered : o ≡ Unordered → refuses 8 place ≡ chosen_by place one other o
  unfolding chosen_by
  chosen_unordered q = sym (ap (chosen_by place one other) q)

  pub chosen_greater : o ≡ Greater → gives other ≡ chosen_by place one other o
  unfolding chosen_by
  chosen_greater q = sym (ap (chosen_by place one other) q)

  pub chosen_other : not (is_greater o || is_unordered o) ≡ true → gives one ≡ chosen_by place one other o
  unfolding chosen_by
  chosen_other h = let n = neither (is_greater o) (is_unordered o) (not-true _ h) in simp (n.0, n.1)
