-- Slices compare as `bytes_order` has it: the first bytes that differ decide, and at the end the shorter string is lower.
use mathlib.Core.Path.{◌≡◌, refl}
use mathlib.Core.List.{List, [], ◌∷◌}
use mathlib.Core.Logic.{inl, inr}
use Prim.Native.Nat.{ℕ}
use native.Mathlib.Omega.{arith}
use borrow.Author.Tests.{lt-ltb, le-ltb, eq-eqb, ne_eqb}
use Rattle.std.specs.Prelude.{Some}
use Rattle.std.specs.Ordering.{is_lt, nat_cmp, is_some_and}
use Rattle.std.specs.Cmp.Lexicographic.{slice_partial_cmp}
use Rattle.float.specs.Order.{is_less}
use Rattle.float.proofs.Naturals.{three_ways, order_less, order_greater, order_equal}
use Rattle.bytewise.specs.Order.{bytes_order}

pub lower_is : (a b : List ℕ) → is_some_and is_lt (slice_partial_cmp (λ x y. Some (nat_cmp x y)) a b) ≡ is_less (bytes_order a b)
unfolding bytes_order
lower_is [] [] = refl
lower_is [] (y ∷ b) = refl
lower_is (x ∷ a) [] = refl
lower_is (x ∷ a) (y ∷ b) = elim (three_ways x y) [
  | inl l ↦ rw (order_less x y l, lt-ltb x y l) refl
  | inr (inl q) ↦ rw (order_equal x y q, le-ltb x y (omega arith), eq-eqb x y q) (lower_is a b)
  | inr (inr l) ↦ rw (order_greater x y l, le-ltb x y (omega arith), ne_eqb x y (λ q. omega arith)) refl
]
