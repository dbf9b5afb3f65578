-- Two numbers compare Equal exactly when they are one number.
use mathlib.Core.Path.{◌≡◌, refl, sym, ap}
use mathlib.Core.Bool.{true}
use mathlib.Core.Logic.{inl, inr}
use Prim.Native.Nat.{ℕ}
use lib.IntN.{ℤ, pos, negsuc}
use Rattle.float.specs.Number.{Number, none, minusInfinity, plusInfinity, number}
use Rattle.float.specs.Order.{order_n, order_z, order_of, or_else, is_equal}
use Rattle.float.specs.declared.Order.{Order}
use Rattle.float.specs.declared.Order.TheVariants.{Less, Equal, Greater, Unordered}
use Rattle.float.proofs.Naturals.{three_ways, order_less, order_greater, order_equal}
use Rattle.float.proofs.Tests.{clash}

pub is_equal_lem : (o : Order) → is_equal o ≡ true → o ≡ Equal
is_equal_lem Less h = cc
is_equal_lem Equal h = refl
is_equal_lem Greater h = cc
is_equal_lem Unordered h = cc

-- the first order that is not Equal is none of both
pub equal_else : (o p : Order) → or_else o p ≡ Equal → (o ≡ Equal) × (p ≡ Equal)
equal_else Less p h = (h, cc)
equal_else Equal p h = (refl, h)
equal_else Greater p h = (h, cc)
equal_else Unordered p h = (h, cc)

equal_naturals : (m n : ℕ) → order_n m n ≡ Equal → m ≡ n
equal_naturals m n h = elim (three_ways m n) [
  | inl l ↦ clash (cc (order_less m n l))
  | inr (inl q) ↦ q
  | inr (inr g) ↦ clash (cc (order_greater m n g))
]

pub equal_integers : (y z : ℤ) → order_z y z ≡ Equal → y ≡ z
equal_integers (pos m) (pos n) h = ap pos (equal_naturals m n h)
equal_integers (pos m) (negsuc n) h = cc
equal_integers (negsuc m) (pos n) h = cc
equal_integers (negsuc m) (negsuc n) h = ap negsuc (sym (equal_naturals n m h))

pub integer_equal : (z : ℤ) → order_z z z ≡ Equal
integer_equal (pos n) = order_equal n n refl
integer_equal (negsuc n) = order_equal n n refl

pub equal_same : (x y : Number) → order_of x y ≡ Equal → x ≡ y
equal_same none y h = cc
equal_same minusInfinity none h = cc
equal_same minusInfinity minusInfinity h = refl
equal_same minusInfinity plusInfinity h = cc
equal_same minusInfinity (number z) h = cc
equal_same plusInfinity none h = cc
equal_same plusInfinity minusInfinity h = cc
equal_same plusInfinity plusInfinity h = refl
equal_same plusInfinity (number z) h = cc
equal_same (number y) none h = cc
equal_same (number y) minusInfinity h = cc
equal_same (number y) plusInfinity h = cc
equal_same (number y) (number z) h = ap number (equal_integers y z h)

pub same_equal : (x : Number) → (x ≡ none → ⊥) → order_of x x ≡ Equal
same_equal none h = absurd (h refl)
same_equal minusInfinity h = refl
same_equal plusInfinity h = refl
same_equal (number z) h = integer_equal z

pub equal_not_none : (x y : Number) → order_of x y ≡ Equal → x ≡ none → ⊥
equal_not_none x y h q = clash cc
