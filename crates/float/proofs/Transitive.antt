-- Less and Greater are transitive, of integers and of numbers, and no integer is less than itself; the order of integers has three answers.
use mathlib.Core.Path.{◌≡◌, refl, sym}
use mathlib.Core.Logic.{◌⊎◌, inl, inr}
use mathlib.Core.Bool.{Bool, true, false, cond, true≢false}
use native.Mathlib.Omega.{arith}
use borrow.Author.Tests.{lt-ltb, le-ltb, ltb-true}
use lib.IntN.{ℤ, pos, negsuc}
use lib.Signed.{lt_z}
use Rattle.float.specs.Number.{Number, none, minusInfinity, plusInfinity, number}
use Rattle.float.specs.Order.{order_z, order_of}
use Rattle.float.specs.declared.Order.TheVariants.{Less, Equal, Greater}

pub lt_irreflexive : (n : ℤ) → lt_z n n ≡ false
lt_irreflexive (pos a) = le-ltb a a (omega arith)
lt_irreflexive (negsuc a) = le-ltb a a (omega arith)

pub lt_trans : (k m n : ℤ) → lt_z k m ≡ true → lt_z m n ≡ true → lt_z k n ≡ true
lt_trans (pos a) (pos b) (pos c) h k = lt-ltb a c (omega (arith, ltb-true a b h, ltb-true b c k))
lt_trans (pos a) (pos b) (negsuc c) h k = k
lt_trans (pos a) (negsuc b) n h k = absurd (true≢false (sym h))
lt_trans (negsuc a) m (pos c) h k = refl
lt_trans (negsuc a) (pos b) (negsuc c) h k = absurd (true≢false (sym k))
lt_trans (negsuc a) (negsuc b) (negsuc c) h k = lt-ltb c a (omega (arith, ltb-true b a h, ltb-true c b k))

pub less_tested : (y z : ℤ) → order_z y z ≡ Less → lt_z y z ≡ true
less_tested y z = go (lt_z y z) (lt_z z y)
  where
    go : (s t : Bool) → cond s Less (cond t Greater Equal) ≡ Less → s ≡ true
    go true t e = refl
    go false true e = cc
    go false false e = cc

pub tested_less : (y z : ℤ) → lt_z y z ≡ true → order_z y z ≡ Less
tested_less y z h = simp h

pub integers_less_trans : (x y z : ℤ) → order_z x y ≡ Less → order_z y z ≡ Less → order_z x z ≡ Less
integers_less_trans x y z h k = tested_less x z (lt_trans x y z (less_tested x y h) (less_tested y z k))

-- one of three
pub integers_answer : (y z : ℤ) → (order_z y z ≡ Less) ⊎ ((order_z y z ≡ Equal) ⊎ (order_z y z ≡ Greater))
integers_answer y z = go (lt_z y z) (lt_z z y)
  where
    go : (s t : Bool) → (cond s Less (cond t Greater Equal) ≡ Less) ⊎
        ((cond s Less (cond t Greater Equal) ≡ Equal) ⊎ (cond s Less (cond t Greater Equal) ≡ Greater))
    go true t = inl refl
    go false true = inr (inr refl)
    go false false = inr (inl refl)

pub less_trans : (x y z : Number) → order_of x y ≡ Less → order_of y z ≡ Less → order_of x z ≡ Less
less_trans none y z h k = h
less_trans minusInfinity none z h k = cc
less_trans minusInfinity minusInfinity z h k = k
less_trans minusInfinity plusInfinity none h k = k
less_trans minusInfinity plusInfinity minusInfinity h k = cc
less_trans minusInfinity plusInfinity plusInfinity h k = h
less_trans minusInfinity plusInfinity (number n) h k = refl
less_trans minusInfinity (number m) none h k = k
less_trans minusInfinity (number m) minusInfinity h k = cc
less_trans minusInfinity (number m) plusInfinity h k = refl
less_trans minusInfinity (number m) (number n) h k = refl
less_trans plusInfinity none z h k = cc
less_trans plusInfinity minusInfinity z h k = cc
less_trans plusInfinity plusInfinity z h k = k
less_trans plusInfinity (number m) z h k = cc
less_trans (number l) none z h k = cc
less_trans (number l) minusInfinity z h k = cc
less_trans (number l) plusInfinity none h k = k
less_trans (number l) plusInfinity minusInfinity h k = cc
less_trans (number l) plusInfinity plusInfinity h k = h
less_trans (number l) plusInfinity (number n) h k = cc
less_trans (number l) (number m) none h k = k
less_trans (number l) (number m) minusInfinity h k = cc
less_trans (number l) (number m) plusInfinity h k = refl
less_trans (number l) (number m) (number n) h k = integers_less_trans l m n h k
