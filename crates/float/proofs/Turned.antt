-- The comparison the other way round, and when it is Unordered.
use mathlib.Core.Path.{◌≡◌, refl, sym, ◌∙◌, ap}
use mathlib.Core.Bool.{Bool, true, false, ◌||◌, cond, true≢false}
use Prim.Native.Nat.{ℕ}
use native.Mathlib.Omega.{arith}
use borrow.Author.Tests.{le-ltb, ltb-true}
use lib.Dec.{T}
use lib.IntN.{ℤ, pos, negsuc}
use lib.Signed.{lt_z}
use lib.Ieee.{Float, Format, to_bits, is_nan, fits}
use Rattle.float.specs.Language.{own_of}
use Rattle.float.specs.Number.{signed_of, Exact, not_number, infinite, finite, is_none, Number, none, minusInfinity, plusInfinity, number, number_of}
use Rattle.float.specs.Order.{order_z, order_of, pattern_of, compare_of, pattern_in, compare_in, is_unordered, is_less, is_greater}
use Rattle.float.specs.declared.Order.{Order}
use Rattle.float.specs.declared.Order.TheVariants.{Less, Equal, Greater, Unordered}
use Rattle.float.proofs.Comparing.{unordered_right}
use Rattle.float.proofs.Language.{nan_float}

abbrev pub turned : Order → Order
turned Less = Greater
turned Equal = Equal
turned Greater = Less
turned Unordered = Unordered

asymmetric : (m n : ℤ) → lt_z m n ≡ true → lt_z n m ≡ false
asymmetric (pos a) (pos b) h = le-ltb b a (omega (arith, ltb-true a b h))
asymmetric (pos a) (negsuc b) h = sym h
asymmetric (negsuc a) (pos b) h = refl
asymmetric (negsuc a) (negsuc b) h = le-ltb a b (omega (arith, ltb-true b a h))

pub turn_integers : (m n : ℤ) → order_z n m ≡ turned (order_z m n)
turn_integers m n = go (lt_z m n) (lt_z n m) refl refl
  where
    go : (s t : Bool) → lt_z m n ≡ s → lt_z n m ≡ t → cond t Less (cond s Greater Equal) ≡ turned (cond s Less (cond t Greater Equal))
    go true true e d = absurd (true≢false (sym d ∙ asymmetric m n e))
    go true false e d = refl
    go false true e d = refl
    go false false e d = refl

pub turn : (x y : Number) → order_of y x ≡ turned (order_of x y)
turn none y = unordered_right y
turn minusInfinity none = refl
turn minusInfinity minusInfinity = refl
turn minusInfinity plusInfinity = refl
turn minusInfinity (number n) = refl
turn plusInfinity none = refl
turn plusInfinity minusInfinity = refl
turn plusInfinity plusInfinity = refl
turn plusInfinity (number n) = refl
turn (number m) none = refl
turn (number m) minusInfinity = refl
turn (number m) plusInfinity = refl
turn (number m) (number n) = turn_integers m n

less_turned : (o : Order) → is_less (turned o) ≡ is_greater o
less_turned Less = refl
less_turned Equal = refl
less_turned Greater = refl
less_turned Unordered = refl

pub greater_turned : (p e a b : ℕ) → is_less (compare_of p e b a) ≡ is_greater (compare_of p e a b)
unfolding compare_of
greater_turned p e a b =
    ap is_less (turn (number_of (pattern_of p e a)) (number_of (pattern_of p e b)))
    ∙ less_turned (order_of (number_of (pattern_of p e a)) (number_of (pattern_of p e b)))

-- ---- Unordered is no number on either side

integers_ordered : (y z : ℤ) → is_unordered (order_z y z) ≡ false
integers_ordered y z = go (lt_z y z) (lt_z z y)
  where
    go : (s t : Bool) → is_unordered (cond s Less (cond t Greater Equal)) ≡ false
    go true t = refl
    go false true = refl
    go false false = refl

unordered_none : (x y : Exact) → is_unordered (order_of (number_of x) (number_of y)) ≡ (is_none x || is_none y)
unordered_none not_number y = refl
unordered_none (infinite true) not_number = refl
unordered_none (infinite false) not_number = refl
unordered_none (infinite true) (infinite true) = refl
unordered_none (infinite true) (infinite false) = refl
unordered_none (infinite false) (infinite true) = refl
unordered_none (infinite false) (infinite false) = refl
unordered_none (infinite true) (finite t n) = refl
unordered_none (infinite false) (finite t n) = refl
unordered_none (finite s m) not_number = refl
unordered_none (finite s m) (infinite true) = refl
unordered_none (finite s m) (infinite false) = refl
unordered_none (finite s m) (finite t n) = integers_ordered (signed_of s m) (signed_of t n)

pub unordered_nan : (f : Format) (x y : Float) → T (fits f x) → T (fits f y)
    → is_unordered (compare_in (own_of f) (to_bits f x) (to_bits f y)) ≡ (is_nan x || is_nan y)
unfolding compare_of
unordered_nan f x y h k =
    unordered_none (pattern_in (own_of f) (to_bits f x)) (pattern_in (own_of f) (to_bits f y))
    ∙ cc (nan_float f x h, nan_float f y k)
