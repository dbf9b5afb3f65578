-- The comparison of numbers, and of two patterns of a float format. RULES.md: Comparison.
use Rattle.std.specs.Prelude.{ℕ, Bool, true, false, cond, ltb, ℤ}
use Rattle.std.specs.Int.Signed.{lt_z}
use Rattle.float.specs.declared.Order.{Order}
use Rattle.float.specs.declared.Order.TheVariants.{Less, Equal, Greater, Unordered}
use Rattle.float.specs.Format.{abs_of, negative_of, infinite_of, nan_of, mag_of, Format, fraction_of, exponent_of}
use Rattle.float.specs.Number.{Exact, not_number, infinite, finite, Number, none, minusInfinity, plusInfinity, number, number_of}

-- two natural numbers, and two integers
abbrev pub order_n : ℕ → ℕ → Order
order_n m n = cond (ltb m n) Less (cond (ltb n m) Greater Equal)

abbrev pub order_z : ℤ → ℤ → Order
order_z m n = cond (lt_z m n) Less (cond (lt_z n m) Greater Equal)

-- the first order that is not Equal decides
abbrev pub or_else : Order → Order → Order
or_else Less o = Less
or_else Equal o = o
or_else Greater o = Greater
or_else Unordered o = Unordered

-- no number on either side is Unordered; infinities lie outside all numbers and equal themselves; else the numbers decide
abbrev pub order_of : Number → Number → Order
order_of none y = Unordered
order_of minusInfinity none = Unordered
order_of minusInfinity minusInfinity = Equal
order_of minusInfinity plusInfinity = Less
order_of minusInfinity (number n) = Less
order_of plusInfinity none = Unordered
order_of plusInfinity minusInfinity = Greater
order_of plusInfinity plusInfinity = Equal
order_of plusInfinity (number n) = Greater
order_of (number m) none = Unordered
order_of (number m) minusInfinity = Greater
order_of (number m) plusInfinity = Less
order_of (number m) (number n) = order_z m n

-- what a pattern stands for, in units of its format's smallest step: 2^-24 for f16, 2^-149 for f32, 2^-1074 for f64
unfoldable pub pattern_of : ℕ → ℕ → ℕ → Exact
pattern_of p e b =
    cond (nan_of p e b) not_number
    (cond (infinite_of p e b) (infinite (negative_of p e b))
    (finite (negative_of p e b) (mag_of p (abs_of p e b))))

-- two patterns compare as the numbers that they stand for
unfoldable pub compare_of : ℕ → ℕ → ℕ → ℕ → Order
compare_of p e a b = order_of (number_of (pattern_of p e a)) (number_of (pattern_of p e b))

-- the same of a format
abbrev pub pattern_in : Format → ℕ → Exact
pattern_in f b = pattern_of (fraction_of f) (exponent_of f) b

abbrev pub compare_in : Format → ℕ → ℕ → Order
compare_in f a b = compare_of (fraction_of f) (exponent_of f) a b

-- a test of an order, by its answers on Less, Equal, Greater and Unordered
abbrev pub answer : Bool → Bool → Bool → Bool → Order → Bool
answer less equal greater unordered Less = less
answer less equal greater unordered Equal = equal
answer less equal greater unordered Greater = greater
answer less equal greater unordered Unordered = unordered

-- the six tests; on Unordered every one is no, except ne
abbrev pub is_equal : Order → Bool
is_equal o = answer false true false false o

abbrev pub is_not_equal : Order → Bool
is_not_equal o = answer true false true true o

abbrev pub is_less : Order → Bool
is_less o = answer true false false false o

abbrev pub is_less_or_equal : Order → Bool
is_less_or_equal o = answer true true false false o

abbrev pub is_greater : Order → Bool
is_greater o = answer false false true false o

abbrev pub is_greater_or_equal : Order → Bool
is_greater_or_equal o = answer false true true false o

-- and whether there is no order
abbrev pub is_unordered : Order → Bool
is_unordered o = answer false false false true o
