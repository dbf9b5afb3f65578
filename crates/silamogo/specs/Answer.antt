-- Outcomes and ranges as the numbers that pass the boundary: after a refusal its number and its place, and 0 for what a call would give.
use Rattle.std.specs.Prelude.{ℕ, ◌≤◌, Float, ℤ, pos}
use Rattle.float.specs.declared.Order.{Order}
use Rattle.float.specs.declared.Order.TheVariants.{Less, Equal, Greater, Unordered}
use Rattle.float.specs.declared.Class.{Class}
use Rattle.float.specs.declared.Class.TheVariants.{Zero, Subnormal, Normal, Infinite, Nan}
use Rattle.value.specs.declared.Kind.{Kind}
use Rattle.value.specs.declared.Value.{Value}
use Rattle.value.specs.Kinds.{kind_of, kind_number}
use Rattle.value.specs.Meaning.{bits_of}
use Rattle.value.specs.Outcome.{Outcome, gives, refuses, Success}
use Rattle.choose.specs.declared.Range.{Range}
use Rattle.silamogo.specs.declared.Answer.{Answer}
use Rattle.silamogo.specs.declared.Ordered.{Ordered}
use Rattle.silamogo.specs.declared.Classed.{Classed}
use Rattle.silamogo.specs.declared.Positioned.{Positioned}
use Rattle.silamogo.specs.declared.Sampled.{Sampled}
use Rattle.silamogo.specs.declared.Measured.{Measured}

-- a refusal has a number from 1 on: 0 tells that there is none
abbrev pub Numbered : {A : Type 0} → Outcome A → Type 0
Numbered (gives a) = Unit {0}
Numbered (refuses number place) = 1 ≤ number

-- the number and the place of a refusal, 0 and 0 for success
abbrev pub answered_of : Outcome Success → Answer
answered_of (gives d) = record { number = 0; place = 0 }
answered_of (refuses number place) = record { number = number; place = place }

-- Less, Equal, Greater, Unordered are 0 to 3
abbrev pub order_number : Order → ℕ
order_number Less = 0
order_number Equal = 1
order_number Greater = 2
order_number Unordered = 3

-- an order
abbrev pub ordered_of : Outcome Order → Ordered
ordered_of (gives o) = record { number = 0; place = 0; order = order_number o }
ordered_of (refuses number place) = record { number = number; place = place; order = 0 }

-- zero, subnormal, normal, infinite, NaN are 0 to 4
abbrev pub class_number : Class → ℕ
class_number Zero = 0
class_number Subnormal = 1
class_number Normal = 2
class_number Infinite = 3
class_number Nan = 4

-- a class
abbrev pub classed_of : Outcome Class → Classed
classed_of (gives c) = record { number = 0; place = 0; class = class_number c }
classed_of (refuses number place) = record { number = number; place = place; class = 0 }

-- a position
abbrev pub positioned_of : Outcome ℤ → Positioned
positioned_of (gives z) = record { number = 0; place = 0; position = z }
positioned_of (refuses number place) = record { number = number; place = place; position = pos 0 }

-- what is told of a value: its kind and its bits
abbrev pub kind_and_bits : Value → Kind × ℕ
kind_and_bits v = (kind_of v, bits_of v)

-- a sample: its kind's number and its bits
abbrev pub sampled_of : Outcome Value → Sampled
sampled_of (gives v) = record { number = 0; place = 0; kind = kind_number (kind_of v); bits = bits_of v }
sampled_of (refuses number place) = record { number = number; place = place; kind = 0; bits = 0 }

-- a length
abbrev pub measured_of : Outcome ℕ → Measured
measured_of (gives n) = record { number = 0; place = 0; length = n }
measured_of (refuses number place) = record { number = number; place = place; length = 0 }

-- two floats, as a range
abbrev pub bounds_of : Float → Float → Range
bounds_of lower upper = record { lower = lower; upper = upper }
