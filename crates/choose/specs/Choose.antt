-- Choosing between two values, and clamping one value or one sample. RULES.md: Choosing and clamping, Refusals.
use Rattle.std.specs.Prelude.{not, ◌||◌, cond, List, [], ◌∷◌, Float}
use Rattle.std.specs.Float.{binary32}
use Rattle.std.specs.Float.Ieee.{to_bits, of_bits}
use Rattle.float.specs.declared.Order.{Order}
use Rattle.float.specs.Format.{f32}
use Rattle.float.specs.Order.{compare_in, is_less, is_less_or_equal, is_greater}
use Rattle.value.specs.declared.Value.{Value}
use Rattle.value.specs.Outcome.{Outcome, gives}
use Rattle.value.specs.Rules.{Rule, rule, chain}
use Rattle.cmp.specs.Compare.{kinds_differ, value_order}
use Rattle.cmp.specs.ByOrder.{unordered, other_if_greater}
use Rattle.choose.specs.declared.Range.{Range}

-- the order of two f32 samples is that of their bits
abbrev pub sample_order : Float → Float → Order
sample_order x y = compare_in f32 (to_bits binary32 x) (to_bits binary32 y)

-- ---- the choice

-- min and max: 7, 8
abbrev pub choice_rules : Value → Value → List Rule
choice_rules a b = rule 7 0 (kinds_differ a b) ∷ unordered 0 (value_order a b) ∷ []

-- min gives the second when the first is Greater, else the first
unfoldable pub min_of : Value → Value → Outcome Value
min_of a b = chain (choice_rules a b) (gives (other_if_greater a b (value_order a b)))

-- max gives the first when it is Greater, else the second
unfoldable pub max_of : Value → Value → Outcome Value
max_of a b = chain (choice_rules a b) (gives (other_if_greater b a (value_order a b)))

-- ---- the clamp

-- by the order of the two bounds: 6 for bounds that are not lower ≤ upper
abbrev pub bad_bounds : Order → Rule
bad_bounds bounds = rule 6 0 (not (is_less_or_equal bounds))

-- 7, then 6 for the bounds, then 8: the bounds are in order by then, so that a value that is Unordered with the lower one is a NaN
abbrev pub clamp_rules : Value → Value → Value → List Rule
clamp_rules v lower upper =
    rule 7 0 (kinds_differ v lower || kinds_differ v upper)
    ∷ bad_bounds (value_order lower upper)
    ∷ unordered 0 (value_order v lower)
    ∷ []

-- by the orders of x and lower, and of x and upper: below-lower is tested first, then above-upper, and else x comes back as it is
abbrev pub between : {A : Type 0} → Order → Order → A → A → A → A
between low high x lower upper = cond (is_less low) lower (cond (is_greater high) upper x)

-- the clamp of a value
unfoldable pub clamp_of : Value → Value → Value → Outcome Value
clamp_of v lower upper = chain (clamp_rules v lower upper) (gives (between (value_order v lower) (value_order v upper) v lower upper))

-- ---- ranges

-- 0 to 65535, the greys of 16 bits
abbrev pub default_range : Range
default_range = record { lower = of_bits binary32 0x0000_0000; upper = of_bits binary32 0x477f_ff00 }

-- making a range: 6
abbrev pub bounds_rules : Float → Float → List Rule
bounds_rules lower upper = bad_bounds (sample_order lower upper) ∷ []

-- the two bounds, as they were given
unfoldable pub range_of : Float → Float → Outcome Range
range_of lower upper = chain (bounds_rules lower upper) (gives (record { lower = lower; upper = upper }))

-- clamping a sample: 6, since a range may hold anything, then 8
abbrev pub sample_rules : Range → Float → List Rule
sample_rules range x = bad_bounds (sample_order range.lower range.upper) ∷ unordered 0 (sample_order x range.lower) ∷ []

-- as a value is clamped
abbrev pub sample_in : Range → Float → Float
sample_in range x = between (sample_order x range.lower) (sample_order x range.upper) x range.lower range.upper

-- one sample of f32, within a range
unfoldable pub sample_of : Range → Float → Outcome Float
sample_of range x = chain (sample_rules range x) (gives (sample_in range x))
