-- Comparison of two values, its six tests, and the total order. RULES.md: Comparison, Total order, Refusals.
use Rattle.std.specs.Prelude.{Bool, not, List, [], ◌∷◌, eqb}
use Rattle.float.specs.declared.Order.{Order}
use Rattle.float.specs.Order.{order_of, order_z, is_equal, is_not_equal, is_less, is_less_or_equal, is_greater, is_greater_or_equal}
use Rattle.value.specs.declared.Value.{Value}
use Rattle.value.specs.Kinds.{kind_of, kind_number}
use Rattle.value.specs.Meaning.{number_of, position_of}
use Rattle.value.specs.Outcome.{Outcome, gives, mapped}
use Rattle.value.specs.Rules.{Rule, rule, chain}

-- rule 7 of two values
abbrev pub kinds_differ : Value → Value → Bool
kinds_differ a b = not (eqb (kind_number (kind_of a)) (kind_number (kind_of b)))

-- comparison, its six tests and the total order: 7
abbrev pub value_rules : Value → Value → List Rule
value_rules a b = rule 7 0 (kinds_differ a b) ∷ []

-- the order of two values is that of their numbers
abbrev pub value_order : Value → Value → Order
value_order a b = order_of (number_of a) (number_of b)

-- two values of one kind compare as their numbers do
unfoldable pub compare_of : Value → Value → Outcome Order
compare_of a b = chain (value_rules a b) (gives (value_order a b))

-- the six tests of that comparison
abbrev pub eq_of : Value → Value → Outcome Bool
eq_of a b = mapped is_equal (compare_of a b)

abbrev pub ne_of : Value → Value → Outcome Bool
ne_of a b = mapped is_not_equal (compare_of a b)

abbrev pub lt_of : Value → Value → Outcome Bool
lt_of a b = mapped is_less (compare_of a b)

abbrev pub le_of : Value → Value → Outcome Bool
le_of a b = mapped is_less_or_equal (compare_of a b)

abbrev pub gt_of : Value → Value → Outcome Bool
gt_of a b = mapped is_greater (compare_of a b)

abbrev pub ge_of : Value → Value → Outcome Bool
ge_of a b = mapped is_greater_or_equal (compare_of a b)

-- in the total order two values of one kind lie as their positions do
unfoldable pub total_of : Value → Value → Outcome Order
total_of a b = chain (value_rules a b) (gives (order_z (position_of a) (position_of b)))
