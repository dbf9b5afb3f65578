-- Two records: their comparison field by field, and the choice between them. RULES.md: Records, Refusals.
use Rattle.std.specs.Prelude.{ℕ, suc, Bool, true, false, ◌||◌, cond, List, [], ◌∷◌, ◌++◌}
use Rattle.float.specs.declared.Order.{Order}
use Rattle.float.specs.declared.Order.TheVariants.{Equal}
use Rattle.float.specs.Order.{or_else, is_equal}
use Rattle.value.specs.Outcome.{Outcome, gives}
use Rattle.value.specs.Rules.{Rule, rule, chain}
use Rattle.cmp.specs.Compare.{kinds_differ, value_order}
use Rattle.cmp.specs.ByOrder.{unordered, other_if_greater}
use Rattle.record.specs.declared.Field.{Field}
use Rattle.record.specs.declared.Record.{Record}
use Rattle.record.specs.Record.{fields_of, bad_count}

-- ---- comparison

-- field by field, for fields of one shape
unfoldable pub lexical_of : List Field → List Field → Order
lexical_of [] ys = Equal
lexical_of (x ∷ xs) [] = Equal
lexical_of (x ∷ xs) (y ∷ ys) = or_else (value_order x.value y.value) (lexical_of xs ys)

-- rule 7: the number of fields, or a kind, differs
unfoldable pub shapes_differ : List Field → List Field → Bool
shapes_differ [] [] = false
shapes_differ [] (y ∷ ys) = true
shapes_differ (x ∷ xs) [] = true
shapes_differ (x ∷ xs) (y ∷ ys) = kinds_differ x.value y.value || shapes_differ xs ys

-- comparison: 11 for either count, then 7
abbrev pub record_rules : Record → Record → List Rule
record_rules a b =
    rule 11 0 (bad_count a.count || bad_count b.count)
    ∷ rule 7 0 (shapes_differ (fields_of a) (fields_of b))
    ∷ []

-- the order of two records
unfoldable pub compare_of : Record → Record → Outcome Order
compare_of a b = chain (record_rules a b) (gives (lexical_of (fields_of a) (fields_of b)))

-- ---- the choice between two

-- the index of the field that decides
unfoldable pub deciding_of : List Field → List Field → ℕ
deciding_of [] ys = 0
deciding_of (x ∷ xs) [] = 0
deciding_of (x ∷ xs) (y ∷ ys) = cond (is_equal (value_order x.value y.value)) (suc (deciding_of xs ys)) 0

-- as for values, with the index of the deciding field as the place of 8
abbrev pub choice_rules : Record → Record → List Rule
choice_rules a b = record_rules a b ++ (unordered (deciding_of (fields_of a) (fields_of b)) (lexical_of (fields_of a) (fields_of b)) ∷ [])

-- the second when the first is Greater, else the first
unfoldable pub min_of : Record → Record → Outcome Record
min_of a b = chain (choice_rules a b) (gives (other_if_greater a b (lexical_of (fields_of a) (fields_of b))))

-- the first when it is Greater, else the second
unfoldable pub max_of : Record → Record → Outcome Record
max_of a b = chain (choice_rules a b) (gives (other_if_greater b a (lexical_of (fields_of a) (fields_of b))))
