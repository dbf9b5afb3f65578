-- A rule refuses exactly when it holds, as long as no rule behind it has its number: so 7 of two values, and 11 and then 7 of two records.
use mathlib.Core.Path.{◌≡◌, refl}
use mathlib.Core.Logic.Iff
use mathlib.Core.Logic.{◌↔◌}
use mathlib.Core.Bool.{true, false, ◌||◌}
use mathlib.Core.List.{List, [], ◌∷◌}
use Rattle.float.specs.Order.{order_z}
use Rattle.value.specs.declared.Value.{Value}
use Rattle.value.specs.Meaning.{position_of}
use Rattle.value.specs.Outcome.{Outcome, gives, refuses, refuse_if}
use Rattle.value.specs.Rules.{Rule, rule, chain, numbers_of}
use Rattle.value.proofs.KindNumbers.{number_injective}
use Rattle.cmp.specs.Compare.{kinds_differ, value_order, compare_of, total_of}
use Rattle.cmp.specs.ByOrder.{unordered, other_if_greater}
use Rattle.cmp.proofs.KindTests.{alike, one_kind}
use Rattle.choose.specs.Choose.{min_of, max_of}
use Rattle.record.specs.declared.Field.{Field}
use Rattle.record.specs.declared.Record.{Record}
use Rattle.record.specs.Record.{fields_of, kinds_of, bad_count}
use Rattle.lexical.specs.Lexical.{shapes_differ, lexical_of, deciding_of, record_rules}
use Rattle.lexical.specs.Lexical as lexical
use Rattle.lexical.proofs.Given.{shape_kinds, kinds_shape}
use Rattle.laws_cmp.specs.Laws.{OneKind}
use Rattle.laws_cmp.proofs.Tests.{refused_exactly}
use Rattle.demands.specs.Choosing.{ElevenThenSeven, SevenForKinds, RuleSeven}
use Rattle.demands.proofs.RuleNumbers.{absent, first_exactly, true_otherwise, either}

-- ---- 7 of two values

one_kind_told : (a b : Value) → (kinds_differ a b ≡ false) ↔ OneKind a b
one_kind_told a b = ((λ h. number_injective _ _ (one_kind a b h)), λ k. alike {a = a} {a' = a} {b = b} {b' = b} refl refl k)

pub kinds_differ_lem : (a b : Value) → (kinds_differ a b ≡ true) ↔ (OneKind a b → ⊥)
kinds_differ_lem a b = true_otherwise (kinds_differ a b) (one_kind_told a b)

-- rules behind it have other numbers
seven : {A : Type 0} (a b : Value) (rest : List Rule) (v : A) → absent 7 (numbers_of rest) ≡ true
    → (refuse_if (kinds_differ a b) 7 0 (chain rest (gives v)) ≡ refuses 7 0) ↔ (OneKind a b → ⊥)
seven a b rest v others = Iff.trans (first_exactly 7 (kinds_differ a b) rest v others) (kinds_differ_lem a b)

compare_seven : SevenForKinds compare_of
unfolding compare_of numbers_of
compare_seven a b = seven a b [] (value_order a b) refl

total_seven : SevenForKinds total_of
unfolding total_of numbers_of
total_seven a b = seven a b [] (order_z (position_of a) (position_of b)) refl

min_seven : SevenForKinds min_of
unfolding min_of numbers_of
min_seven a b = seven a b (unordered 0 (value_order a b) ∷ []) (other_if_greater a b (value_order a b)) refl

max_seven : SevenForKinds max_of
unfolding max_of numbers_of
max_seven a b = seven a b (unordered 0 (value_order a b) ∷ []) (other_if_greater b a (value_order a b)) refl

pub rule_seven : RuleSeven
rule_seven = record {
  compare = compare_seven;
  tests = λ test a b. Iff.trans (refused_exactly test (compare_of a b) 7 0) (compare_seven a b);
  total_order = total_seven;
  min = min_seven;
  max = max_seven;
}

-- ---- 11 and then 7 of two records

-- a shape is the list of kinds
pub one_shape : (xs ys : List Field) → (shapes_differ xs ys ≡ false) ↔ (kinds_of xs ≡ kinds_of ys)
one_shape xs ys = (shape_kinds xs ys, kinds_shape xs ys)

-- behind the two rules stand others
module _ {A : Type 0} (call : Record → Record → Outcome A) (rest : Record → Record → List Rule) (result : Record → Record → A)
    (is : (a b : Record) → call a b ≡ chain (record_rules a b) (chain (rest a b) (gives (result a b))))
    (others : (a b : Record) → (absent 11 (numbers_of (rest a b)) ≡ true) × (absent 7 (numbers_of (rest a b)) ≡ true)) where
  eleven : (a b : Record) → (call a b ≡ refuses 11 0) ↔ ((bad_count a.count || bad_count b.count) ≡ true)
  unfolding numbers_of
  eleven a b =
      let behind = rule 7 0 (shapes_differ (fields_of a) (fields_of b)) ∷ rest a b in
      rw (is a b) (first_exactly 11 (bad_count a.count || bad_count b.count) behind (result a b) (others a b).0)

  pub eleven_then_seven : ElevenThenSeven call
  eleven_then_seven = record {
    bad_count_lem = λ a b. Iff.trans (eleven a b) (either _ _);
    shapes_differ_lem = λ a b p q. rw (is a b, p, q)
        (Iff.trans (first_exactly 7 (shapes_differ (fields_of a) (fields_of b)) (rest a b) (result a b) (others a b).1)
        (true_otherwise _ (one_shape (fields_of a) (fields_of b))));
  }

pub compare_refuses : ElevenThenSeven lexical.compare_of
unfolding lexical.compare_of numbers_of
compare_refuses = eleven_then_seven lexical.compare_of (λ a b. []) (λ a b. lexical_of (fields_of a) (fields_of b)) (λ a b. refl) (λ a b. (refl, refl))

chosen_refuses : (call : Record → Record → Outcome Record) (chosen : Record → Record → Record)
    → ((a b : Record) → call a b ≡ chain (lexical.choice_rules a b) (gives (chosen a b))) → ElevenThenSeven call
unfolding numbers_of
chosen_refuses call chosen is = eleven_then_seven call
    (λ a b. unordered (deciding_of (fields_of a) (fields_of b)) (lexical_of (fields_of a) (fields_of b)) ∷ []) chosen is (λ a b. (refl, refl))

pub min_refuses : ElevenThenSeven lexical.min_of
unfolding lexical.min_of
min_refuses = chosen_refuses lexical.min_of (λ a b. other_if_greater a b (lexical_of (fields_of a) (fields_of b))) (λ a b. refl)

pub max_refuses : ElevenThenSeven lexical.max_of
unfolding lexical.max_of
max_refuses = chosen_refuses lexical.max_of (λ a b. other_if_greater b a (lexical_of (fields_of a) (fields_of b))) (λ a b. refl)
