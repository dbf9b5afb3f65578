-- The laws of a comparison are carried along a function into what it compares: those of a partial order and those of a linear one.
use mathlib.Core.Bool.{Bool}
use Rattle.float.specs.declared.Order.{Order}
use Rattle.value.specs.Outcome.{Outcome}
use Rattle.laws_cmp.specs.Laws.{PartialOrder, LinearOrder}

-- lemma_isomorphic_obeys_cmp
module _ {A B : Type 0} (compare : A → A → Outcome Order) (eq : A → A → Outcome Bool) (f : B → A) where
  pub carried : PartialOrder compare eq → PartialOrder (λ x y. compare (f x) (f y)) (λ x y. eq (f x) (f y))
  carried laws = record {
    equal_eq = λ x y. laws.equal_eq (f x) (f y);
    eq_equal = λ x y. laws.eq_equal (f x) (f y);
    less_greater = λ x y. laws.less_greater (f x) (f y);
    greater_less = λ x y. laws.greater_less (f x) (f y);
    less_trans = λ x y z. laws.less_trans (f x) (f y) (f z);
    greater_trans = λ x y z. laws.greater_trans (f x) (f y) (f z);
    eq_symmetric = λ x y. laws.eq_symmetric (f x) (f y);
    eq_transitive = λ x y z. laws.eq_transitive (f x) (f y) (f z);
  }

module _ {A B : Type 0} (compare : A → A → Outcome Order) (together same : A → A → Type 0) (f : B → A) where
  pub carried_linear : LinearOrder compare together same
      → LinearOrder (λ x y. compare (f x) (f y)) (λ x y. together (f x) (f y)) (λ x y. same (f x) (f y))
  carried_linear laws = record {
    ordered = λ x y. laws.ordered (f x) (f y);
    reflexive = λ x. laws.reflexive (f x);
    equal_same = λ x y. laws.equal_same (f x) (f y);
    less_greater = λ x y. laws.less_greater (f x) (f y);
    greater_less = λ x y. laws.greater_less (f x) (f y);
    less_trans = λ x y z. laws.less_trans (f x) (f y) (f z);
  }
