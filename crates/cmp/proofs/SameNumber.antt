-- Two values of one kind with the same number compare Equal, and conversely.
use mathlib.Core.Path.{◌≡◌, sym, ◌∙◌, ap}
use Rattle.float.specs.Number.{none}
use Rattle.float.specs.Order.{order_of}
use Rattle.float.specs.declared.Order.TheVariants.{Equal}
use Rattle.float.proofs.SameNumber.{equal_same, same_equal, equal_not_none}
use Rattle.value.specs.declared.Value.{Value}
use Rattle.value.specs.Kinds.{kind_of}
use Rattle.value.specs.Meaning.{number_of}
use Rattle.value.specs.Outcome.{gives}
use Rattle.cmp.specs.Compare.{compare_of}
use Rattle.cmp.proofs.Given.{compared_order, order_compared}

pub equal_number : (a b : Value) → compare_of a b ≡ gives Equal → (kind_of a ≡ kind_of b) × (number_of a ≡ number_of b) × (number_of a ≡ none → ⊥)
equal_number a b h =
    let g = compared_order a b Equal h in
    (g.0, equal_same (number_of a) (number_of b) g.1, equal_not_none (number_of a) (number_of b) g.1)

pub number_equal : (a b : Value) → kind_of a ≡ kind_of b → number_of a ≡ number_of b → (number_of a ≡ none → ⊥) → compare_of a b ≡ gives Equal
number_equal a b k q n = order_compared a b Equal k (ap (order_of (number_of a)) (sym q) ∙ same_equal (number_of a) n)
