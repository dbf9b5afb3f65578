-- Comparisons turned round, and one behind the other.
use mathlib.Core.Path.{◌≡◌, sym, ◌∙◌, ap}
use Rattle.float.specs.declared.Order.{Order}
use Rattle.float.specs.declared.Order.TheVariants.{Less, Equal}
use Rattle.float.specs.Order.{order_of}
use Rattle.float.proofs.Turned.{turned, turn}
use Rattle.float.proofs.Transitive.{less_trans}
use Rattle.float.proofs.SameNumber.{equal_same}
use Rattle.value.specs.declared.Value.{Value}
use Rattle.value.specs.Meaning.{number_of}
use Rattle.value.specs.Outcome.{gives}
use Rattle.cmp.specs.Compare.{compare_of}
use Rattle.cmp.proofs.Given.{compared_order, order_compared}

pub turned_order : (x y : Value) (o : Order) → compare_of x y ≡ gives o → compare_of y x ≡ gives (turned o)
turned_order x y o h =
    let c = compared_order x y o h in
    order_compared y x (turned o) (sym c.0) (turn (number_of x) (number_of y) ∙ ap turned c.1)

pub less_transitive : (x y z : Value) → compare_of x y ≡ gives Less → compare_of y z ≡ gives Less → compare_of x z ≡ gives Less
less_transitive x y z h k =
    let c = compared_order x y Less h in
    let d = compared_order y z Less k in
    order_compared x z Less (c.0 ∙ d.0) (less_trans (number_of x) (number_of y) (number_of z) c.1 d.1)

pub equal_transitive : (x y z : Value) → compare_of x y ≡ gives Equal → compare_of y z ≡ gives Equal → compare_of x z ≡ gives Equal
equal_transitive x y z h k =
    let c = compared_order x y Equal h in
    let d = compared_order y z Equal k in
    order_compared x z Equal (c.0 ∙ d.0) (ap (λ n. order_of n (number_of z)) (equal_same (number_of x) (number_of y) c.1) ∙ d.1)
