-- What was compared, told from the outcome: the kinds are one, and the order is that of the numbers or of the positions.
use mathlib.Core.Path.{◌≡◌, refl, ap}
use mathlib.Core.Bool.{Bool, true, false}
use Rattle.float.specs.Order.{order_of, order_z}
use Rattle.float.specs.declared.Order.{Order}
use Rattle.float.proofs.Tests.{clash}
use Rattle.value.specs.declared.Value.{Value}
use Rattle.value.specs.Kinds.{kind_of}
use Rattle.value.specs.Meaning.{number_of, position_of}
use Rattle.value.specs.Outcome.{gives, refuse_if}
use Rattle.value.proofs.KindNumbers.{number_injective}
use Rattle.cmp.specs.Compare.{kinds_differ, compare_of, total_of}
use Rattle.cmp.proofs.KindTests.{alike, one_kind}

given_order : (t : Bool) {o p : Order} → refuse_if t 7 0 (gives o) ≡ gives p → (t ≡ false) × (o ≡ p)
given_order true h = clash cc
given_order false h = (refl, cc)

-- the kinds and the order, of values that were compared
pub compared_order : (a b : Value) (o : Order) → compare_of a b ≡ gives o → (kind_of a ≡ kind_of b) × (order_of (number_of a) (number_of b) ≡ o)
unfolding compare_of
compared_order a b o h =
    let g = given_order (kinds_differ a b) h in
    (number_injective (kind_of a) (kind_of b) (one_kind a b g.0), g.1)

pub order_compared : (a b : Value) (o : Order) → kind_of a ≡ kind_of b → order_of (number_of a) (number_of b) ≡ o → compare_of a b ≡ gives o
unfolding compare_of
order_compared a b o k h = simp (alike {a = a} {a' = a} {b = b} {b' = b} refl refl k) (ap gives h)

-- the same of the total order
pub total_order : (a b : Value) (o : Order) → total_of a b ≡ gives o → (kind_of a ≡ kind_of b) × (order_z (position_of a) (position_of b) ≡ o)
unfolding total_of
total_order a b o h =
    let g = given_order (kinds_differ a b) h in
    (number_injective (kind_of a) (kind_of b) (one_kind a b g.0), g.1)

pub order_total : (a b : Value) (o : Order) → kind_of a ≡ kind_of b → order_z (position_of a) (position_of b) ≡ o → total_of a b ≡ gives o
unfolding total_of
order_total a b o k h = simp (alike {a = a} {a' = a} {b = b} {b' = b} refl refl k) (ap gives h)
