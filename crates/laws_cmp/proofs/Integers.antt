-- On the eight integer kinds the comparison is a linear order: it is the total order there, and Equal only of a value with itself.
use mathlib.Core.Path.{◌≡◌, sym, ◌∙◌}
use Rattle.float.specs.declared.Order.TheVariants.{Equal}
use Rattle.float.proofs.SameNumber.{equal_integers}
use Rattle.value.specs.declared.Value.{Value}
use Rattle.value.specs.Meaning.{position_of}
use Rattle.value.specs.Outcome.{gives}
use Rattle.value.proofs.Forms.{whole_same}
use Rattle.cmp.specs.Compare.{compare_of, total_of}
use Rattle.cmp.proofs.Answers.{integers_agree}
use Rattle.cmp.proofs.Given.{total_order}
use Rattle.laws_cmp.specs.Laws.{LinearOrder, Ordered, OneIntegerKind}
use Rattle.laws_cmp.proofs.Comparison.{values_partial_order}
use Rattle.laws_cmp.proofs.TotalOrder.{values_total_order, other_whole}

-- a comparison of two values of one integer kind is the total order's
agrees : (x y : Value) → OneIntegerKind x y → compare_of x y ≡ total_of x y
agrees x y k = integers_agree x y k.0

equal_value : (x y : Value) → OneIntegerKind x y → compare_of x y ≡ gives Equal → x ≡ y
equal_value x y k h =
    let c = total_order x y Equal (sym (agrees x y k) ∙ h) in
    whole_same x y k.0 (other_whole x y k.1 k.0) k.1 (equal_integers (position_of x) (position_of y) c.1)

ordered_integers : (x y : Value) → OneIntegerKind x y → Ordered (compare_of x y)
ordered_integers x y k = rw (agrees x y k) (values_total_order.ordered x y k.1)

pub integers_linear_order : LinearOrder compare_of OneIntegerKind (λ x y. x ≡ y)
integers_linear_order = record {
  ordered = ordered_integers;
  reflexive = λ x k. agrees x x k ∙ values_total_order.reflexive x k.1;
  equal_same = equal_value;
  less_greater = values_partial_order.less_greater;
  greater_less = values_partial_order.greater_less;
  less_trans = values_partial_order.less_trans;
}
