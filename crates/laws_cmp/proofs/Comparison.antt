-- The comparison of values is a partial order on all kinds at once: it goes by the number, and numbers are so ordered.
use Rattle.float.specs.declared.Order.TheVariants.{Less, Equal, Greater}
use Rattle.cmp.specs.Compare.{compare_of, eq_of}
use Rattle.cmp.proofs.Orders.{turned_order, less_transitive, equal_transitive}
use Rattle.laws_cmp.specs.Laws.{PartialOrder}
use Rattle.laws_cmp.proofs.Tests.{eq_exactly}

pub values_partial_order : PartialOrder compare_of eq_of
values_partial_order = record {
  equal_eq = λ x y h. (eq_exactly (compare_of x y)).1 h;
  eq_equal = λ x y h. (eq_exactly (compare_of x y)).0 h;
  less_greater = λ x y h. turned_order x y Less h;
  greater_less = λ x y h. turned_order y x Greater h;
  less_trans = less_transitive;
  greater_trans = λ x y z h k. turned_order z x Less (less_transitive z y x (turned_order y z Greater k) (turned_order x y Greater h));
  eq_symmetric = λ x y h. (eq_exactly (compare_of y x)).1 (turned_order x y Equal ((eq_exactly (compare_of x y)).0 h));
  eq_transitive = λ x y z h k. (eq_exactly (compare_of x z)).1 (equal_transitive x y z ((eq_exactly (compare_of x y)).0 h) ((eq_exactly (compare_of y z)).0 k));
}
