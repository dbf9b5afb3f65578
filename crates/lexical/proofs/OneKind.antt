-- Two values of one kind have an order.
use Rattle.std.specs.Prelude.{Result, Ok, Err}
use Rattle.std.specs.Result.{result_unwrap_or}
use mathlib.Core.Path.{◌≡◌}
use mathlib.Core.Bool.{false}
use Rattle.value.specs.declared.Value.{Value}
use Rattle.value.specs.declared.Refusal.{Refusal}
use Rattle.value.specs.Outcome.{gives, outcome_of}
use Rattle.float.specs.declared.Order.{Order}
use Rattle.float.proofs.Tests.{clash}
use Rattle.cmp.specs.Compare.{kinds_differ, compare_of, value_order}

pub one_kind_ordered : (v w : Value) → kinds_differ v w ≡ false → compare_of v w ≡ gives (value_order v w)
unfolding compare_of
one_kind_ordered v w k = simp k

pub given_same : {o p : Order} → gives o ≡ gives p → o ≡ p
given_same h = cc

-- what a comparison gives, whatever would stand in for a refusal
pub given_or : (r : Result Order Refusal) {o : Order} (other : Order) → outcome_of r ≡ gives o → result_unwrap_or r other ≡ o
given_or (Ok p) other h = given_same h
given_or (Err f) other h = clash cc
