-- The places are filled one by one.
use Rattle.silamogo.proofs.Filling.{ShapeFilled}
use Rattle.silamogo.proofs.fields.shape_for.Given as goal

abbrev pub invariant-loop-at : goal.invariant-loop-at
invariant-loop-at l = ShapeFilled l.kinds l.made l.at
