-- The places are filled one by one.
use Rattle.silamogo.proofs.Filling.{RecordFilled}
use Rattle.silamogo.proofs.fields.record_for.Given as goal

abbrev pub invariant-loop-at : goal.invariant-loop-at
invariant-loop-at l = RecordFilled l.kinds l.bits l.made l.at
