-- Each turn lays one more sample down.
use Rattle.block.proofs.Samplings.{Filled}
use Rattle.block.proofs.layouts.store_row.Given as goal

abbrev pub invariant-loop-i : goal.invariant-loop-i
invariant-loop-i g l = Filled g.T.Sample.kind g.T.Sample.bits l.row l.initial.dst l.at l.dst l.i
