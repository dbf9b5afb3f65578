-- Each turn leaves fewer and leads on.
use Rattle.migration.proofs.Runs.{LooksTo}
use Rattle.migration.proofs.looks.look_in.Given as goal

abbrev pub invariant-loop-r : goal.invariant-loop-r
invariant-loop-r g l = LooksTo l.from l.to l.r

abbrev pub decreases-loop-r : goal.decreases-loop-r
decreases-loop-r g l = l.r.turns
