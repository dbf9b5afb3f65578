-- Each turn leaves fewer and leads on.
use Rattle.sheet.proofs.Turns.{Reaches}
use Rattle.sheet.proofs.runs.run_in.Given as goal

abbrev pub invariant-loop-r : goal.invariant-loop-r
invariant-loop-r g l = Reaches l.r

abbrev pub decreases-loop-r : goal.decreases-loop-r
decreases-loop-r g l = l.r.turns
