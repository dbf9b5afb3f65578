-- It begins at the beginning, and each turn leads on.
use Rattle.std.proofs.Common.{rules}
use Rattle.sheet.proofs.Turns.{at_beginning, next_turn}
use Rattle.sheet.proofs.runs.run_in.Goals as goal

pub loop-r-init : goal.loop-r-init
loop-r-init g c = at_beginning c.default.result (search rules)

pub loop-r-preserved : goal.loop-r-preserved
loop-r-preserved g c = next_turn c.loop-r.r c.step-r.result _ c.loop-r.invariant c.loop-r-test.true c.step-r.ensures.step
