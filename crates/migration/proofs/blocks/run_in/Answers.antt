-- It begins at the beginning, and each turn leads on.
use Rattle.migration.proofs.Runs.{at_beginning, next_turn}
use Rattle.migration.proofs.blocks.run_in.Goals as goal

pub loop-r-init : goal.loop-r-init
loop-r-init g c = at_beginning c.args.from c.args.to c.start.result c.start.ensures

pub loop-r-preserved : goal.loop-r-preserved
loop-r-preserved g c = next_turn c.args.from c.args.to c.loop-r.r c.step-r.result _ _ _ c.loop-r.invariant c.loop-r-test.true c.step-r.ensures.step
