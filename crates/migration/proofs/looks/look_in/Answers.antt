-- It begins with nothing seen, and each turn leads on.
use Rattle.migration.proofs.Runs.{unlooked, next_look}
use Rattle.migration.proofs.looks.look_in.Goals as goal

pub loop-r-init : goal.loop-r-init
loop-r-init g c = unlooked c.args.from c.args.to c.nothing_seen.result c.nothing_seen.ensures

pub loop-r-preserved : goal.loop-r-preserved
loop-r-preserved g c = next_look c.args.from c.args.to c.loop-r.r c.look_on-r.result _ c.loop-r.invariant c.loop-r-test.true c.look_on-r.ensures.step
