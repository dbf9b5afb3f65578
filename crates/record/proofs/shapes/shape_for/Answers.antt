-- The places are filled one by one.
use Rattle.record.proofs.Shaping.{one_more}
use Rattle.record.proofs.shapes.shape_for.Goals as goal

pub loop-at-preserved : goal.loop-at-preserved
loop-at-preserved c = rw c.loop-at.invariant (one_more c.args.fields.now _ c.requires c.loop-at-test.true c.kind_of.ensures)
