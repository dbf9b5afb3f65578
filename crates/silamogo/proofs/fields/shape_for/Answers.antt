-- The places are filled one by one.
use Rattle.silamogo.proofs.Filling.{shape_start, shape_more, shape_end}
use Rattle.silamogo.proofs.fields.shape_for.Goals as goal

pub loop-at-init : goal.loop-at-init
loop-at-init c = shape_start c.args.kinds.now c.blank_shape-made.ensures

pub loop-at-preserved : goal.loop-at-preserved
loop-at-preserved c =
    shape_more c.args.kinds.now c.loop-at.made c.loop-at.at c.loop-at.invariant c.loop-at-test.true c.requires c.kind_for.ensures

pub returns : goal.returns
returns c = shape_end c.args.kinds.now c.loop-at.made c.loop-at.at c.loop-at.invariant c.loop-at-test.false
