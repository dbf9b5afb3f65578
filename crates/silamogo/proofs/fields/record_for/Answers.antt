-- The places are filled one by one.
use Rattle.silamogo.proofs.Filling.{record_start, record_more, record_end}
use Rattle.silamogo.proofs.fields.record_for.Goals as goal

pub loop-at-init : goal.loop-at-init
loop-at-init c = record_start c.args.kinds.now c.args.bits.now c.blank-made.ensures

pub loop-at-preserved : goal.loop-at-preserved
loop-at-preserved c =
    record_more _ _ c.requires.1 c.loop-at.made c.loop-at.at c.loop-at.invariant c.loop-at-test.true c.requires.0 c.value_for.ensures

pub returns : goal.returns
returns c = record_end _ _ c.requires.1 c.loop-at.made c.loop-at.at c.loop-at.invariant c.loop-at-test.false
