-- The language's `<=` is the test of the two bounds' order.
use borrow.Author.Rules.{rules}
use Rattle.choose.proofs.Samples.{range_made, range_refused}
use Rattle.choose.proofs.Range.new.Goals as goal

pub returns-then-lower-upper : goal.returns-then-lower-upper
returns-then-lower-upper c = range_made _ _ (search rules) (search rules) c.if-lower-upper.true

pub returns-else-lower-upper : goal.returns-else-lower-upper
returns-else-lower-upper c = range_refused _ _ (search rules) (search rules) c.if-lower-upper.false
