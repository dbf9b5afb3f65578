-- The blocks that were passed have no such sample.
use Rattle.std.proofs.Common.{◌≡◌, ◌+◌, length}
use Rattle.std.specs.List.{position_or_len}
use Rattle.row.proofs.looking.first_of.Given as goal

abbrev pub invariant-loop-block : goal.invariant-loop-block
invariant-loop-block g l =
    (l.passed + length l.rest ≡ length l.row) × (position_or_len g.T.Test.test l.row ≡ l.passed + position_or_len g.T.Test.test l.rest)

abbrev pub decreases-loop-block : goal.decreases-loop-block
decreases-loop-block g l = length l.rest
