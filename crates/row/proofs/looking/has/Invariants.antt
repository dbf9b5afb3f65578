-- Before x, the flag is whether a sample passes.
use Rattle.std.proofs.Common.{◌≡◌, take}
use Rattle.std.specs.List.{list_any}
use Rattle.row.proofs.looking.has.Given as goal

abbrev pub invariant-loop-x : goal.invariant-loop-x
invariant-loop-x g l = l.found ≡ list_any g.T.Test.test (take l.x-index l.part)
