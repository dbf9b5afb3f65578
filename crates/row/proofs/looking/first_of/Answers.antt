-- The blocks that were passed have no such sample.
use Rattle.std.proofs.Common.{rules, ◌≡◌, ◌+◌, false, arith, take}
use Rattle.std.specs.List.{list_any, position_or_len}
use Rattle.row.proofs.Scan.{passed_block}
use Rattle.row.proofs.looking.first_of.Goals as goal

pub loop-block-preserved : goal.loop-block-preserved
loop-block-preserved g c =
    let test = g.T.Test.test in
    let s = c.loop-block.rest.now in
    let e = c.in-Some.ensures in
    let none : list_any test (take 256 s) ≡ false = search rules in
    let q : position_or_len test s ≡ 256 + position_or_len test c.in-Some.behind.now = rw e.cases.2 (passed_block test 256 s e.cases.0 none) in
    (omega arith, omega arith)
