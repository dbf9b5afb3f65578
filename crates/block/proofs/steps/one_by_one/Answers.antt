-- The looking pass found a sample that is refused, or none.
use Rattle.std.proofs.Common.{◌∙◌, sym, ap}
use Rattle.row.specs.Row.{rowed_outcome}
use Rattle.block.proofs.Blocks.{passed_row, block_refused, block_done}
use Rattle.block.proofs.steps.one_by_one.Goals as goal

pub returns-in_err-check_samples : goal.returns-in_err-check_samples
returns-in_err-check_samples c =
    let a = c.args in
    let r = block_refused a.from a.to a.src.now a.dst.now (sym (ap rowed_outcome c.in_err-check_samples.was) ∙ c.check_samples.ensures) in
    record { answer = passed_row _ _ c.from_residual.ensures.1 ∙ r.0; exit = r.1 }

pub returns : goal.returns
returns c =
    let a = c.args in
    let both =
    block_done a.from a.to a.src.now a.dst.now c.requires
    (sym (ap rowed_outcome c.in_ok-check_samples.was) ∙ c.check_samples.ensures) c.write_samples.ensures in
    record { answer = both.0; exit = both.1 }
