-- No sample is refused, so the second row holds the samples' casts, none of which is a NaN.
use Rattle.std.proofs.Common.{◌∙◌, ap}
use lib.Ieee.{is_nan}
use Rattle.row.specs.Row.{any}
use Rattle.block.proofs.Pairs.{floated_row, casts_numbers}
use Rattle.block.proofs.rows.FloatPair.convert.Goals as goal

pub returns : goal.returns
returns c =
    let a = c.args in
    let row = c.u16_to_f32.ensures.exit ∙ floated_row a.from.now a.to.now c.requires (λ i h. (c.type_inv.from i).fits) in
    record { row = row; numbers = ap (any is_nan) row ∙ casts_numbers a.from.now (λ i h. (c.type_inv.from i).fits) }
