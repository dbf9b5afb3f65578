-- No sample is refused, so the second row holds the samples' own numbers.
use Rattle.std.proofs.Common.{◌∙◌}
use Rattle.block.proofs.Rowing.{any_never}
use Rattle.block.proofs.Pairs.{widened_row}
use Rattle.block.proofs.rows.WidenPair.convert.Goals as goal

pub returns : goal.returns
returns c =
    let a = c.args in
    record {
      row = c.u8_to_u16.ensures.exit ∙ widened_row a.from.now a.to.now c.requires (λ i h. (c.type_inv.from i).fits);
      numbers = any_never c.u8_to_u16.new.dst;
    }
