-- The bits of a float that is no NaN.
use Rattle.std.proofs.Common.{◌∙◌, sym}
use Rattle.row.proofs.F32Sample.{bits_are}
use Rattle.block.proofs.layouts.F32Sample.bits.Goals as goal

pub returns : goal.returns
returns c = c.from.ensures ∙ sym (bits_are c.args.self)
