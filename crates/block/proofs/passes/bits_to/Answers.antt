-- The bits of what the conversion gave.
use Rattle.std.proofs.Common.{rules}
use Rattle.block.proofs.Blocks.{bits_are}
use Rattle.block.proofs.passes.bits_to.Goals as goal

pub returns : goal.returns
returns c = bits_are c.args.to c.args.v c.convert.result (λ w p. search rules) c.map_or.ensures c.convert.ensures
