-- A byte is its own number.
use Rattle.std.proofs.Common.{sym, arith}
use Rattle.block.proofs.Pieces.{one_here}
use Rattle.block.proofs.layouts.U8Sample.at.Goals as goal

pub returns : goal.returns
returns c = sym (one_here c.args.src.now c.args.i (omega (arith, c.requires)))
