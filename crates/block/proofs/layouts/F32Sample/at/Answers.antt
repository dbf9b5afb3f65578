-- Four bytes, the low one first.
use Rattle.std.specs.Int.{from_le_bytes}
use Rattle.std.proofs.Common.{ap, ◌∙◌, arith, w32}
use lib.Ieee.{binary32, of_bits}
use Rattle.bytewise.proofs.LittleEndian.{four_are}
use Rattle.block.proofs.Pieces.{number_read}
use Rattle.block.proofs.layouts.F32Sample.at.Goals as goal

pub returns : goal.returns
returns c =
    c.float_of.ensures
    ∙ ap (of_bits binary32)
    (c.from_le_bytes.ensures
    ∙ number_read 4 (from_le_bytes w32) four_are c.args.src.now c.as_chunks.ensures.front c.args.i (omega (arith, c.requires)) c.requires)
