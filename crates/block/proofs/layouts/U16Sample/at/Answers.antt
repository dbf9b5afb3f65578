-- Two bytes, the low one first.
use Rattle.std.specs.Int.{from_le_bytes}
use Rattle.std.proofs.Common.{◌∙◌, arith, w16}
use Rattle.bytewise.proofs.LittleEndian.{two_are}
use Rattle.block.proofs.Pieces.{number_read}
use Rattle.block.proofs.layouts.U16Sample.at.Goals as goal

pub returns : goal.returns
returns c =
    c.from_le_bytes.ensures
    ∙ number_read 2 (from_le_bytes w16) two_are c.args.src.now c.as_chunks.ensures.front c.args.i (omega (arith, c.requires)) c.requires
