-- The first bytes of the number, laid over as many of the buffer.
use Rattle.std.proofs.Common.{take, ap, ◌∙◌}
use Rattle.block.proofs.Laying.{stored}
use Rattle.block.proofs.bytes.store.Goals as goal

pub returns : goal.returns
returns c =
    let a = c.args in
    stored a.dst.now _ a.to a.width a.n c.requires.0 c.requires.1 (c.copy_from_slice.ensures.after ∙ ap (take a.width) c.to_le_bytes.ensures)
