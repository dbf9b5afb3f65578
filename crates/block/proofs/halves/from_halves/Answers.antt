-- The pass writes what the block asks for.
use Rattle.std.proofs.Common.{refl}
use Rattle.block.proofs.Halving.{halved_block}
use Rattle.block.proofs.halves.from_halves.Goals as goal

pub returns : goal.returns
returns c =
    let a = c.args in
    let both =
    halved_block a.src.now a.dst.now refl c.requires.0 c.requires.1 (λ i. (c.type_inv.src i).fits) c.write_wide.ensures in
    record { answer = both.0; exit = both.1 }
