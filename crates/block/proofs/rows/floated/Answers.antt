-- The rows hold what the block asks for.
use Rattle.std.proofs.Common.{refl}
use Rattle.block.proofs.Pairs.{floated_block}
use Rattle.block.proofs.rows.floated.Goals as goal

pub returns : goal.returns
returns c =
    let a = c.args in
    let both =
    floated_block a.src.now a.dst.now refl c.requires (λ i. (c.type_inv.src i).fits) c.by_rows.ensures in
    record { answer = both.0; exit = both.1 }
