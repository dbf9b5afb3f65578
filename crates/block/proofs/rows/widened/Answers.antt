-- The rows hold what the block asks for.
use Rattle.std.proofs.Common.{ℕ, List, map, ap, ◌∙◌}
use lib.Seq.{sets}
use Rattle.value.specs.declared.Kind.TheVariants as kind
use Rattle.block.specs.Output.{bytes_for}
use Rattle.block.proofs.Pairs.{numbers_one, widened_block}
use Rattle.block.proofs.rows.widened.Goals as goal

pub returns : goal.returns
returns c =
    let a = c.args in
    let both =
    widened_block a.src.now a.dst.now c.requires (λ i. (c.type_inv.src i).fits)
    (c.by_rows.ensures ∙ ap (λ (l : List ℕ). sets a.dst.now 0 (bytes_for kind.U16 (map (λ (n : ℕ). n) l))) (numbers_one a.src.now)) in
    record { answer = both.0; exit = both.1 }
