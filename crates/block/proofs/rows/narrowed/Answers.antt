-- The row's answer is the block's.
use Rattle.std.proofs.Common.{◌≡◌, ℕ, ◌/◌, length, ap, ◌∙◌, arith}
use Rattle.row.specs.Row.{rowed_outcome}
use Rattle.sample.specs.Samples.{numbers_in}
use Rattle.sample.proofs.Samplings.{length_numbers}
use Rattle.block.proofs.Rowing.{map_same}
use Rattle.block.proofs.Pairs.{narrowed_block}
use Rattle.block.proofs.Pieces.{places}
use Rattle.block.proofs.rows.narrowed.Goals as goal

pub returns : goal.returns
returns c =
    let a = c.args in
    let w = c.load.new.row in
    let n = length a.src.now / 2 in
    let few = places {A = ℕ} n 32768 0 c.requires.1 in
    let own : w ≡ numbers_in 2 n a.src.now = c.load.ensures ∙ map_same _ ∙ ap (λ (m : ℕ). numbers_in 2 m a.src.now) few in
    let many : length w ≡ n = ap length own ∙ length_numbers 2 n a.src.now in
    let both =
    narrowed_block a.src.now a.dst.now w own
    (omega (arith, many, c.requires.0)) (λ i. (c.type_inv.src i).fits)
    (rowed_outcome c.u16_to_u8.result) c.u16_to_u8.ensures.answer c.u16_to_u8.ensures.exit in
    record { answer = both.0; exit = both.1 }
