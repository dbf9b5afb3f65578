-- The samples of the rows before are laid down.
use Rattle.std.proofs.Common.{◌*◌}
use Rattle.sample.specs.Samples.{numbers_in}
use Rattle.block.proofs.Samplings.{Filled}
use Rattle.block.proofs.rows.by_rows.Given as goal

abbrev pub invariant-loop-r : goal.invariant-loop-r
invariant-loop-r g l =
    Filled g.P.To.Sample.kind (λ b. g.P.To.Sample.bits (g.P.Pair.moved (g.P.From.Sample.of_bits b))) (numbers_in g.P.From.Sample.WIDTH l.n l.src)
    l.initial.dst 0 l.dst (16 * l.r)
