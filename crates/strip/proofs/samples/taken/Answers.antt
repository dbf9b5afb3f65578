-- As many whole samples as there are and as there is room for.
use Rattle.std.proofs.Common.{arith}
use Rattle.strip.proofs.Words.{taken_bits}
use Rattle.strip.proofs.samples.taken.Goals as goal

pub returns-clause-samples : goal.returns-clause-samples
returns-clause-samples c =
    taken_bits c.args.before c.args.src.now c.as_chunks.ensures.front
    (omega (arith, c.min.ensures, c.as_chunks.ensures.front_len, c.saturating_sub-room.ensures))
