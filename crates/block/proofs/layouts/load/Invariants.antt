-- Each turn makes one more number of the sample's bytes.
use Rattle.std.proofs.Common.{length}
use Rattle.row.proofs.Written.{Written}
use Rattle.sample.specs.Samples.{numbers_in}
use Rattle.block.proofs.layouts.load.Given as goal

abbrev pub invariant-loop-i : goal.invariant-loop-i
invariant-loop-i g l =
    Written g.T.Sample.of_bits (numbers_in g.T.Sample.WIDTH (length l.initial.row) l.src) l.initial.row l.row l.i
