-- Up to i no sample is refused.
use Rattle.row.proofs.Scan.{Reached}
use Rattle.sample.specs.Samples.{samples_of}
use Rattle.sample.specs.Refusals.{refused_to}
use Rattle.block.proofs.passes.check_samples.Given as goal

abbrev pub invariant-loop-i : goal.invariant-loop-i
invariant-loop-i l = Reached (refused_to l.to) 0 (samples_of l.from l.src) l.i
