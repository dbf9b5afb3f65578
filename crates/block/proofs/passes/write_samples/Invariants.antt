-- The first conversions are laid down.
use Rattle.sample.specs.Samples.{samples_of}
use Rattle.block.specs.Inner.{moved_bits}
use Rattle.block.proofs.Samplings.{Filled}
use Rattle.block.proofs.passes.write_samples.Given as goal

abbrev pub invariant-loop-at : goal.invariant-loop-at
invariant-loop-at l = Filled l.to (moved_bits l.to) (samples_of l.from l.src) l.initial.dst 0 l.dst l.at
