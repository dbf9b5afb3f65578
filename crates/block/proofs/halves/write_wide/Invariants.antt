-- Each turn lays one more pattern down.
use Rattle.value.specs.declared.Kind.TheVariants as kind
use Rattle.sample.specs.Samples.{numbers_in}
use Rattle.block.specs.Inner.{half_bits}
use Rattle.block.proofs.Samplings.{Filled}
use Rattle.block.proofs.halves.write_wide.Given as goal

abbrev pub invariant-loop-i : goal.invariant-loop-i
invariant-loop-i l = Filled kind.F32 half_bits (numbers_in 2 l.n l.src) l.initial.dst 0 l.dst l.i
