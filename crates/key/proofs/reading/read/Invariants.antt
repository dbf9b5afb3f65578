-- What is left of the key, read into the record that is filled up to `at`, gives the whole.
use Rattle.key.proofs.ReadSteps.{Filled}
use Rattle.key.proofs.reading.read.Given as goal

abbrev pub invariant-loop-at : goal.invariant-loop-at
invariant-loop-at l = Filled l.fn.shape l.key l.made l.rest l.at
