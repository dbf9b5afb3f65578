-- The bytes taken so far, from the high one down, make the number.
use Rattle.sample.proofs.Gathering.{Gathered}
use Rattle.sample.proofs.bytes.load.Given as goal

abbrev pub invariant-loop-x : goal.invariant-loop-x
invariant-loop-x l =
    (goal.iterator-loop-x).can_next l.x-iterator × (goal.iterator-loop-x).is_finite l.x-iterator × Gathered l.bytes l.x-iterator.iter.rest.now l.n
