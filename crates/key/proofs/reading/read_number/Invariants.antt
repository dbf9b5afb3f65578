-- n is the number of the bytes so far.
use Rattle.key.proofs.NumberBytes.{Gathered}
use Rattle.key.proofs.reading.read_number.Given as goal

abbrev pub invariant-loop-byte : goal.invariant-loop-byte
invariant-loop-byte l = Gathered l.bytes l.n l.byte-index
