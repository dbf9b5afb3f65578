-- The bits of one field after the other.
use Rattle.silamogo.proofs.Filling.{Written}
use Rattle.silamogo.proofs.fields.put_bits.Given as goal

abbrev pub invariant-loop-at : goal.invariant-loop-at
invariant-loop-at l = Written l.r l.bits l.at
