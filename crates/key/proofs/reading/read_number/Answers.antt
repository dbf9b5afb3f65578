-- n is the number of the bytes so far.
use native.Mathlib.Omega.{arith}
use Rattle.key.proofs.NumberBytes.{gather_none, gather_step}
use Rattle.key.proofs.reading.read_number.Goals as goal

pub loop-byte-init : goal.loop-byte-init
loop-byte-init c = gather_none c.args.bytes.now

pub loop-byte-preserved : goal.loop-byte-preserved
loop-byte-preserved c =
    gather_step c.args.bytes.now c.loop-byte.n c.loop-byte.byte-index c.from.result c.loop-byte.invariant
    (omega (arith, c.from.ensures, c.type_inv.bytes c.loop-byte.byte-index)) c.loop-byte-test.true c.from.ensures
