-- The infinity's field fits.
use Prim.Native.Nat.{◌+◌}
use native.Mathlib.Nat.{mod-eq_of_lt}
use native.Mathlib.Omega.{arith}
use Rattle.convert.proofs.Holds.{field_small}
use Rattle.convert.proofs.formats.FloatFormat.infinity.Goals as goal

pub returns : goal.returns
returns c =
    let format = c.args.self in
    let f = field_small (format.last + 2) format.fraction (format.last + 2) (omega arith) (omega (arith, format.low)) format.narrow in
    mod-eq_of_lt (omega arith)
