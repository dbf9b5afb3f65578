-- What is left of 64 digits after the leading zeros.
use native.Mathlib.Omega.{arith}
use Rattle.convert.proofs.Binary.{size_leading}
use Rattle.convert.proofs.digits.size_of.Goals as goal

pub returns : goal.returns
returns c = (size_leading c.args.n c.ranges.n.fits, omega arith)
