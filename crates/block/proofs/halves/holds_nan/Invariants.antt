-- Up to i, the flag is whether a sample is a NaN.
use Rattle.std.proofs.Common.{◌≡◌, take}
use Rattle.float.specs.Format.{f16, nan_in}
use Rattle.row.specs.Row.{any}
use Rattle.sample.specs.Samples.{numbers_in}
use Rattle.block.proofs.halves.holds_nan.Given as goal

abbrev pub invariant-loop-i : goal.invariant-loop-i
invariant-loop-i l = l.found ≡ any (nan_in f16) (take l.i (numbers_in 2 l.n l.src))
