-- The number read so far and what is left together give the whole.
use mathlib.Core.Path.{◌≡◌}
use lib.ListN.{drop}
use Rattle.text.specs.Digits.{number_from}
use Rattle.text.proofs.digits.number_in.Given as goal

abbrev pub invariant-loop-b : goal.invariant-loop-b
invariant-loop-b l = number_from l.base (drop l.b-index l.s) l.n ≡ number_from l.base l.s 0
