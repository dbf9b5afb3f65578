-- Up to i each sample is converted.
use Rattle.std.proofs.Common.{◌≡◌, ℕ, ◌<◌, get_or}
use Rattle.value.specs.Outcome.{gives}
use Rattle.row.proofs.conversion.convert.Given as goal

abbrev pub invariant-loop-i : goal.invariant-loop-i
invariant-loop-i g l = (k : ℕ) (x : g.row.C-From.Denot) (y : g.row.C-To.Denot) → k < l.i
    → g.C.Conversion.conversion (get_or l.src k x) ≡ gives (get_or l.dst k y)
