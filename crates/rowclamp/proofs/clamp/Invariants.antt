-- Before x the row is clamped, from x on it is what came in.
use Rattle.std.proofs.Common.{◌≡◌, ℕ, ◌<◌, ◌≤◌, get_or}
use Rattle.std.specs.Float.{float_clamp}
use lib.Ieee.{nan}
use Rattle.rowclamp.proofs.clamp.Given as goal

abbrev pub invariant-loop-x : goal.invariant-loop-x
invariant-loop-x l =
    ((k : ℕ) → k < l.x-index → get_or l.row k nan ≡ float_clamp (get_or l.initial.row k nan) l.lower l.upper)
    × ((k : ℕ) → l.x-index ≤ k → get_or l.row k nan ≡ get_or l.initial.row k nan)
