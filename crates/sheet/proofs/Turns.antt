-- The turns of a run: each leads on.
use Prim.Native.Nat.{ℕ, ◌<◌}
use Rattle.std.specs.Prelude.{None}
use mathlib.Core.Logic.{inl, inr}
use mathlib.Core.List.{List, [], ◌∷◌, ◌++◌}
use mathlib.Core.Path.{◌≡◌}
use Rattle.input.specs.Chain.{all_turns, begins, takes, fails}
use Rattle.strip.specs.declared.Sheet.{Sheet}
use Rattle.strip.specs.SheetTheorem.{blank}
use Rattle.sheet.specs.declared.runs.Telling.{Telling}
use Rattle.sheet.specs.Runs.{Ran}
use Rattle.sheet.specs.Inner.{Stepped}

-- ---- a run

-- some blocks led here
abbrev pub Reaches : Telling → Type 0
Reaches r = (bs : List (List ℕ)) × Ran bs r

-- none led to the beginning
pub at_beginning : (s : Sheet) → s ≡ blank → Reaches (record { sheet = s; fault = None; turns = all_turns })
at_beginning s q = rw q ([], begins)

-- a turn leads on
pub next_turn : (r next : Telling) (buffer : List ℕ) → Reaches r → 0 < r.turns → Stepped r buffer next → Reaches next
next_turn r next buffer (bs, ran) some (inl failed) = (bs, fails bs r next ran some failed)
next_turn r next buffer (bs, ran) some (inr (block, into, told)) = (bs ++ (block ∷ []), takes bs r next block ran some told)
