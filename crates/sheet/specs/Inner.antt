-- Nothing in this file has to be believed: it says what private functions compute, and no public contract or theorem reaches it.
use Rattle.std.specs.Prelude.{◌⊎◌, ◌≡◌, List, ℕ, length, take}
use Rattle.sheet.specs.declared.runs.Telling.{Telling}
use Rattle.sheet.specs.Runs.{TellsBlock, ReadFails}

-- a turn: a read failed, or the next block is some front of the buffer
abbrev pub Stepped : Telling → List ℕ → Telling → Type 0
Stepped r buffer next = ReadFails r next ⊎ ((block : List ℕ) × (block ≡ take (length block) buffer) × TellsBlock r block next)
