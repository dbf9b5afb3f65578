-- The turns of a run, by what stands in the buffer after the read, and whole runs. RULES.md: Strip sheet.
use Rattle.std.specs.Prelude.{ℕ, ◌-◌, ◌*◌, ◌≤◌, min, Bool, cond, None, IsSome, ◌&&◌, ◌≡◌, List, eqb, ltb, length}
use Rattle.input.specs.Chain.{Chain, all_turns}
use Rattle.sample.specs.Samples.{joined}
use Rattle.strip.specs.Sheet.{most, sheet_after}
use Rattle.strip.specs.SheetTheorem.{blank, SheetTells}
use Rattle.sheet.specs.declared.runs.Telling.{Telling}

-- the bytes of a buffer
abbrev pub buffer_bytes : ℕ
buffer_bytes = 131072

-- how many bytes are read at once behind so many samples: none behind the last sample that is told
abbrev pub block_bytes : ℕ → ℕ
block_bytes samples = min buffer_bytes (4 * (most - samples))

-- how many blocks may still be read, after one of so many: none after one that wasn't full, or once as many samples were told as are
abbrev pub turns_left : ℕ → Bool → ℕ → ℕ
turns_left turns full samples = cond (full && ltb samples most) (turns - 1) 0

-- a turn in which the next block was told
abbrev pub TellsBlock : Telling → List ℕ → Telling → Type 0
TellsBlock r block next =
    (length block ≤ block_bytes r.sheet.samples)
    × (next.sheet ≡ sheet_after r.sheet block)
    × (next.fault ≡ None)
    × (next.turns ≡ turns_left r.turns (eqb (length block) (block_bytes r.sheet.samples)) next.sheet.samples)

-- a turn in which a read failed: the last one
abbrev pub ReadFails : Telling → Telling → Type 0
ReadFails r next = (next.sheet ≡ r.sheet) × IsSome next.fault × (next.turns ≡ 0)

-- nothing told yet
abbrev pub beginning : Telling
beginning = record { sheet = blank; fault = None; turns = all_turns }

-- some blocks lead from the beginning to here
abbrev pub Ran : List (List ℕ) → Telling → Type 0
Ran = Chain (λ r. r.turns) TellsBlock ReadFails beginning

-- and no turn is left
abbrev pub Runs : Telling → Type 0
Runs r = ((bs : List (List ℕ)) × Ran bs r) × (r.turns ≡ 0)

-- what a run tells is what all its blocks have, joined
abbrev pub RunTells : Type 0
RunTells = (bs : List (List ℕ)) (r : Telling) → Ran bs r → SheetTells (joined bs) r.sheet
