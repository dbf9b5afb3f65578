-- Nothing in this file has to be believed: it says what private functions compute, and no public contract or theorem reaches it.
use Rattle.std.specs.Prelude.{ℕ, ◌≤◌, ◌⊎◌, ◌≡◌, List, length, take}
use Rattle.value.specs.declared.Kind.{Kind}
use Rattle.migration.specs.declared.blocks.State.{State}
use Rattle.migration.specs.declared.looks.Look.{Look}
use Rattle.migration.specs.Sizes.{block_bytes}
use Rattle.migration.specs.Steps.{Failed, LookFailed, LookedOn, MovedOn}

-- bytes at the front of a buffer, and no more than are read at once
abbrev pub ReadInto : Kind → Kind → List ℕ → List ℕ → Type 0
ReadInto from to buffer block = (block ≡ take (length block) buffer) × (length block ≤ block_bytes from to)

-- a turn of a move
abbrev pub Stepped : Kind → Kind → State → List ℕ → List ℕ → List ℕ → State → Type 0
Stepped from to s buffer old out next =
    (Failed s next × (out ≡ old))
    ⊎ ((block : List ℕ) × ReadInto from to buffer block × MovedOn from to s block old out next)

-- a turn of a report
abbrev pub Looked : Kind → Kind → Look → List ℕ → Look → Type 0
Looked from to s buffer next = LookFailed s next ⊎ ((block : List ℕ) × ReadInto from from buffer block × LookedOn from to s block next)
