-- One turn of a run, by what stands in the buffer after the read. RULES.md: Migration, Report.
use Rattle.std.specs.Prelude.{ℕ, ◌-◌, true, cond, ◌≡◌, List, eqb, length, Option, None, Some}
use Rattle.value.specs.declared.Kind.{Kind}
use Rattle.value.specs.declared.Value.{Value}
use Rattle.value.specs.Outcome.{Outcome, gives, refuses, Success}
use Rattle.row.specs.Row.{rowed_outcome}
use Rattle.sample.specs.Samples.{sample_at}
use Rattle.block.specs.Migrate.{StepTaken}
use Rattle.look.specs.Report.{look_of}
use Rattle.migration.specs.declared.blocks.State.{State}
use Rattle.migration.specs.declared.looks.Look.{Look}
use Rattle.migration.specs.Sizes.{buffer_bytes, block_bytes}
use Rattle.migration.specs.Turns.{is_reading, WritingOnly, turns_left}

-- the sample that a refusal is about, by its place: none without a refusal, and none for 9, bytes left over
abbrev pub sample_by : (ℕ → Option Value) → Outcome Success → Option Value
sample_by at (gives d) = None
sample_by at (refuses number place) = cond (eqb number 9) None (at place)

-- what was found before, or else a sample
abbrev pub found_or : Option Value → Value → Option Value
found_or (Some v) other = Some v
found_or None other = Some other

-- after a block: the sample that was refused before it, or else the one in the block, where it comes behind the samples before
abbrev pub sample_after : Kind → State → List ℕ → Outcome Success → Option Value
sample_after from s block answer = sample_by (λ place. found_or s.sample (sample_at from block (place - s.progress.samples))) answer

-- a turn in which the next block was moved, through a buffer for the output that has room for it
abbrev pub MovedOn : Kind → Kind → State → List ℕ → List ℕ → List ℕ → State → Type 0
MovedOn from to s block old out next =
    (length old ≡ buffer_bytes)
    × StepTaken from to s.progress block old out next.progress
    × (next.sample ≡ sample_after from s block (rowed_outcome next.progress.answer))
    × WritingOnly next.progress.answer next.fault
    × (next.turns ≡ turns_left s.turns (eqb (length block) (block_bytes from to)) next.fault)

-- a turn in which a read failed: the last one
abbrev pub Failed : State → State → Type 0
Failed s next = (next.progress ≡ s.progress) × (next.sample ≡ s.sample) × (is_reading next.fault ≡ true) × (next.turns ≡ 0)

-- a turn of a report in which the next block was looked at
abbrev pub LookedOn : Kind → Kind → Look → List ℕ → Look → Type 0
LookedOn from to s block next =
    (next.seen ≡ look_of from to s.seen block)
    × (next.fault ≡ None)
    × (next.turns ≡ turns_left s.turns (eqb (length block) (block_bytes from from)) None)

-- a turn of a report in which a read failed
abbrev pub LookFailed : Look → Look → Type 0
LookFailed s next = (next.seen ≡ s.seen) × (is_reading next.fault ≡ true) × (next.turns ≡ 0)
