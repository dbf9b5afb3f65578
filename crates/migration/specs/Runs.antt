-- Whole runs, by the blocks that they took and the bytes that were handed to a write. RULES.md: Migration, Report.
use Rattle.value.specs.declared.Refusal.{Refusal}
use Rattle.value.specs.declared.Value.{Value}
use Rattle.std.specs.Prelude.{ℕ, ◌*◌, ◌^◌, ◌≤◌, ◌<◌, ◌≡◌, List, [], ◌++◌, length, take, Option, Result, None, Ok, Some}
use Rattle.value.specs.declared.Kind.{Kind}
use Rattle.value.specs.Kinds.{bytes_of}
use Rattle.value.specs.Outcome.{Outcome, mapped, Success}
use Rattle.row.specs.Row.{rowed_outcome}
use Rattle.sample.specs.Samples.{count_of, joined, sample_at}
use Rattle.block.specs.Migrate.{migrate_of}
use Rattle.block.specs.Theorem.{written_by}
use Rattle.look.specs.Report.{nothing_seen}
use Rattle.look.specs.ReportTheorem.{Tells}
use Rattle.migration.specs.declared.blocks.State.{State}
use Rattle.migration.specs.declared.looks.Look.{Look}
use Rattle.input.specs.Chain.{Chain, all_turns}
use Rattle.migration.specs.Sizes.{block_bytes}
use Rattle.migration.specs.Steps.{sample_by, MovedOn, Failed, LookedOn, LookFailed}

-- ---- a move

-- where it stands, and the bytes that were handed to a write so far
pub record Moving : Type 0 where
  pub state : State
  pub written : List ℕ

-- no samples yet, nothing refused and nothing written
abbrev pub beginning : Moving
beginning = record {
  state = record { progress = record { samples = 0; answer = Ok tt }; sample = None; fault = None; turns = all_turns };
  written = [];
}

-- what is handed to a write for a block: the bytes of its samples, from the front of the output's buffer, unless something was refused
abbrev pub handed : Kind → Kind → List ℕ → List ℕ → Result (Unit {0}) Refusal → List ℕ
handed from to block out answer = written_by (rowed_outcome answer) (take (count_of from block * bytes_of to) out)

-- a turn of a move, with the bytes that it handed to a write
abbrev pub MovesBlock : Kind → Kind → Moving → List ℕ → Moving → Type 0
MovesBlock from to m block next =
    (length block ≤ block_bytes from to)
    × (old : List ℕ) × (out : List ℕ) × MovedOn from to m.state block old out next.state
    × (next.written ≡ m.written ++ handed from to block out next.state.progress.answer)

-- a turn in which a read failed hands nothing on
abbrev pub MoveFails : Moving → Moving → Type 0
MoveFails m next = Failed m.state next.state × (next.written ≡ m.written)

-- some blocks lead from the beginning to here
abbrev pub Ran : Kind → Kind → List (List ℕ) → Moving → Type 0
Ran from to = Chain (λ m. m.state.turns) (MovesBlock from to) MoveFails beginning

-- and no turn is left
abbrev pub Runs : Kind → Kind → State → Type 0
Runs from to r = ((bs : List (List ℕ)) × (written : List ℕ) × Ran from to bs (record { state = r; written = written })) × (r.turns ≡ 0)

-- the sample of a whole input that was refused
abbrev pub refused_sample : Kind → List ℕ → Outcome Success → Option Value
refused_sample from bytes answer = sample_by (λ place. Some (sample_at from bytes place)) answer

-- what a run answers, hands to a write and tells of a refused sample is what all its blocks come to, joined: the lowest bad sample decides
abbrev pub RunDecides : Type 0
RunDecides =
    (from to : Kind) (bs : List (List ℕ)) (m : Moving) → Ran from to bs m → length (joined bs) < 2 ^ 64
    → (m.state.progress.samples ≡ count_of from (joined bs))
    × (mapped (λ d. m.written) (rowed_outcome m.state.progress.answer) ≡ migrate_of from to (joined bs))
    × (m.state.sample ≡ refused_sample from (joined bs) (rowed_outcome m.state.progress.answer))

-- ---- a report

-- nothing seen yet
abbrev pub unseen : Look
unseen = record { seen = nothing_seen; fault = None; turns = all_turns }

-- a turn of a report
abbrev pub LooksAtBlock : Kind → Kind → Look → List ℕ → Look → Type 0
LooksAtBlock from to s block next = (length block ≤ block_bytes from from) × LookedOn from to s block next

-- some blocks lead from nothing seen to here
abbrev pub LookedThrough : Kind → Kind → List (List ℕ) → Look → Type 0
LookedThrough from to = Chain (λ s. s.turns) (LooksAtBlock from to) LookFailed unseen

-- and no turn is left
abbrev pub Looks : Kind → Kind → Look → Type 0
Looks from to r = ((bs : List (List ℕ)) × LookedThrough from to bs r) × (r.turns ≡ 0)

-- what a report saw is what all its blocks have, joined
abbrev pub LookDecides : Type 0
LookDecides = (from to : Kind) (bs : List (List ℕ)) (r : Look) → LookedThrough from to bs r → length (joined bs) < 2 ^ 64 → Tells from to (joined bs) r.seen
