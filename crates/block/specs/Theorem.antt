-- What the theorem speaks of: an input that is read as blocks. RULES.md: Migration.
use Rattle.std.specs.Prelude.{◌≡◌, ℕ, ◌/◌, ◌^◌, ◌<◌, ◌≤◌, List, [], ◌∷◌, ◌++◌, length}
use Rattle.value.specs.declared.Kind.{Kind}
use Rattle.value.specs.Outcome.{Outcome, gives, refuses, mapped, Success, done}
use Rattle.value.specs.Kinds.{bytes_of}
use Rattle.sample.specs.Samples.{count_of, left_of, joined}
use Rattle.block.specs.Migrate.{output_of, migrate_of, step_samples, step_answer}

-- every block but the last has whole samples only, and a buffer of `room` bytes has room for each
pub data Blocks (from to : Kind) (room : ℕ) : List (List ℕ) → Type 0 where
  none : Blocks from to room []
  last : (b : List ℕ) → count_of from b ≤ room / bytes_of to → Blocks from to room (b ∷ [])
  more : (b : List ℕ) (bs : List (List ℕ)) → count_of from b ≤ room / bytes_of to → left_of from b ≡ 0 → Blocks from to room bs → Blocks from to room (b ∷ bs)

-- where a run stands: the samples so far, what they were answered, and the bytes that were written
pub record Reached : Type 0 where
  pub samples : ℕ
  pub answer : Outcome Success
  pub output : List ℕ

-- a block's output is written unless it or one before it was refused
abbrev pub written_by : Outcome Success → List ℕ → List ℕ
written_by (gives d) output = output
written_by (refuses number place) output = []

-- a block more
abbrev pub stepped : Kind → Kind → ℕ → Reached → List ℕ → Reached
stepped from to room r b = record {
  samples = step_samples from r.samples b;
  answer = step_answer from to r.samples r.answer b room;
  output = r.output ++ written_by (step_answer from to r.samples r.answer b room) (output_of from to b);
}

-- the blocks, one after the other
abbrev pub run_of : Kind → Kind → ℕ → Reached → List (List ℕ) → Reached
run_of from to room r [] = r
run_of from to room r (b ∷ bs) = run_of from to room (stepped from to room r b) bs

-- before the first block
abbrev pub start : Reached
start = record { samples = 0; answer = gives done; output = [] }

-- the blocks' count is the count of the whole, and their answer and output are those of the whole: the lowest bad sample decides
abbrev pub BlocksDecide : Type 0
BlocksDecide =
    (from to : Kind) (room : ℕ) (bs : List (List ℕ)) → Blocks from to room bs → length (joined bs) < 2 ^ 64
    → ((run_of from to room start bs).samples ≡ count_of from (joined bs))
    × (mapped (λ d. (run_of from to room start bs).output) (run_of from to room start bs).answer ≡ migrate_of from to (joined bs))
