-- The migration of a string of bytes from kind to kind, as a whole and block by block. RULES.md: Migration.
use Rattle.std.specs.Prelude.{◌≡◌, ℕ, ◌+◌, ◌/◌, not, List, [], ◌∷◌, length, ◌==◌, nat_lt}
use Rattle.value.specs.declared.Kind.{Kind}
use Rattle.value.specs.Outcome.{Outcome, gives, refuses, and_then, mapped, Success, lent_after}
use Rattle.value.specs.Rules.{Rule, rule, chain}
use Rattle.row.specs.Row.{rowed_outcome, row_answer, row_results}
use Rattle.value.specs.Kinds.{bytes_of}
use Rattle.sample.specs.Samples.{count_of, left_of, samples_of, counted}
use Rattle.sample.specs.Refusals.{bits_to, answer_of}
use Rattle.block.specs.declared.Progress.{Progress}
use Rattle.block.specs.Output.{bytes_for}

-- ---- the whole

-- the bytes of the samples' conversions
unfoldable pub output_of : Kind → Kind → List ℕ → List ℕ
output_of from to bytes = bytes_for to (row_results (bits_to to) (samples_of from bytes))

-- what a whole input is migrated to
unfoldable pub migrate_of : Kind → Kind → List ℕ → Outcome (List ℕ)
migrate_of from to bytes = mapped (λ d. output_of from to bytes) (answer_of from to bytes)

-- ---- a block, behind the samples that came before it

-- a place in the block as a place in the whole
abbrev pub placed_from : ℕ → Outcome Success → Outcome Success
placed_from before (gives d) = gives d
placed_from before (refuses number place) = refuses number (counted (before + place))

-- after `before` samples, which were answered with `answer`: the samples up to the end of the block
unfoldable pub step_samples : Kind → ℕ → List ℕ → ℕ
step_samples from before src = counted (before + count_of from src)

-- bytes left over are 9, at the number of whole samples
abbrev pub step_rules : Kind → ℕ → List ℕ → List Rule
step_rules from before src = rule 9 (step_samples from before src) (not (left_of from src == 0)) ∷ []

-- a lent buffer without room for the samples of the block is 9, at 0
abbrev pub buffer_rules : Kind → Kind → List ℕ → ℕ → List Rule
buffer_rules from to src room = rule 9 0 (nat_lt (room / bytes_of to) (count_of from src)) ∷ []

-- the block alone: the first sample that is refused decides
unfoldable pub block_answer : Kind → Kind → List ℕ → Outcome Success
block_answer from to src = row_answer (bits_to to) 0 (samples_of from src)

-- bytes left over decide; else an earlier refusal stays; without one the room decides, and then the samples
unfoldable pub step_answer : Kind → Kind → ℕ → Outcome Success → List ℕ → ℕ → Outcome Success
step_answer from to before answer src room =
    chain (step_rules from before src) (and_then answer (λ d. chain (buffer_rules from to src room) (placed_from before (block_answer from to src))))

-- the lent buffer at the end
unfoldable pub step_exit : Kind → Kind → ℕ → Outcome Success → List ℕ → List ℕ → List ℕ
step_exit from to before answer src old = lent_after (λ d. output_of from to src) (step_answer from to before answer src (length old)) old

-- the step of a run from one progress to the next: the samples, the answer, and the buffer for the output
abbrev pub StepTaken : Kind → Kind → Progress → List ℕ → List ℕ → List ℕ → Progress → Type 0
StepTaken from to s src old out next =
    (next.samples ≡ step_samples from s.samples src)
    × (rowed_outcome next.answer ≡ step_answer from to s.samples (rowed_outcome s.answer) src (length old))
    × (out ≡ step_exit from to s.samples (rowed_outcome s.answer) src old)

-- ---- rows

-- how many samples of a block go through a row at most
abbrev pub row_places : ℕ
row_places = 32768
