-- Demand 1 for a block of a migration: `convert_block` goes by its rules, an earlier refusal stays, and a refused block leaves the lent buffer as it
-- was. RULES.md: Migration, Refusals.
use Rattle.std.specs.Prelude.{ℕ, ◌/◌, ◌<◌, ◌≡◌, List, ◌∷◌, ◌++◌, map, length}
use Rattle.value.specs.declared.Kind.{Kind}
use Rattle.value.specs.declared.Value.{Value}
use Rattle.value.specs.Kinds.{bytes_of}
use Rattle.value.specs.Outcome.{Outcome, gives, refuses, Success, done}
use Rattle.value.specs.Rules.{Rule, rule, By, each_of, numbers_of}
use Rattle.convert.specs.Convert.{convert_rules}
use Rattle.sample.specs.Samples.{count_of, left_of, samples_of, counted}
use Rattle.block.specs.Migrate.{step_samples, step_rules, buffer_rules, step_answer, step_exit}

-- ---- the rules of a block

-- a rule with its place as a machine number; no input has 2^64 samples
abbrev pub place_counted : Rule → Rule
place_counted (rule n p holds) = rule n (counted p) holds

-- the rules of each sample's conversion, from the index `at` on
abbrev pub convert_each_rules : Kind → ℕ → List Value → List Rule
convert_each_rules to at samples = each_of (λ v. convert_rules v to) at samples

-- 9 for bytes left over, 9 for a lent buffer without room, then the rules of each sample, whose index is that in the whole input
abbrev pub block_rules : Kind → Kind → ℕ → List ℕ → ℕ → List Rule
block_rules from to before src room =
    step_rules from before src ++ buffer_rules from to src room ++ map place_counted (convert_each_rules to before (samples_of from src))

-- ---- the demand

-- a block behind `before` samples, which were answered with `answer`, and a lent buffer of `room` bytes
pub record OfBlocks : Type 0 where
  -- behind samples that were accepted
  pub by_its_rules : (from to : Kind) (before : ℕ) (src : List ℕ) (room : ℕ)
      → By (block_rules from to before src room) (step_answer from to before (gives done) src room)
  pub in_order : (from to : Kind) (before : ℕ) (src : List ℕ) (room : ℕ)
      → numbers_of (block_rules from to before src room) ≡ 9 ∷ 9 ∷ numbers_of (convert_each_rules to before (samples_of from src))
  pub no_room : (from to : Kind) (before : ℕ) (src : List ℕ) (room : ℕ) → left_of from src ≡ 0 → room / bytes_of to < count_of from src
      → step_answer from to before (gives done) src room ≡ refuses 9 0
  -- whatever the samples before were answered
  pub left_first : (from to : Kind) (before : ℕ) (answer : Outcome Success) (src : List ℕ) (room : ℕ) → (left_of from src ≡ 0 → ⊥)
      → step_answer from to before answer src room ≡ refuses 9 (step_samples from before src)
  pub earlier_stays : (from to : Kind) (before n p : ℕ) (src : List ℕ) (room : ℕ) → left_of from src ≡ 0
      → step_answer from to before (refuses n p) src room ≡ refuses n p
  pub unchanged : (from to : Kind) (before : ℕ) (answer : Outcome Success) (src old : List ℕ) (n p : ℕ)
      → step_answer from to before answer src (length old) ≡ refuses n p → step_exit from to before answer src old ≡ old
