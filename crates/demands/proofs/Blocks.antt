-- Demand 1 for a block: a row whose places are moved on is the chain of its samples' rules at the moved places, and the block's own two rules stand
-- before it.
use Prim.Native.Nat.{ℕ, suc, ◌+◌}
use native.Mathlib.Nat.{add-zero, add-suc}
use mathlib.Core.Path.{◌≡◌, refl, sym, ◌∙◌, ap}
use mathlib.Core.Bool.{true, false}
use mathlib.Core.List.{List, [], ◌∷◌, map, map-append}
use Rattle.value.specs.declared.Kind.{Kind}
use Rattle.value.specs.Meaning.{bits_of}
use Rattle.value.specs.Outcome.{Outcome, gives, Success, done}
use Rattle.value.specs.Rules.{Rule, rule, chain, By, placed, each_of, numbers_of}
use Rattle.value.proofs.Outcomes.{refused_unchanged}
use Rattle.value.proofs.Rules.{by_same, chain_join}
use Rattle.convert.specs.Convert.{convert_rules, converted_to}
use Rattle.row.specs.Row.{sample_then, row_answer}
use Rattle.sample.specs.Samples.{samples_of}
use Rattle.sample.specs.Refusals.{bits_to}
use Rattle.block.specs.Migrate.{placed_from, step_rules, buffer_rules, block_answer, step_answer, step_exit}
use Rattle.block.proofs.Blocks.{left_over, earlier_stays, no_room}
use Rattle.demands.specs.Blocks.{place_counted, convert_each_rules, block_rules, OfBlocks}
use Rattle.demands.proofs.Demand1.{through}

-- ---- rows, their places moved on by n

sample_placed : {B : Type 0} (n at : ℕ) (rules : List Rule) (y : B) (rest : Outcome Success)
    → placed_from n (sample_then at (chain rules (gives y)) rest) ≡ chain (map place_counted (map (placed (n + at)) rules)) (placed_from n rest)
sample_placed n at [] y rest = refl
sample_placed n at (rule m p true ∷ rules) y rest = refl
sample_placed n at (rule m p false ∷ rules) y rest = sample_placed n at rules y rest

module _ {A B : Type 0} (conv : A → Outcome B) (rules : A → List Rule) (result : A → B) (h : (x : A) → conv x ≡ chain (rules x) (gives (result x))) where
  row_placed : (n at : ℕ) (row : List A) → placed_from n (row_answer conv at row) ≡ chain (map place_counted (each_of rules (n + at) row)) (gives done)
  unfolding row_answer each_of
  row_placed n at [] = refl
  row_placed n at (x ∷ xs) =
      let own = map (placed (n + at)) (rules x) in
      let rest = each_of rules (suc (n + at)) xs in
      ap (λ o. placed_from n (sample_then at o (row_answer conv (suc at) xs))) (h x)
      ∙ sample_placed n at (rules x) (result x) (row_answer conv (suc at) xs)
      ∙ ap (chain (map place_counted own)) (row_placed n (suc at) xs)
      ∙ ap (λ (k : ℕ). chain (map place_counted own) (chain (map place_counted (each_of rules k xs)) (gives done))) (add-suc n at)
      ∙ sym (chain_join (map place_counted own) (map place_counted rest) (gives done))
      ∙ ap (λ (rs : List Rule). chain rs (gives done)) (sym (map-append place_counted own rest))

samples_placed : (from to : Kind) (before : ℕ) (src : List ℕ)
    → placed_from before (block_answer from to src) ≡ chain (map place_counted (convert_each_rules to before (samples_of from src))) (gives done)
unfolding block_answer bits_to
samples_placed from to before src =
    row_placed (bits_to to) (λ v. convert_rules v to) (λ v. bits_of (converted_to v to)) (λ v. through bits_of v to) before 0 (samples_of from src)
    ∙ ap (λ (k : ℕ). chain (map place_counted (convert_each_rules to k (samples_of from src))) (gives done)) (add-zero before)

by_block : (from to : Kind) (before : ℕ) (src : List ℕ) (room : ℕ)
    → By (block_rules from to before src room) (step_answer from to before (gives done) src room)
unfolding step_answer
by_block from to before src room = by_same (block_rules from to before src room) done
    (ap (λ o. chain (step_rules from before src) (chain (buffer_rules from to src room) o)) (samples_placed from to before src))

-- ---- numbers

numbers_counted : (rules : List Rule) → numbers_of (map place_counted rules) ≡ numbers_of rules
unfolding numbers_of
numbers_counted [] = refl
numbers_counted (rule n p holds ∷ rules) = ap (λ (l : List ℕ). n ∷ l) (numbers_counted rules)

pub of_blocks : OfBlocks
unfolding step_exit numbers_of each_of
of_blocks = record {
  by_its_rules = by_block;
  in_order = λ from to before src room. ap (λ (l : List ℕ). 9 ∷ 9 ∷ l) (numbers_counted (convert_each_rules to before (samples_of from src)));
  no_room = no_room;
  left_first = left_over;
  earlier_stays = λ from to before n p src room none. earlier_stays from to before src room none n p;
  unchanged = λ from to before answer src old n p h. refused_unchanged _ old h;
}
