-- The blocks decide as the whole: after each block that ends at a whole sample, a run stands where the bytes so far put it.
use Rattle.std.proofs.Common.{◌≡◌, ℕ, ◌+◌, ◌/◌, ◌^◌, ◌<◌, ◌≤◌, Bool, not, List, [], ◌++◌, length, sym, refl, ap, ◌∙◌, subst, inl, inr, append_assoc}
use Rattle.std.proofs.Common.{append-nil, add-zero, mod-eq_of_lt, zero-add, arith, length-append, eq-eqb, ne_eqb}
use native.Mathlib.Nat.{zero-div, zero-mod}
use Rattle.float.proofs.Naturals.{lt_or_ge}
use Rattle.float.proofs.Tests.{clash}
use Rattle.value.specs.declared.Kind.{Kind}
use Rattle.value.specs.Outcome.{Outcome, gives, refuses, refuse_if, and_then, mapped, Success, done}
use Rattle.row.specs.Row.{row_answer, row_results}
use Rattle.value.specs.Kinds.{bytes_of}
use Rattle.sample.specs.Samples.{count_of, left_of, samples_of, counted, joined}
use Rattle.sample.specs.Refusals.{bits_to, answer_of}
use Rattle.sample.proofs.Samplings.{length_samples}
use Rattle.sample.proofs.Joining.{count_joined, left_joined, samples_of_joined, small, no_samples}
use Rattle.block.specs.Output.{bytes_for}
use Rattle.block.specs.Migrate.{output_of, migrate_of, placed_from, block_answer, step_samples, step_answer}
use Rattle.block.specs.Theorem.{Blocks, none, last, more, Reached, written_by, stepped, run_of, start, BlocksDecide}
use Rattle.block.proofs.Blocks.{left_over, past_room}
use Rattle.block.proofs.Joining.{answer_joined, answer_placed, output_joined}

-- what a result was put together from
given_before : (o : Outcome Success) (f : Success → Outcome Success) → and_then o f ≡ gives done → o ≡ gives done
given_before (gives done) f h = refl
given_before (refuses m p) f h = clash cc

same_result : {A : Type 0} (o : Outcome Success) {a b : A} → (o ≡ gives done → a ≡ b) → mapped (λ d. a) o ≡ mapped (λ d. b) o
same_result (gives done) h = ap gives (h refl)
same_result (refuses m p) h = refl

module _ (from to : Kind) (room : ℕ) where
  record Stands (r : Reached) (p : List ℕ) : Type 0 where
    whole : left_of from p ≡ 0
    count : r.samples ≡ count_of from p
    decided : r.answer ≡ row_answer (bits_to to) 0 (samples_of from p)
    laid : r.answer ≡ gives done → r.output ≡ output_of from to p

  abbrev Decides : Reached → List ℕ → Type 0
  Decides r p = (r.samples ≡ count_of from p) × (mapped (λ d. r.output) r.answer ≡ migrate_of from to p)

  module _ (r : Reached) (p b : List ℕ) (st : Stands r p) (short : length (p ++ b) < 2 ^ 64) where
    sum_count : r.samples + count_of from b ≡ count_of from (p ++ b)
    sum_count = ap (λ (n : ℕ). n + count_of from b) st.count ∙ sym (count_joined from p b st.whole)

    step_counted : step_samples from r.samples b ≡ count_of from (p ++ b)
    unfolding step_samples
    step_counted = ap counted sum_count ∙ mod-eq_of_lt (small from (p ++ b) short)

    module _ (fits : count_of from b ≤ room / bytes_of to) (ends : left_of from b ≡ 0) where
      placed : placed_from r.samples (block_answer from to b) ≡ row_answer (bits_to to) (0 + length (samples_of from p)) (samples_of from b)
      unfolding block_answer
      placed =
          let n : r.samples + 0 ≡ 0 + length (samples_of from p) =
          add-zero r.samples ∙ st.count ∙ sym (zero-add (length (samples_of from p)) ∙ length_samples from (count_of from p) p) in
          let few : r.samples + 0 + length (samples_of from b) < 2 ^ 64 =
          rw (add-zero r.samples, length_samples from (count_of from b) b, sum_count) (small from (p ++ b) short) in
          sym (answer_placed (bits_to to) r.samples 0 (samples_of from b) few)
          ∙ ap (λ (k : ℕ). row_answer (bits_to to) k (samples_of from b)) n

      step_parts : step_answer from to r.samples r.answer b room ≡ and_then r.answer (λ d. placed_from r.samples (block_answer from to b))
      step_parts = past_room from to r.samples r.answer b room ends fits

      step_decided : step_answer from to r.samples r.answer b room ≡ row_answer (bits_to to) 0 (samples_of from (p ++ b))
      step_decided =
          step_parts
          ∙ ap (λ o. and_then r.answer (λ d. o)) placed
          ∙ ap (λ o. and_then o (λ d. row_answer (bits_to to) (0 + length (samples_of from p)) (samples_of from b))) st.decided
          ∙ sym (answer_joined (bits_to to) 0 (samples_of from p) (samples_of from b))
          ∙ ap (row_answer (bits_to to) 0) (sym (samples_of_joined from p b st.whole))

      step_laid : step_answer from to r.samples r.answer b room ≡ gives done
          → r.output ++ written_by (step_answer from to r.samples r.answer b room) (output_of from to b) ≡ output_of from to (p ++ b)
      step_laid h =
          let before = given_before r.answer (λ d. placed_from r.samples (block_answer from to b)) (sym step_parts ∙ h) in
          ap (λ o. r.output ++ written_by o (output_of from to b)) h
          ∙ ap (λ (l : List ℕ). l ++ output_of from to b) (st.laid before)
          ∙ sym (output_joined from to p b st.whole)

      step_stands : Stands (stepped from to room r b) (p ++ b)
      step_stands = record {
        whole = left_joined from p b st.whole ∙ ends;
        count = step_counted;
        decided = step_decided;
        laid = step_laid;
      }

    -- a last block with bytes left over
    step_left : (left_of from b ≡ 0 → ⊥) → Decides (stepped from to room r b) (p ++ b)
    unfolding migrate_of answer_of
    step_left h =
        let left : left_of from (p ++ b) ≡ 0 → ⊥ = λ q. h (sym (left_joined from p b st.whole) ∙ q) in
        let o : step_answer from to r.samples r.answer b room ≡ refuses 9 (count_of from (p ++ b)) =
        left_over from to r.samples r.answer b room h ∙ ap (refuses 9) step_counted in (
          step_counted,
          ap (mapped (λ d. (stepped from to room r b).output)) o
              ∙ sym (ap (λ (t : Bool). mapped (λ d. output_of from to (p ++ b))
              (refuse_if (not t) 9 (count_of from (p ++ b)) (row_answer (bits_to to) 0 (samples_of from (p ++ b))))) (ne_eqb (left_of from (p ++ b)) 0 left)),
        )

  stands_decides : (r : Reached) (p : List ℕ) → Stands r p → Decides r p
  unfolding migrate_of answer_of
  stands_decides r p st = (
    st.count,
    same_result r.answer st.laid
        ∙ ap (mapped (λ d. output_of from to p)) st.decided
        ∙ sym (ap (λ (t : Bool). mapped (λ d. output_of from to p)
        (refuse_if (not t) 9 (count_of from p) (row_answer (bits_to to) 0 (samples_of from p)))) (eq-eqb (left_of from p) 0 st.whole)),
  )

  decides_last : (r : Reached) (p b : List ℕ) → Stands r p → count_of from b ≤ room / bytes_of to → length (p ++ b) < 2 ^ 64
      → Decides (stepped from to room r b) (p ++ b)
  decides_last r p b st fits short = elim (lt_or_ge 0 (left_of from b)) [
    | inl h ↦ step_left r p b st short (λ q. omega arith)
    | inr h ↦ stands_decides (stepped from to room r b) (p ++ b) (step_stands r p b st short fits (omega arith))
  ]

  shorter : (p q : List ℕ) → length (p ++ q) < 2 ^ 64 → length p < 2 ^ 64
  shorter p q h = let l = length-append p q in omega arith

  run_decides : {bs : List (List ℕ)} → Blocks from to room bs → (r : Reached) (p : List ℕ) → Stands r p
      → length (p ++ joined bs) < 2 ^ 64 → Decides (run_of from to room r bs) (p ++ joined bs)
  run_decides none r p st h = subst (Decides r) (sym (append-nil p)) (stands_decides r p st)
  run_decides (last b fits) r p st h =
      let e : p ++ (b ++ []) ≡ p ++ b = ap (λ (l : List ℕ). p ++ l) (append-nil b) in
      subst (Decides (stepped from to room r b)) (sym e) (decides_last r p b st fits (subst (λ (l : List ℕ). length l < 2 ^ 64) e h))
  run_decides (more b bs fits ends rest) r p st h =
      let e : (p ++ b) ++ joined bs ≡ p ++ (b ++ joined bs) = append_assoc p b (joined bs) in
      let short : length ((p ++ b) ++ joined bs) < 2 ^ 64 = subst (λ (l : List ℕ). length l < 2 ^ 64) (sym e) h in
      subst (Decides (run_of from to room (stepped from to room r b) bs)) e
      (run_decides rest (stepped from to room r b) (p ++ b) (step_stands r p b st (shorter (p ++ b) (joined bs) short) fits ends) short)

  start_decided : gives done ≡ row_answer (bits_to to) 0 (samples_of from [])
  unfolding row_answer
  start_decided = sym (ap (row_answer (bits_to to) 0) (no_samples from))

  start_laid : [] ≡ output_of from to []
  unfolding output_of row_results bytes_for
  start_laid = sym (ap (λ s. bytes_for to (row_results (bits_to to) s)) (no_samples from))

  start_stands : Stands start []
  start_stands = record {
    whole = zero-mod (bytes_of from);
    count = sym (zero-div (bytes_of from));
    decided = start_decided;
    laid = λ q. start_laid;
  }

pub blocks_decide : BlocksDecide
blocks_decide from to room bs blocks short = run_decides from to room blocks start [] (start_stands from to room) short
