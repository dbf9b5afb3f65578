-- What a run answers, hands to a write and tells of a refused sample, and what a report tells, is what all blocks that it took come to as a whole.
use Prim.Native.Nat.{ℕ, ◌*◌, ◌/◌, ◌%◌, ◌^◌, ◌≤◌, ◌<◌}
use native.Mathlib.Nat.{le-div_iff_mul-le, zero-mod}
use native.Mathlib.Omega.{arith}
use mathlib.Core.Bool.{Bool, true, false, not}
use mathlib.Core.List.{List, [], ◌∷◌, ◌++◌, append_assoc, append-nil}
use mathlib.Core.Path.{◌≡◌, refl, sym, ◌∙◌, ap, subst}
use borrow.Author.Tests.{eqb-true}
use lib.Dec.{eqb, ltb}
use lib.ListN.{length, take, drop, length-append}
use lib.Seq.{take_at}
use Rattle.float.proofs.Tests.{clash}
use Rattle.value.specs.declared.Kind.{Kind}
use Rattle.value.specs.Kinds.{bytes_of}
use Rattle.value.specs.Outcome.{Outcome, gives, refuses, refuse_if, and_then, mapped, Success, done, lent_after}
use Rattle.value.proofs.Widths.{bytes_range}
use Rattle.row.specs.Row.{rowed_outcome, row_answer, row_results}
use Rattle.sample.specs.Samples as whole
use Rattle.sample.specs.Samples.{count_of, left_of, samples_of, joined}
use Rattle.sample.specs.Refusals.{bits_to, answer_of}
use Rattle.sample.proofs.Samplings.{length_samples}
use Rattle.sample.proofs.Joining.{left_joined}
use Rattle.block.specs.Migrate.{output_of, migrate_of, placed_from, block_answer, step_samples, step_answer, step_exit}
use Rattle.block.specs.Theorem.{Blocks, none, last, more, Reached, written_by, stepped, run_of, start}
use Rattle.block.proofs.Samplings.{length_bytes}
use Rattle.row.proofs.Rows.{results_length}
use Rattle.block.proofs.Whole.{blocks_decide}
use Rattle.look.specs.declared.Seen.{Seen}
use Rattle.look.specs.Report.{nothing_seen, look_of}
use Rattle.look.specs.ReportTheorem.{looked_at, Tells}
use Rattle.look.proofs.Looked.{looks_decide}
use Rattle.migration.specs.declared.blocks.Fault.{Fault}
use Rattle.std.specs.Prelude.{Option, None}
use Rattle.migration.specs.declared.blocks.State.{State}
use Rattle.migration.specs.Sizes.{buffer_bytes, block_bytes}
use Rattle.migration.specs.Turns.{turns_left}
use Rattle.migration.specs.Steps.{MovedOn}
use Rattle.migration.specs.Runs.{Moving, handed, MovesBlock, MoveFails, Ran, refused_sample, RunDecides, LookDecides}
use Rattle.migration.proofs.Sizes.{block_room, fewer_room}
use Rattle.migration.proofs.Places.{told_next}
use Rattle.input.specs.Chain.{begins, takes, fails}
use Rattle.input.proofs.Chains.{built_up, shape, folded, leads}

-- ---- a block

-- a run goes on only behind a full block
full_before : (turns : ℕ) (full : Bool) (fault : Option Fault) → 0 < turns_left turns full fault → full ≡ true
full_before turns true fault h = refl
full_before turns false fault h = absurd (omega (arith, h))

-- which has whole samples
ends_whole : (from to : Kind) (block : List ℕ) (left turns : ℕ) (fault : Option Fault)
    → left ≡ turns_left turns (eqb (length block) (block_bytes from to)) fault → 0 < left → left_of from block ≡ 0
ends_whole from to block left turns fault q h =
    let full = full_before turns (eqb (length block) (block_bytes from to)) fault (subst (λ (t : ℕ). 0 < t) q h) in
    ap (λ (n : ℕ). n % bytes_of from) (eqb-true _ _ full) ∙ (block_room from to).0

-- what a step's answer was put together from
given_inside : (t u : Bool) (n p : ℕ) (o x : Outcome Success)
    → refuse_if t 9 p (and_then o (λ d. refuse_if u 9 0 (placed_from n x))) ≡ gives done → x ≡ gives done
given_inside false false n p (gives done) (gives done) h = refl
given_inside false false n p (gives done) (refuses m q) h = clash cc
given_inside false true n p (gives done) x h = clash cc
given_inside false u n p (refuses m q) x h = clash cc
given_inside true u n p o x h = clash cc

-- the front of the buffer is the output
front : (o : Outcome Success) (output old : List ℕ) (k : ℕ) → (o ≡ gives done → length output ≡ k)
    → written_by o output ≡ written_by o (take k (lent_after (λ (d : Success). output) o old))
front (gives done) output old k h = sym (take_at output (drop (length output) old) k (h refl))
front (refuses m p) output old k h = refl

same_reached : {n m : ℕ} {a b : Outcome Success} {x y : List ℕ} → n ≡ m → a ≡ b → x ≡ y
    → ◌≡◌ {A = Reached} (record { samples = n; answer = a; output = x }) (record { samples = m; answer = b; output = y })
same_reached p q r = rw (p, q, r) refl

module _ (from to : Kind) where
  fits : (block : List ℕ) → length block ≤ block_bytes from to → count_of from block ≤ buffer_bytes / bytes_of to
  fits block small = (le-div_iff_mul-le (bytes_range to).0).1
      (fewer_room (length block) (block_bytes from to) (bytes_of from) (bytes_of to) (bytes_range from).0 small (block_room from to).1)

  output_length : (block : List ℕ) (n room : ℕ) (o : Outcome Success) → step_answer from to n o block room ≡ gives done
      → length (output_of from to block) ≡ count_of from block * bytes_of to
  unfolding step_answer block_answer output_of
  output_length block n room o h =
      let given : row_answer (bits_to to) 0 (samples_of from block) ≡ gives done =
      given_inside (not (eqb (left_of from block) 0)) (ltb (room / bytes_of to) (count_of from block)) n (step_samples from n block) o _ h in
      length_bytes to (row_results (bits_to to) (samples_of from block))
      ∙ ap (λ (m : ℕ). m * bytes_of to) (results_length (bits_to to) 0 (samples_of from block) given ∙ length_samples from (count_of from block) block)

  -- the step of a block, as the turn took it
  module _ (s next : State) (block old out : List ℕ) (moved : MovedOn from to s block old out next) where
    abbrev answered : Outcome Success
    answered = step_answer from to s.progress.samples (rowed_outcome s.progress.answer) block buffer_bytes

    answer : answered ≡ rowed_outcome next.progress.answer
    answer = sym (moved.1.1 ∙ ap (step_answer from to s.progress.samples (rowed_outcome s.progress.answer) block) moved.0)

    left_in : out ≡ lent_after (λ d. output_of from to block) answered old
    unfolding step_exit
    left_in = moved.1.2
        ∙ ap (λ (n : ℕ). lent_after (λ d. output_of from to block)
        (step_answer from to s.progress.samples (rowed_outcome s.progress.answer) block n) old) moved.0

    output : written_by answered (output_of from to block) ≡ handed from to block out next.progress.answer
    output =
        front answered (output_of from to block) old (count_of from block * bytes_of to)
        (output_length block s.progress.samples buffer_bytes (rowed_outcome s.progress.answer))
        ∙ ap (λ (l : List ℕ). written_by answered (take (count_of from block * bytes_of to) l)) (sym left_in)
        ∙ ap (λ (o : Outcome Success). written_by o (take (count_of from block * bytes_of to) out)) answer

  -- ---- a move

  -- where it stands, as the theorem on blocks says it
  abbrev standing : Moving → Reached
  standing m = record { samples = m.state.progress.samples; answer = rowed_outcome m.state.progress.answer; output = m.written }

  step_stands : (m next : Moving) (b : List ℕ) → MovesBlock from to m b next → stepped from to buffer_bytes (standing m) b ≡ standing next
  step_stands m next b (small, old, out, moved, behind) =
      same_reached (sym moved.1.0) (answer m.state next.state b old out moved)
      (ap (λ (l : List ℕ). m.written ++ l) (output m.state next.state b old out moved) ∙ sym behind)

  fail_stands : (m next : Moving) → MoveFails m next → standing m ≡ standing next
  fail_stands m next (failed, same) = same_reached (ap (λ p. p.samples) (sym failed.0)) (ap (λ p. rowed_outcome p.answer) (sym failed.0)) (sym same)

  run_folded : (bs : List (List ℕ)) (r : Reached) → folded (stepped from to buffer_bytes) r bs ≡ run_of from to buffer_bytes r bs
  run_folded [] r = refl
  run_folded (b ∷ bs) r = run_folded bs (stepped from to buffer_bytes r b)

  -- ---- a report

  looked_folded : (bs : List (List ℕ)) (s : Seen) → folded (look_of from to) s bs ≡ looked_at from to s bs
  looked_folded [] s = refl
  looked_folded (b ∷ bs) s = looked_folded bs (look_of from to s b)

-- ---- the theorems

run_answers : (from to : Kind) (bs : List (List ℕ)) (m : Moving) → Ran from to bs m → length (joined bs) < 2 ^ 64
    → (m.state.progress.samples ≡ count_of from (joined bs))
    × (mapped (λ d. m.written) (rowed_outcome m.state.progress.answer) ≡ migrate_of from to (joined bs))
run_answers from to bs m ran short =
    let shaped = built_up {R = Blocks from to buffer_bytes} none last more
    (shape (λ s next b t. fits from to b t.0)
    (λ s next b t h. ends_whole from to b next.state.turns s.state.turns next.state.fault t.3.4 h) (λ s next f. f.0.3) ran) in
    let led : run_of from to buffer_bytes start bs ≡ standing from to m =
    sym (run_folded from to bs start) ∙ leads (stepped from to buffer_bytes) (standing from to) (step_stands from to) (fail_stands from to) ran in
    subst (λ (x : Reached). (x.samples ≡ count_of from (joined bs)) × (mapped (λ d. x.output) x.answer ≡ migrate_of from to (joined bs))) led
    (blocks_decide from to buffer_bytes bs shaped short)

-- whatever is given
same_answer : {A : Type 0} (x y : A) (o r : Outcome Success) → mapped (λ d. x) o ≡ mapped (λ d. y) r → o ≡ r
same_answer x y (gives done) (gives done) h = refl
same_answer x y (gives done) (refuses n q) h = clash cc
same_answer x y (refuses n q) (gives done) h = clash cc
same_answer x y (refuses n q) (refuses m p) h = cc

joined_last : (bs : List (List ℕ)) (b : List ℕ) → joined (bs ++ (b ∷ [])) ≡ joined bs ++ b
joined_last [] b = append-nil b
joined_last (c ∷ bs) b = ap (λ (l : List ℕ). c ++ l) (joined_last bs b) ∙ sym (append_assoc c (joined bs) b)

shorter : (p b : List ℕ) → length (p ++ b) < 2 ^ 64 → length p < 2 ^ 64
shorter p b h = let l = length-append p b in omega arith

module _ (from to : Kind) where
  run_answer : {bs : List (List ℕ)} {m : Moving} → Ran from to bs m → length (joined bs) < 2 ^ 64
      → rowed_outcome m.state.progress.answer ≡ answer_of from to (joined bs)
  unfolding migrate_of
  run_answer {bs} {m} ran short =
      same_answer m.written (output_of from to (joined bs)) (rowed_outcome m.state.progress.answer) (answer_of from to (joined bs))
      (run_answers from to bs m ran short).1

  -- while turns are left, there are whole samples only
  whole_yet : {bs : List (List ℕ)} {m : Moving} → Ran from to bs m → 0 < m.state.turns → left_of from (joined bs) ≡ 0
  whole_yet begins h = zero-mod (bytes_of from)
  whole_yet (takes bs s next b ran some t) h =
      ap (left_of from) (joined_last bs b)
      ∙ left_joined from (joined bs) b (whole_yet ran some)
      ∙ ends_whole from to b next.state.turns s.state.turns next.state.fault t.3.4 h
  whole_yet (fails bs s next ran some f) h = absurd (omega (arith, h, f.0.3))

  run_tells : {bs : List (List ℕ)} {m : Moving} → Ran from to bs m → length (joined bs) < 2 ^ 64
      → m.state.sample ≡ refused_sample from (joined bs) (rowed_outcome m.state.progress.answer)
  run_tells begins short = refl
  run_tells (takes bs s next b ran some t) short =
      let behind = joined_last bs b in
      let before = shorter (joined bs) b (subst (λ (l : List ℕ). length l < 2 ^ 64) behind short) in
      subst (λ (l : List ℕ). next.state.sample ≡ refused_sample from l (rowed_outcome next.state.progress.answer)) (sym behind)
      (t.3.2
      ∙ told_next from to (joined bs) b (whole_yet ran some) (run_tells ran before) (run_answers from to bs s ran before).0 (run_answer ran before)
      (run_answer (takes bs s next b ran some t) short ∙ ap (answer_of from to) behind))
  run_tells (fails bs s next ran some f) short =
      f.0.1 ∙ run_tells ran short ∙ ap (λ p. refused_sample from (joined bs) (rowed_outcome p.answer)) (sym f.0.0)

pub run_decides : RunDecides
run_decides from to bs m ran short =
    let answers = run_answers from to bs m ran short in
    (answers.0, answers.1, run_tells from to ran short)

pub look_decides : LookDecides
look_decides from to bs r looked short =
    let shaped = built_up {R = whole.WholeBlocks from} whole.none (λ b p. whole.last b) (λ b bs p. whole.more b bs)
    (shape {P = λ b. Unit {0}} (λ s next b t. tt)
    (λ s next b t h. ends_whole from from b next.turns s.turns None t.1.2 h) (λ s next f. f.2) looked) in
    let led : look_of from to nothing_seen (joined bs) ≡ r.seen =
    sym (looks_decide from to bs shaped short).0
    ∙ sym (looked_folded from to bs nothing_seen)
    ∙ leads (look_of from to) (λ s. s.seen) (λ s next b t. sym t.1.0) (λ s next f. sym f.0) looked in
    subst (Tells from to (joined bs)) led (looks_decide from to bs shaped short).1
