-- What one sample, a block and a step answer and leave, by what the passes found.
use Rattle.std.proofs.Common.{◌≡◌, ℕ, suc, ◌+◌, ◌*◌, ◌/◌, ◌%◌, ◌^◌, ◌<◌, ◌≤◌, Bool, true, false, List, [], ◌∷◌, ◌++◌, map, length, get_or, drop, sym}
use Rattle.std.proofs.Common.{refl, ap, ◌∙◌, subst, true≢false, zero-add, arith, le-ltb, lt-ltb, eq-eqb, ne_eqb}
use lib.ListN.{length-map}
use lib.Seq.{sets, sets-eq}
use Rattle.std.specs.Prelude.{Result, Ok, Err, MatchResult, IsErrAnd}
use Rattle.std.proofs.lemmas.Result.{err_from_is_err_and}
use Rattle.float.proofs.Tests.{clash}
use Rattle.value.specs.declared.Kind.{Kind}
use Rattle.value.specs.declared.Refusal.{Refusal}
use Rattle.value.specs.declared.Value.{Value}
use Rattle.value.specs.Meaning.{bits_of, value_of}
use Rattle.value.specs.Outcome.{Outcome, gives, refuses, refuse_if, refusal_of, outcome_of, and_then, Success, done, lent_after}
use Rattle.value.specs.Rules.{chain}
use Rattle.value.proofs.Outcomes.{refused_unchanged}
use Rattle.row.specs.Row.{rowed_outcome, row_answer, row_results, sample_then, sample_before, first}
use Rattle.row.proofs.Scan.{first_all, first_hit}
use Rattle.row.proofs.Rows.{row_refused, row_done}
use Rattle.value.specs.Kinds.{bytes_of}
use Rattle.sample.specs.Samples.{count_of, left_of, samples_of, sample_at}
use Rattle.sample.specs.Refusals.{bits_to, is_refused, refusal_number, refused_to}
use Rattle.convert.specs.Convert.{convert_of}
use Rattle.sample.proofs.Refusals.{sample_given, sample_refused}
use Rattle.sample.proofs.Samplings.{length_samples}
use Rattle.block.specs.Output.{bytes_for}
use Rattle.block.specs.Migrate.{output_of, placed_from, step_samples, buffer_rules, block_answer, step_answer, step_exit}
use Rattle.block.specs.Inner.{block_exit, given_bits, moved_bits}
use Rattle.block.proofs.Samplings.{room_inside, length_bytes}

-- ---- answers of the code

-- what a `?` passes on is the same refusal
pub passed_row : (r : Result (Unit {0}) Refusal) (f : Refusal) → IsErrAnd r (λ g. g ≡ f) → rowed_outcome r ≡ refusal_of f
passed_row r f h =
    let p = err_from_is_err_and r h in
    ap rowed_outcome p.1 ∙ ap refusal_of p.2

-- a refusal of the block is one of the whole, at its place there
pub placed_is : (before : ℕ) (r s : Result (Unit {0}) Refusal) {P : Refusal → Refusal → Type 0}
    → ((e f : Refusal) → P e f → refusal_of f ≡ placed_from before (refusal_of e))
    → MatchResult r (λ u. s ≡ Ok u) (λ e. IsErrAnd s (P e)) → rowed_outcome s ≡ placed_from before (rowed_outcome r)
placed_is before (Ok u) s h m = ap rowed_outcome m
placed_is before (Err e) s h m =
    let p = err_from_is_err_and s m in
    ap rowed_outcome p.1 ∙ h e p.0 p.2

-- ---- one sample

given_bits_lem : (o : Outcome ℕ) → is_refused o ≡ false → o ≡ gives (given_bits o)
given_bits_lem (gives b) h = refl
given_bits_lem (refuses m p) h = absurd (true≢false h)

refused_number : (o : Outcome ℕ) → is_refused o ≡ true → (p : ℕ) × (o ≡ refuses (refusal_number o) p)
refused_number (gives b) h = absurd (true≢false (sym h))
refused_number (refuses m p) h = (p, refl)

-- of a sample that was converted
pub refused_here : (to : Kind) (v : Value) {r : Result Value Refusal} → outcome_of r ≡ convert_of v to → {f : Refusal} → r ≡ Err f
    → bits_to to v ≡ refusal_of f
refused_here to v answered q = sample_refused to v (sym (ap outcome_of q) ∙ answered)

pub given_here : (to : Kind) (v : Value) {r : Result Value Refusal} → outcome_of r ≡ convert_of v to → {w : Value} → r ≡ Ok w
    → bits_to to v ≡ gives (bits_of w)
given_here to v answered q = sample_given to v (sym (ap outcome_of q) ∙ answered)

pub bits_are : (to : Kind) (v : Value) (r : Result Value Refusal) {n : ℕ} {P : Value → Type 0} → ((w : Value) → P w → n ≡ bits_of w)
    → MatchResult r P (λ f. n ≡ 0) → outcome_of r ≡ convert_of v to → n ≡ given_bits (bits_to to v)
bits_are to v (Ok w) h m answered = h w m ∙ sym (ap given_bits (given_here to v answered refl))
bits_are to v (Err f) h m answered = m ∙ sym (ap given_bits (refused_here to v answered refl))

-- where no sample is refused the results are the conversions
all_moved : (to : Kind) (at : ℕ) (vs : List Value) → row_answer (bits_to to) at vs ≡ gives done → row_results (bits_to to) vs ≡ map (moved_bits to) vs
unfolding row_answer row_results
all_moved to at [] h = refl
all_moved to at (v ∷ vs) h = go (bits_to to v) h (all_moved to (suc at) vs)
  where
    go : (o : Outcome ℕ) → sample_then at o (row_answer (bits_to to) (suc at) vs) ≡ gives done
        → (row_answer (bits_to to) (suc at) vs ≡ gives done → row_results (bits_to to) vs ≡ map (moved_bits to) vs)
        → sample_before o (row_results (bits_to to) vs) ≡ given_bits o ∷ map (moved_bits to) vs
    go (gives b) k r = ap (λ (l : List ℕ). b ∷ l) (r k)
    go (refuses m p) k r = clash cc

-- ---- a scan of a block that came to i

module _ (from to : Kind) (src : List ℕ) {i : ℕ} (i-is : i ≡ first (refused_to to) (samples_of from src)) where
  count_is : length (samples_of from src) ≡ count_of from src
  count_is = length_samples from (count_of from src) src

  pub sample_bad : i < count_of from src → {m : ℕ} → m ≡ refusal_number (bits_to to (sample_at from src i)) → refuses m i ≡ block_answer from to src
  unfolding block_answer
  sample_bad h {m} q =
      let vs = samples_of from src in
      let l : i < length vs = omega (arith, count_is) in
      let hit = first_hit (refused_to to) vs i (value_of from 0) i-is l in
      let bad = refused_number (bits_to to (get_or vs i (value_of from 0))) hit in
      let at : bits_to to (get_or vs (first (refused_to to) vs) (value_of from 0)) ≡ refuses m bad.0 =
      ap (λ (j : ℕ). bits_to to (get_or vs j (value_of from 0))) (sym i-is) ∙ bad.1 ∙ ap (λ (k : ℕ). refuses k bad.0) (sym q) in
      let r = row_refused (bits_to to) (refused_to to) (moved_bits to) (λ v. Unit {0}) (value_of from 0)
      (λ v u t. given_bits_lem (bits_to to v) t) m bad.0 0 vs (λ j k. tt) (omega arith) at in
      sym (r ∙ ap (λ (j : ℕ). refuses m j) (zero-add (first (refused_to to) vs) ∙ sym i-is))

  pub samples_good : count_of from src ≤ i → gives done ≡ block_answer from to src
  unfolding block_answer
  samples_good h =
      let vs = samples_of from src in
      let all = first_all (refused_to to) vs i i-is (omega (arith, count_is)) in
      sym (row_done (bits_to to) (refused_to to) (moved_bits to) (λ v. Unit {0}) (value_of from 0)
      (λ v u t. given_bits_lem (bits_to to v) t) 0 vs (λ j k. tt) all).0

-- ---- a block

module _ (from to : Kind) (src old : List ℕ) where
  abbrev samples : List Value
  samples = samples_of from src

  abbrev pub BlockAnswers : Outcome Success → List ℕ → Type 0
  BlockAnswers answer left = (answer ≡ block_answer from to src) × (left ≡ block_exit from to src old)

  pub block_refused : {m p : ℕ} → refuses m p ≡ block_answer from to src → BlockAnswers (refuses m p) old
  unfolding block_exit
  block_refused q = (q, sym (refused_unchanged (λ (d : Success). output_of from to src) old (sym q)))

  -- what a block without a refusal leaves
  pub block_output : (rs : List ℕ) → count_of from src ≤ length old / bytes_of to
      → gives done ≡ block_answer from to src → row_results (bits_to to) samples ≡ rs → length rs ≡ count_of from src
      → {now : List ℕ} → now ≡ sets old 0 (bytes_for to rs) → BlockAnswers (gives done) now
  unfolding block_exit output_of
  block_output rs room o r many {now} q =
      let out = bytes_for to rs in
      let size : length out ≡ count_of from src * bytes_of to = length_bytes to rs ∙ ap (λ (m : ℕ). m * bytes_of to) many in
      let fits : 0 + length out ≤ length old = rw (zero-add (length out), size) (room_inside to room) in
      let laid : now ≡ out ++ drop (length out) old = q ∙ sets-eq out old 0 fits ∙ ap (λ (m : ℕ). out ++ drop m old) (zero-add (length out)) in (
        o,
        laid ∙ ap (λ (l : List ℕ). l ++ drop (length l) old) (ap (bytes_for to) (sym r))
            ∙ ap (λ a. lent_after (λ (d : Success). bytes_for to (row_results (bits_to to) samples)) a old) o,
      )

  -- every sample was accepted, and its conversion is laid down
  pub block_done : count_of from src ≤ length old / bytes_of to → gives done ≡ block_answer from to src
      → {now : List ℕ} → now ≡ sets old 0 (bytes_for to (map (moved_bits to) samples)) → BlockAnswers (gives done) now
  unfolding block_answer
  block_done room accepted {now} q =
      block_output (map (moved_bits to) samples) room accepted (all_moved to 0 samples (sym accepted))
      (length-map samples (moved_bits to) ∙ length_samples from (count_of from src) src) q

-- the counts that the code asked for
pub shorter : (l : ℕ) {m n v y : ℕ} → m ≡ n → v ≡ y → l / v < m → l / y < n
shorter l p q h = rw (← p, ← q) h

pub enough : (l n : ℕ) {v y : ℕ} → v ≡ y → n ≤ l / v → n ≤ l / y
enough l n q h = rw (← q) h

-- ---- a step

same_left : (n : ℕ) (o : Outcome Success) (output old : List ℕ)
    → lent_after (λ (d : Success). output) (placed_from n o) old ≡ lent_after (λ (d : Success). output) o old
same_left n (gives d) output old = refl
same_left n (refuses m p) output old = refl

module _ (from to : Kind) (before : ℕ) (answer : Outcome Success) (src : List ℕ) (room : ℕ) where
  pub left_over : (left_of from src ≡ 0 → ⊥) → step_answer from to before answer src room ≡ refuses 9 (step_samples from before src)
  unfolding step_answer
  left_over h = rw (ne_eqb (left_of from src) 0 h) refl

  past_left : left_of from src ≡ 0
      → step_answer from to before answer src room
      ≡ and_then answer (λ d. chain (buffer_rules from to src room) (placed_from before (block_answer from to src)))
  unfolding step_answer
  past_left none = rw (eq-eqb (left_of from src) 0 none) refl

  pub past_room : left_of from src ≡ 0 → count_of from src ≤ room / bytes_of to
      → step_answer from to before answer src room ≡ and_then answer (λ d. placed_from before (block_answer from to src))
  past_room none fits =
      past_left none
      ∙ ap (λ (b : Bool). and_then answer (λ d. refuse_if b 9 0 (placed_from before (block_answer from to src))))
      (le-ltb (room / bytes_of to) (count_of from src) fits)

module _ (from to : Kind) (before : ℕ) (src : List ℕ) (room : ℕ) (none : left_of from src ≡ 0) where
  pub earlier_stays : (m p : ℕ) → step_answer from to before (refuses m p) src room ≡ refuses m p
  earlier_stays m p = past_left from to before (refuses m p) src room none

  pub no_room : room / bytes_of to < count_of from src → step_answer from to before (gives done) src room ≡ refuses 9 0
  no_room h =
      past_left from to before (gives done) src room none
      ∙ ap (λ (b : Bool). refuse_if b 9 0 (placed_from before (block_answer from to src))) (lt-ltb (room / bytes_of to) (count_of from src) h)

-- the samples up to the end of the block, as they are counted
pub samples_then : (from : Kind) (before : ℕ) (src : List ℕ) → step_samples from before src ≡ (before + length src / bytes_of from) % 2 ^ 64
unfolding step_samples
samples_then from before src = refl

module _ (from to : Kind) (before : ℕ) (answer : Outcome Success) (src old : List ℕ) where
  abbrev pub StepAnswers : Outcome Success → List ℕ → Type 0
  StepAnswers given left = (given ≡ step_answer from to before answer src (length old)) × (left ≡ step_exit from to before answer src old)

  step_refused : {m p : ℕ} → step_answer from to before answer src (length old) ≡ refuses m p → StepAnswers (refuses m p) old
  unfolding step_exit
  step_refused q = (sym q, sym (refused_unchanged (λ (d : Success). output_of from to src) old q))

  pub step_left : (left_of from src ≡ 0 → ⊥) → StepAnswers (refuses 9 (step_samples from before src)) old
  step_left h = step_refused (left_over from to before answer src (length old) h)

  pub exit_left : (left_of from src ≡ 0 → ⊥) → step_exit from to before answer src old ≡ old
  exit_left h = sym (step_left h).1

-- an earlier refusal, and none
pub step_stays : (from to : Kind) (before : ℕ) (answer : Outcome Success) (src old : List ℕ) → left_of from src ≡ 0
    → {m p : ℕ} → answer ≡ refuses m p → StepAnswers from to before answer src old answer old
step_stays from to before answer src old none {m} {p} e =
    subst (λ a. StepAnswers from to before a src old a old) (sym e)
    (step_refused from to before (refuses m p) src old (earlier_stays from to before src (length old) none m p))

pub step_accepted : (from to : Kind) (before : ℕ) (answer : Outcome Success) (src old : List ℕ) → answer ≡ gives done
    → {o : Outcome Success} {now : List ℕ} → StepAnswers from to before (gives done) src old o now → StepAnswers from to before answer src old o now
step_accepted from to before answer src old e {o} {now} w = subst (λ a. StepAnswers from to before a src old o now) (sym e) w

module _ (from to : Kind) (before : ℕ) (src old : List ℕ) (none : left_of from src ≡ 0) where
  pub step_short : length old / bytes_of to < count_of from src → StepAnswers from to before (gives done) src old (refuses 9 0) old
  step_short h = step_refused from to before (gives done) src old (no_room from to before src (length old) none h)

  pub step_block : count_of from src ≤ length old / bytes_of to → {b o : Outcome Success} {now : List ℕ} → BlockAnswers from to src old b now
      → o ≡ placed_from before b → StepAnswers from to before (gives done) src old o now
  unfolding step_exit block_exit
  step_block room {b} {o} {now} w q =
      let behind = past_room from to before (gives done) src (length old) none room in (
        q ∙ ap (placed_from before) w.0 ∙ sym behind,
        w.1 ∙ sym (same_left before (block_answer from to src) (output_of from to src) old)
            ∙ ap (λ r. lent_after (λ (d : Success). output_of from to src) r old) (sym behind),
      )
