-- The sample that a refusal is about. Its place is one of the row's own: behind the samples before a block, so that the block has it there, and
-- before all samples that come later, so that it stays the sample of the whole.
use Rattle.std.specs.Prelude.{Option, None, Some}
use Prim.Native.Nat.{ℕ, suc, ◌+◌, ◌-◌, ◌≤◌, ◌<◌}
use native.Mathlib.Omega.{arith}
use mathlib.Core.Bool.{Bool, true, false, not, cond}
use mathlib.Core.List.{List, [], ◌∷◌, ◌++◌}
use mathlib.Core.Logic.{inl, inr}
use mathlib.Core.Path.{◌≡◌, refl, sym, ◌∙◌, ap, subst}
use borrow.Author.Tests.{eq-eqb, ne_eqb}
use lib.Dec.{eqb}
use lib.ListN.{length, get_or, get_or-append}
use lib.Seq.{get_or-append-add}
use Rattle.float.proofs.Naturals.{lt_or_ge}
use Rattle.float.proofs.Tests.{clash}
use Rattle.value.specs.declared.Kind.{Kind}
use Rattle.value.specs.declared.Value.{Value}
use Rattle.value.specs.Meaning.{value_of}
use Rattle.value.specs.Outcome.{Outcome, gives, refuses, refuse_if, and_then, Success, done}
use Rattle.row.specs.Row.{row_answer, sample_then}
use Rattle.sample.specs.Samples.{count_of, left_of, samples_of, sample_at}
use Rattle.sample.specs.Refusals.{bits_to, answer_of}
use Rattle.sample.proofs.Samplings.{length_samples}
use Rattle.sample.proofs.Joining.{left_joined, samples_of_joined}
use Rattle.block.proofs.Joining.{answer_joined}
use Rattle.migration.specs.Steps.{sample_by, found_or}
use Rattle.migration.specs.Runs.{refused_sample}

-- ---- rows joined

-- a row is refused at a place of its own
row_inside : {A B : Type 0} (conv : A → Outcome B) (at : ℕ) (xs : List A) {n q : ℕ} → row_answer conv at xs ≡ refuses n q → (at ≤ q) × (q < at + length xs)
unfolding row_answer
row_inside conv at [] h = clash cc
row_inside {A} {B} conv at (x ∷ xs) {n} {q} h = go (conv x) h (row_inside conv (suc at) xs)
  where
    go : (o : Outcome B) → sample_then at o (row_answer conv (suc at) xs) ≡ refuses n q
        → (row_answer conv (suc at) xs ≡ refuses n q → (suc at ≤ q) × (q < suc at + length xs)) → (at ≤ q) × (q < at + suc (length xs))
    go (gives y) k rest = let r = rest k in (omega arith, omega arith)
    go (refuses m p) k rest = let e : at ≡ q = cc in (omega arith, omega arith)

-- what was found of the first row stays
stays_found : (t : Bool) {v w : Value} (u : Value) → v ≡ w → cond t None (found_or (cond t None (Some v)) u) ≡ cond t None (Some w)
stays_found true u q = refl
stays_found false u q = ap Some q

module _ {B : Type 0} (conv : Value → Outcome B) (d : Value) (xs ys : List Value) where
  behind_first : (q : ℕ) → length xs ≤ q → get_or ys (q - length xs) d ≡ get_or (xs ++ ys) q d
  behind_first q h = sym (get_or-append-add xs ys (q - length xs) d) ∙ ap (λ (k : ℕ). get_or (xs ++ ys) k d) (omega arith)

  rows_joined : (o r : Outcome Success) → o ≡ row_answer conv 0 xs → r ≡ row_answer conv (0 + length xs) ys
      → sample_by (λ q. found_or (sample_by (λ p. Some (get_or xs p d)) o) (get_or ys (q - length xs) d)) (and_then o (λ e. r))
      ≡ sample_by (λ q. Some (get_or (xs ++ ys) q d)) (and_then o (λ e. r))
  rows_joined (gives done) (gives done) h k = refl
  rows_joined (gives done) (refuses n q) h k =
      let inside = row_inside conv (0 + length xs) ys (sym k) in
      ap (λ (v : Value). cond (eqb n 9) None (Some v)) (behind_first q (omega (arith, inside)))
  rows_joined (refuses n q) r h k =
      let inside = row_inside conv 0 xs (sym h) in
      stays_found (eqb n 9) (get_or ys (q - length xs) d) (sym (get_or-append xs ys d q (omega (arith, inside))))

-- ---- bytes joined

module _ (from to : Kind) where
  whole_answer : (p : List ℕ) → left_of from p ≡ 0 → answer_of from to p ≡ row_answer (bits_to to) 0 (samples_of from p)
  unfolding answer_of
  whole_answer p none =
      ap (λ (t : Bool). refuse_if (not t) 9 (count_of from p) (row_answer (bits_to to) 0 (samples_of from p))) (eq-eqb (left_of from p) 0 none)

  left_answer : (p : List ℕ) → (left_of from p ≡ 0 → ⊥) → answer_of from to p ≡ refuses 9 (count_of from p)
  unfolding answer_of
  left_answer p some = ap (λ (t : Bool). refuse_if (not t) 9 (count_of from p) (row_answer (bits_to to) 0 (samples_of from p))) (ne_eqb (left_of from p) 0 some)

  module _ (p b : List ℕ) (whole : left_of from p ≡ 0) where
    -- the sample after b, by what was found in p and by how many samples came before
    abbrev after : Option Value → ℕ → Outcome Success → Option Value
    after kept n answer = sample_by (λ q. found_or kept (sample_at from b (q - n))) answer

    abbrev Told : Outcome Success → Type 0
    Told answer = after (refused_sample from p (answer_of from to p)) (count_of from p) answer ≡ refused_sample from (p ++ b) answer

    told_whole : left_of from b ≡ 0 → Told (answer_of from to (p ++ b))
    told_whole none =
        let xs = samples_of from p in
        let ys = samples_of from b in
        let o = answer_of from to p in
        let answer = and_then o (λ e. row_answer (bits_to to) (0 + length xs) ys) in
        let both : answer_of from to (p ++ b) ≡ answer =
        whole_answer (p ++ b) (left_joined from p b whole ∙ none)
        ∙ ap (row_answer (bits_to to) 0) (samples_of_joined from p b whole)
        ∙ answer_joined (bits_to to) 0 xs ys
        ∙ ap (λ (a : Outcome Success). and_then a (λ e. row_answer (bits_to to) (0 + length xs) ys)) (sym (whole_answer p whole)) in
        subst Told (sym both)
        (ap (λ (n : ℕ). after (refused_sample from p o) n answer) (sym (length_samples from (count_of from p) p))
        ∙ rows_joined (bits_to to) (value_of from 0) xs ys o (row_answer (bits_to to) (0 + length xs) ys) (whole_answer p whole) refl
        ∙ ap (λ (l : List Value). sample_by (λ q. Some (get_or l q (value_of from 0))) answer) (sym (samples_of_joined from p b whole)))

    told_joined : Told (answer_of from to (p ++ b))
    told_joined = elim (lt_or_ge 0 (left_of from b)) [
      | inl h ↦ subst Told (sym (left_answer (p ++ b) (λ q. omega (arith, left_joined from p b whole)))) refl
      | inr h ↦ told_whole (omega arith)
    ]

    -- by other names
    pub told_next : {kept : Option Value} {n : ℕ} {o r : Outcome Success} → kept ≡ refused_sample from p o → n ≡ count_of from p
        → o ≡ answer_of from to p → r ≡ answer_of from to (p ++ b) → after kept n r ≡ refused_sample from (p ++ b) r
    told_next k c o r = rw (k, c, o, r) told_joined
