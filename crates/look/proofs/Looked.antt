-- Looking at the blocks is looking at the whole: a fold over joined lists. Below 2^64 its counts are those of the samples, and its answer is
-- the row's: the first sample that is refused decides.
use Rattle.value.specs.declared.Refusal.{Refusal}
use Rattle.std.specs.Prelude.{Result, Err, Ok}
use Rattle.std.proofs.Common.{◌≡◌, ℕ, suc, ◌+◌, ◌^◌, ◌<◌, ◌≤◌, Bool, true, false, cond, not, List, [], ◌∷◌, ◌++◌, length, sym, refl, ap, ◌∙◌, inl}
use Rattle.std.proofs.Common.{inr, append-nil, add-zero, mod-eq_of_lt, zero-add, add-one, arith, lit≤, eq-eqb, ne_eqb}
use native.Mathlib.Nat.{zero-mod}
use Rattle.float.proofs.Naturals.{lt_or_ge}
use Rattle.value.specs.declared.Kind.{Kind}
use Rattle.value.specs.declared.Value.{Value}
use Rattle.value.specs.Outcome.{Outcome, gives, refuses, refuse_if, and_then, Success, done}
use Rattle.cmp.specs.Compare.{lt_of, gt_of}
use Rattle.row.specs.Row.{rowed_outcome, row_answer, sample_then, how_many}
use Rattle.look.specs.declared.Seen.{Seen}
use Rattle.value.specs.Kinds.{bytes_of}
use Rattle.sample.specs.Samples.{count_of, left_of, samples_of, counted, joined, WholeBlocks, none, last, more}
use Rattle.sample.specs.Refusals.{bits_to, answer_of, refused_to}
use Rattle.sample.proofs.Samplings.{length_samples}
use Rattle.sample.proofs.Joining.{left_joined, samples_of_joined, small, no_samples}
use Rattle.look.specs.Report.{unlike_itself, infinite, minus_zero, lower_of, higher_of, count_if, first_of, noted_of, nothing_seen, all_noted}
use Rattle.look.specs.Report.{left_noted, look_of}
use Rattle.look.specs.ReportTheorem.{looked_at, Best, Tells, LooksDecide}
use Rattle.look.proofs.Best.{best_of, lower_strict, higher_strict}
use Rattle.look.proofs.Looking.{noted_joined, noted_none, look_whole, look_left}

-- ---- blocks joined

module _ (from to : Kind) where
  look_joined : (s : Seen) (p b : List ℕ) → left_of from p ≡ 0 → look_of from to (look_of from to s p) b ≡ look_of from to s (p ++ b)
  unfolding look_of
  look_joined s p b whole =
      let all : all_noted to (look_of from to s p) (samples_of from b) ≡ all_noted to s (samples_of from (p ++ b)) =
      ap (λ (x : Seen). all_noted to x (samples_of from b)) (sym (look_whole from to s p whole))
      ∙ sym (noted_joined to s (samples_of from p) (samples_of from b))
      ∙ ap (all_noted to s) (sym (samples_of_joined from p b whole)) in
      rw (all, left_joined from p b whole) refl

  looked : {bs : List (List ℕ)} → WholeBlocks from bs → (s : Seen) → looked_at from to s bs ≡ look_of from to s (joined bs)
  looked none s = noted_none to s ∙ ap (all_noted to s) (sym (no_samples from)) ∙ look_whole from to s [] (zero-mod (bytes_of from))
  looked (last b) s = ap (look_of from to s) (sym (append-nil b))
  looked (more b bs ends rest) s = looked rest (look_of from to s b) ∙ look_joined s b (joined bs) ends

-- ---- the count and the answer of all samples

first_then : (a : Result (Unit {0}) Refusal) (n : ℕ) (o : Outcome ℕ) (rest : Outcome Success)
    → and_then (rowed_outcome (first_of a n o)) (λ d. rest) ≡ and_then (rowed_outcome a) (λ d. sample_then n o rest)
first_then (Ok u) n (gives b) rest = refl
first_then (Ok u) n (refuses m p) rest = refl
first_then (Err f) n o rest = refl

stays : (o : Outcome Success) → o ≡ and_then o (λ d. gives done)
stays (gives done) = refl
stays (refuses m p) = refl

count_step : (t : Bool) (n k : ℕ) → suc n < 2 ^ 64 → count_if t n + k ≡ n + cond t (suc k) k
count_step true n k h = ap (λ (m : ℕ). counted m + k) (add-one n) ∙ ap (λ (m : ℕ). m + k) (mod-eq_of_lt h) ∙ omega arith
count_step false n k h = refl

count_bound : (t : Bool) (n : ℕ) → suc n < 2 ^ 64 → count_if t n ≤ suc n
count_bound t n h = let q = count_step t n 0 h in let b = one_more t in omega (arith, q, b)
  where
    one_more : (t : Bool) → cond t 1 0 ≤ 1
    one_more true = lit≤ tt
    one_more false = lit≤ tt

-- a count of the samples that pass a test
module _ (to : Kind) (count : Seen → ℕ) (test : Value → Bool) (step : (s : Seen) (v : Value) → count (noted_of to s v) ≡ count_if (test v) (count s)) where
  all_counted : (s : Seen) (vs : List Value) → count s + length vs < 2 ^ 64 → count (all_noted to s vs) ≡ count s + how_many test vs
  unfolding all_noted how_many
  all_counted s [] h = sym (add-zero (count s))
  all_counted s (v ∷ vs) h =
      let one = step s v in
      let bound = count_bound (test v) (count s) (omega arith) in
      all_counted (noted_of to s v) vs (omega (arith, one, bound))
      ∙ ap (λ (n : ℕ). n + how_many test vs) one
      ∙ count_step (test v) (count s) (how_many test vs) (omega arith)

all_many : {A : Type 0} (xs : List A) → how_many (λ x. true) xs ≡ length xs
unfolding how_many
all_many [] = refl
all_many (x ∷ xs) = ap suc (all_many xs)

module _ (to : Kind) (s : Seen) (v : Value) where
  noted_samples : (noted_of to s v).samples ≡ count_if true s.samples
  unfolding noted_of
  noted_samples = refl

  noted_nans : (noted_of to s v).nans ≡ count_if (unlike_itself v) s.nans
  unfolding noted_of
  noted_nans = refl

  noted_infinities : (noted_of to s v).infinities ≡ count_if (infinite v) s.infinities
  unfolding noted_of
  noted_infinities = refl

  noted_minus_zeros : (noted_of to s v).minus_zeros ≡ count_if (minus_zero v) s.minus_zeros
  unfolding noted_of
  noted_minus_zeros = refl

  noted_refusable : (noted_of to s v).refusable ≡ count_if (refused_to to v) s.refusable
  unfolding noted_of
  noted_refusable = refl

  noted_lowest : (noted_of to s v).lowest ≡ lower_of s.lowest v
  unfolding noted_of
  noted_lowest = refl

  noted_highest : (noted_of to s v).highest ≡ higher_of s.highest v
  unfolding noted_of
  noted_highest = refl

  noted_answer : (noted_of to s v).answer ≡ first_of s.answer s.samples (bits_to to v)
  unfolding noted_of
  noted_answer = refl

  next_sample : suc s.samples < 2 ^ 64 → (noted_of to s v).samples ≡ suc s.samples
  next_sample h = noted_samples ∙ ap counted (add-one s.samples) ∙ mod-eq_of_lt h

module _ (to : Kind) where
  all_answer : (s : Seen) (vs : List Value) → s.samples + length vs < 2 ^ 64
      → rowed_outcome (all_noted to s vs).answer ≡ and_then (rowed_outcome s.answer) (λ d. row_answer (bits_to to) s.samples vs)
  unfolding all_noted row_answer
  all_answer s [] h = stays (rowed_outcome s.answer)
  all_answer s (v ∷ vs) h =
      let one = next_sample to s v (omega arith) in
      let rest = row_answer (bits_to to) (suc s.samples) vs in
      all_answer (noted_of to s v) vs (omega (arith, one))
      ∙ ap (λ (a : Result (Unit {0}) Refusal). and_then (rowed_outcome a) (λ d. row_answer (bits_to to) (noted_of to s v).samples vs)) (noted_answer to s v)
      ∙ ap (λ (n : ℕ). and_then (rowed_outcome (first_of s.answer s.samples (bits_to to v))) (λ d. row_answer (bits_to to) n vs)) one
      ∙ first_then s.answer s.samples (bits_to to v) rest

-- ---- the whole

module _ (from to : Kind) (p : List ℕ) (short : length p < 2 ^ 64) where
  few : 0 + length (samples_of from p) < 2 ^ 64
  few = rw (zero-add (length (samples_of from p)), length_samples from (count_of from p) p) (small from p short)

  abbrev all : Seen
  all = all_noted to nothing_seen (samples_of from p)

  -- what the counts are of all samples
  counted_all : (count : Seen → ℕ) (test : Value → Bool)
      → ((s : Seen) (v : Value) → count (noted_of to s v) ≡ count_if (test v) (count s)) →
      count nothing_seen ≡ 0 → count all ≡ how_many test (samples_of from p)
  counted_all count test step begun =
      all_counted to count test step nothing_seen (samples_of from p) (rw begun few)
      ∙ ap (λ (n : ℕ). n + how_many test (samples_of from p)) begun
      ∙ zero-add (how_many test (samples_of from p))

  many : all.samples ≡ count_of from p
  many = counted_all (λ (s : Seen). s.samples) (λ v. true) (noted_samples to) refl ∙ all_many (samples_of from p) ∙ length_samples from (count_of from p) p

  nans : all.nans ≡ how_many unlike_itself (samples_of from p)
  nans = counted_all (λ (s : Seen). s.nans) unlike_itself (noted_nans to) refl

  infinities : all.infinities ≡ how_many infinite (samples_of from p)
  infinities = counted_all (λ (s : Seen). s.infinities) infinite (noted_infinities to) refl

  minus_zeros : all.minus_zeros ≡ how_many minus_zero (samples_of from p)
  minus_zeros = counted_all (λ (s : Seen). s.minus_zeros) minus_zero (noted_minus_zeros to) refl

  refusable : all.refusable ≡ how_many (refused_to to) (samples_of from p)
  refusable = counted_all (λ (s : Seen). s.refusable) (refused_to to) (noted_refusable to) refl

  lowest : Best lt_of (samples_of from p) all.lowest
  lowest = best_of lt_of lower_strict to (λ (s : Seen). s.lowest) (noted_lowest to) (samples_of from p) nothing_seen refl

  highest : Best gt_of (samples_of from p) all.highest
  highest = best_of gt_of higher_strict to (λ (s : Seen). s.highest) (noted_highest to) (samples_of from p) nothing_seen refl

  whole_tells : left_of from p ≡ 0 → Tells from to p all
  unfolding answer_of
  whole_tells ends = (
    many,
    nans,
    infinities,
    minus_zeros,
    lowest,
    highest,
    refusable,
    all_answer to nothing_seen (samples_of from p) few
        ∙ sym (ap (λ (t : Bool). refuse_if (not t) 9 (count_of from p) (row_answer (bits_to to) 0 (samples_of from p))) (eq-eqb (left_of from p) 0 ends)),
  )

  left_tells : (left_of from p ≡ 0 → ⊥) → Tells from to p (left_noted all)
  unfolding answer_of
  left_tells some = (
    many,
    nans,
    infinities,
    minus_zeros,
    lowest,
    highest,
    refusable,
    ap (refuses 9) many
        ∙ sym (ap (λ (t : Bool). refuse_if (not t) 9 (count_of from p) (row_answer (bits_to to) 0 (samples_of from p))) (ne_eqb (left_of from p) 0 some)),
  )

  look_tells : Tells from to p (look_of from to nothing_seen p)
  look_tells = elim (lt_or_ge 0 (left_of from p)) [
    | inl h ↦ rw (← look_left from to nothing_seen p (λ q. omega arith)) (left_tells (λ q. omega arith))
    | inr h ↦ rw (← look_whole from to nothing_seen p (omega arith)) (whole_tells (omega arith))
  ]

pub looks_decide : LooksDecide
looks_decide from to bs parts short = (looked from to parts nothing_seen, look_tells from to (joined bs) short)
