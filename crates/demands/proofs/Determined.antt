-- No two outcomes: an answer of an enum is told by its outcome, and all else stands in the contract as it is.
use Rattle.std.specs.Prelude.{Result, Ok, Err}
use Rattle.value.specs.declared.Refusal.{Refusal}
use mathlib.Core.Path.{◌≡◌, refl, sym, ◌∙◌, ap, subst}
use mathlib.Core.List.{List, [], ◌∷◌}
use Prim.Native.Nat.{ℕ, suc, ◌<◌}
use native.Mathlib.Omega.{arith}
use lib.ListN.{length, get_or}
use Rattle.float.proofs.Magnitude.{mag_injective}
use Rattle.half.specs.Small.{IsOver, Small}
use Rattle.value.proofs.Outcomes.{refusal_injective, outcome_injective}
use Rattle.value.specs.Outcome.{Outcome, outcome_of}
use Rattle.row.specs.Row.{rowed_outcome}
use Rattle.demands.specs.Determined.{OnlyOne, Determined}

module _ {R A : Type 0} (outcomeOf : R → Outcome A) (injective : (r s : R) → outcomeOf r ≡ outcomeOf s → r ≡ s) (spec : Outcome A) where
  by_outcome : OnlyOne (λ (r : R). outcomeOf r ≡ spec)
  by_outcome r s h k = injective r s (h ∙ sym k)

  with_buffer : {B : Type 0} (exit : List B) → OnlyOne (λ (r : R × List B). (outcomeOf r.0 ≡ spec) × (r.1 ≡ exit))
  with_buffer exit (r, b) (s, c) h k =
      let answers : r ≡ s = by_outcome r s h.0 k.0 in
      let buffers : b ≡ c = h.1 ∙ sym k.1 in
      cc

-- ---- the table: no two patterns have one magnitude

entries_same : (t u : List ℕ) → length t ≡ length u → ((m : ℕ) → m < length t → get_or t m 0 ≡ get_or u m 0) → t ≡ u
entries_same [] [] q h = refl
entries_same [] (y ∷ ys) q h = absurd (omega arith)
entries_same (x ∷ xs) [] q h = absurd (omega arith)
entries_same (x ∷ xs) (y ∷ ys) q h =
    let first : x ≡ y = h 0 (omega arith) in
    let rest : xs ≡ ys = entries_same xs ys (omega arith) (λ m l. h (suc m) (omega arith)) in
    cc

one_entry : (m : ℕ) → OnlyOne (IsOver m)
one_entry m r s h k = mag_injective 23 r s (h ∙ sym k)

one_table : OnlyOne Small
unfolding Small
one_table t u h k =
    entries_same t u (h.0 ∙ sym k.0)
    (λ m l. let inside : m < 1024 = subst (λ (n : ℕ). m < n) h.0 l in one_entry m (get_or t m 0) (get_or u m 0) (h.1 m inside) (k.1 m inside))

-- a row's answer is told by its outcome too
rowed_injective : (r s : Result (Unit {0}) Refusal) → rowed_outcome r ≡ rowed_outcome s → r ≡ s
rowed_injective (Ok u) (Ok v) h = refl
rowed_injective (Ok u) (Err g) h = cc
rowed_injective (Err f) (Ok v) h = cc
rowed_injective (Err f) (Err g) h = ap Err (refusal_injective f g h)

pub determined : Determined
determined = record {
  plain = λ spec r s h k. h ∙ sym k;
  answered = by_outcome outcome_of outcome_injective;
  entry = one_entry;
  table = one_table;
  rowed = λ spec exit. with_buffer rowed_outcome rowed_injective spec exit;
  written = λ spec exit. with_buffer outcome_of outcome_injective spec exit;
}
