-- No two outcomes: what a contract says of an answer, and of a lent buffer at the end, is met by one only. One claim for each shape of contract.
use Rattle.value.specs.declared.Refusal.{Refusal}
use Rattle.std.specs.Prelude.{ℕ, ◌≡◌, Bool, List, Float, Result}
use Rattle.float.specs.declared.Order.{Order}
use Rattle.half.specs.Small.{IsOver, Small}
use Rattle.value.specs.declared.Value.{Value}
use Rattle.value.specs.Outcome.{Outcome, Success, outcome_of}
use Rattle.choose.specs.declared.Range.{Range}
use Rattle.row.specs.Row.{rowed_outcome}

-- a contract that only one answer meets
abbrev pub OnlyOne : {R : Type 0} → (R → Type 0) → Type 0
OnlyOne {R} contract = (r s : R) → contract r → contract s → r ≡ s

-- no shape of contract leaves two answers
pub record Determined : Type 1 where
  -- `r ≡ spec`: a number, a class, an order, a record beside its outcome, a lent row itself
  pub plain : {R : Type 0} (spec : R) → OnlyOne (λ (r : R). r ≡ spec)
  -- `outcome_of r ≡ spec`: a result, or a refusal
  pub answered : {A : Type 0} (spec : Outcome A) → OnlyOne (λ (r : Result A Refusal). outcome_of r ≡ spec)
  -- an entry of the table of f16 magnitudes, and the whole table
  pub entry : (m : ℕ) → OnlyOne (IsOver m)
  pub table : OnlyOne Small
  -- an answer, and beside it `now b.exit ≡ exit` of the lent buffer
  pub rowed : {B : Type 0} (spec : Outcome Success) (exit : List B)
      → OnlyOne (λ (r : Result (Unit {0}) Refusal × List B). (rowed_outcome r.0 ≡ spec) × (r.1 ≡ exit))
  pub written : (spec : Outcome ℕ) (exit : List ℕ) → OnlyOne (λ (r : Result ℕ Refusal × List ℕ). (outcome_of r.0 ≡ spec) × (r.1 ≡ exit))
