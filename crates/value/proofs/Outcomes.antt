-- An outcome of one answer tells the answer: a refusal is its number and its place.
use mathlib.Core.Path.{◌≡◌, refl, sym, ◌∙◌, ap}
use mathlib.Core.Bool.{Bool, true, false}
use mathlib.Core.List.{List, ◌++◌, append-nil}
use Prim.Native.Nat.{ℕ}
use lib.ListN.{length, drop}
use lib.Seq.{drop-length}
use Rattle.float.proofs.Tests.{clash}
use Rattle.value.specs.declared.Refusal.{Refusal}
use Rattle.std.specs.Prelude.{Result, Ok, Err}
use Rattle.std.specs.Result.{IsErrAnd}
use Rattle.std.proofs.lemmas.Result.{err_from_is_err_and}
use Rattle.value.specs.Outcome.{Outcome, gives, refuses, refuse_if, refusal_of, outcome_of, mapped, lent_after}

made : ℕ → ℕ → Refusal
made number place = record { number = number; place = place }

made_of : (f : Refusal) → made f.number f.place ≡ f
unfolding made
made_of f = refl

pub refusal_injective : {A : Type 0} (f g : Refusal) → ◌≡◌ {A = Outcome A} (refusal_of f) (refusal_of g) → f ≡ g
refusal_injective f g h =
    let both : made f.number f.place ≡ made g.number g.place = cc in
    sym (made_of f) ∙ both ∙ made_of g

-- two answers with one outcome are one answer
pub outcome_injective : {A : Type 0} (r s : Result A Refusal) → outcome_of r ≡ outcome_of s → r ≡ s
outcome_injective (Ok a) (Ok b) h = cc
outcome_injective (Ok a) (Err g) h = cc
outcome_injective (Err f) (Ok b) h = cc
outcome_injective (Err f) (Err g) h = ap Err (refusal_injective f g h)

-- what a `?` passes on is the same refusal
pub passed_on : {A : Type 0} (r : Result A Refusal) (f : Refusal) → IsErrAnd r (λ g. g ≡ f) → ◌≡◌ {A = Outcome A} (outcome_of r) (refusal_of f)
passed_on r f h =
    let p = err_from_is_err_and r h in
    ap outcome_of p.1 ∙ ap refusal_of p.2

-- a result came past the rule
pub refuse_passes : {A : Type 0} (t : Bool) (n p : ℕ) (next : Outcome A) (a : A) → refuse_if t n p next ≡ gives a → (t ≡ false) × (next ≡ gives a)
refuse_passes true n p next a h = clash cc
refuse_passes false n p next a h = (refl, h)

-- a result came of one
pub mapped_gives : {A B : Type 0} (f : A → B) (o : Outcome A) {b : B} → mapped f o ≡ gives b → (a : A) × (o ≡ gives a) × (f a ≡ b)
mapped_gives f (gives a) h = (a, refl, cc)
mapped_gives f (refuses number place) h = clash cc

-- one refusal is one number and one place
pub refuses_same : {A : Type 0} {n p m q : ℕ} → ◌≡◌ {A = Outcome A} (refuses n p) (refuses m q) → (n ≡ m) × (p ≡ q)
refuses_same h = (cc, cc)

-- ---- lent memory

module _ {A B : Type 0} (laid : A → List B) (old : List B) where
  -- refused, so unchanged
  pub refused_unchanged : {o : Outcome A} {n p : ℕ} → o ≡ refuses n p → lent_after laid o old ≡ old
  refused_unchanged h = ap (λ o. lent_after laid o old) h

  -- what fills it leaves nothing behind it
  pub given_fills : {o : Outcome A} {a : A} → o ≡ gives a → length (laid a) ≡ length old → lent_after laid o old ≡ laid a
  given_fills {o} {a} h same =
      ap (λ o. lent_after laid o old) h
      ∙ ap (λ (n : ℕ). laid a ++ drop n old) same
      ∙ ap (λ (l : List B). laid a ++ l) (drop-length old)
      ∙ append-nil (laid a)
