-- A test is a row of answers, one for each of the four orders: a yes tells that the comparison gave an order that the row says yes to.
-- The laws hold of any comparison: of two values, and of two records.
use mathlib.Core.Path.{◌≡◌, refl, ap}
use mathlib.Core.Logic.{◌↔◌, ◌⊎◌, inl, inr}
use mathlib.Core.Bool.{Bool, true, false, not, false≢true}
use Prim.Native.Nat.{ℕ}
use Rattle.float.specs.declared.Order.{Order}
use Rattle.float.specs.declared.Order.TheVariants.{Less, Equal, Greater, Unordered}
use Rattle.float.specs.Order.{answer, is_equal, is_not_equal, is_less, is_less_or_equal, is_greater, is_greater_or_equal}
use Rattle.float.proofs.Tests.{clash}
use Rattle.value.specs.Outcome.{Outcome, gives, refuses, mapped}

-- ---- any row

module _ (less equal greater unordered : Bool) where
  pub by_row : {A : Type 0} (o : Outcome Order) → mapped (answer less equal greater unordered) o ≡ gives true
      → (less ≡ true → o ≡ gives Less → A) → (equal ≡ true → o ≡ gives Equal → A)
      → (greater ≡ true → o ≡ gives Greater → A) → (unordered ≡ true → o ≡ gives Unordered → A) → A
  by_row (gives Less) h l e g u = l (cc) refl
  by_row (gives Equal) h l e g u = e (cc) refl
  by_row (gives Greater) h l e g u = g (cc) refl
  by_row (gives Unordered) h l e g u = u (cc) refl
  by_row (refuses n p) h l e g u = clash cc

  pub row_turned : (o : Outcome Order)
      → mapped (answer (not less) (not equal) (not greater) (not unordered)) o ≡ mapped not (mapped (answer less equal greater unordered) o)
  row_turned (gives Less) = refl
  row_turned (gives Equal) = refl
  row_turned (gives Greater) = refl
  row_turned (gives Unordered) = refl
  row_turned (refuses n p) = refl

pub refused_exactly : {A B : Type 0} (f : A → B) (o : Outcome A) (n p : ℕ) → (mapped f o ≡ refuses n p) ↔ (o ≡ refuses n p)
refused_exactly f (gives a) n p = (λ h. clash cc, λ h. clash cc)
refused_exactly f (refuses m q) n p = (λ h. cc, λ h. cc)

-- ---- the rows of the six tests

no : {A B : Type 0} → false ≡ true → B → A
no h b = absurd (false≢true h)

module _ (o : Outcome Order) where
  pub eq_exactly : (mapped is_equal o ≡ gives true) ↔ (o ≡ gives Equal)
  eq_exactly = (λ h. by_row false true false false o h no (λ t q. q) no no, ap (mapped is_equal))

  pub lt_exactly : (mapped is_less o ≡ gives true) ↔ (o ≡ gives Less)
  lt_exactly = (λ h. by_row true false false false o h (λ t q. q) no no no, ap (mapped is_less))

  pub gt_exactly : (mapped is_greater o ≡ gives true) ↔ (o ≡ gives Greater)
  gt_exactly = (λ h. by_row false false true false o h no no (λ t q. q) no, ap (mapped is_greater))

  pub le_exactly : (mapped is_less_or_equal o ≡ gives true) ↔ ((o ≡ gives Less) ⊎ (o ≡ gives Equal))
  le_exactly = (
    λ h. by_row true true false false o h (λ t q. inl q) (λ t q. inr q) no no,
    λ s. elim s [ inl q ↦ ap (mapped is_less_or_equal) q | inr q ↦ ap (mapped is_less_or_equal) q ],
  )

  pub ge_exactly : (mapped is_greater_or_equal o ≡ gives true) ↔ ((o ≡ gives Greater) ⊎ (o ≡ gives Equal))
  ge_exactly = (
    λ h. by_row false true true false o h no (λ t q. inr q) (λ t q. inl q) no,
    λ s. elim s [ inl q ↦ ap (mapped is_greater_or_equal) q | inr q ↦ ap (mapped is_greater_or_equal) q ],
  )

  pub ne_turns : mapped is_not_equal o ≡ mapped not (mapped is_equal o)
  ne_turns = row_turned false true false false o
