-- The numbers that pass the boundary lose nothing: an outcome is read back from its number, its place and what it gives, as no refusal has
-- the number 0. Of a value they keep the kind and the bits, which is all that the rules speak of.
use Prim.Native.Nat.{ℕ, zero, suc}
use native.Mathlib.Omega.{arith}
use mathlib.Core.Path.{◌≡◌, refl, sym, ◌∙◌, ap}
use mathlib.Core.List.{[], ◌∷◌}
use lib.IntN.{ℤ}
use lib.ListN.{get_or}
use Rattle.float.specs.declared.Order.{Order}
use Rattle.float.specs.declared.Order.TheVariants.{Less, Equal, Greater, Unordered}
use Rattle.float.specs.declared.Class.{Class}
use Rattle.float.specs.declared.Class.TheVariants.{Zero, Subnormal, Normal, Infinite, Nan}
use Rattle.value.specs.declared.Kind.{Kind}
use Rattle.value.specs.declared.Value.{Value}
use Rattle.value.specs.Kinds.{kind_number, kind_of}
use Rattle.value.specs.Outcome.{Outcome, gives, refuses, mapped, Success, done}
use Rattle.silamogo.specs.declared.Answer.{Answer}
use Rattle.silamogo.specs.declared.Ordered.{Ordered}
use Rattle.silamogo.specs.declared.Classed.{Classed}
use Rattle.silamogo.specs.declared.Positioned.{Positioned}
use Rattle.silamogo.specs.declared.Sampled.{Sampled}
use Rattle.silamogo.specs.declared.Measured.{Measured}
use Rattle.silamogo.specs.Answer.{Numbered, answered_of, order_number, ordered_of, class_number, classed_of, positioned_of}
use Rattle.silamogo.specs.Answer.{kind_and_bits, sampled_of, measured_of}
use Rattle.silamogo.specs.Samples.{kind_for}
use Rattle.value.proofs.KindNumbers.{kind_back}

-- ---- one law for every answer

-- the outcome that a number, a place and a result stand for
abbrev outcome_in : {A : Type 0} → ℕ → ℕ → A → Outcome A
outcome_in zero place a = gives a
outcome_in (suc n) place a = refuses (suc n) place

-- what is read back from the answer is what is kept of the outcome
module _ {A B R : Type 0} (tell : Outcome A → R) (back : R → Outcome B) (kept : Outcome A → Outcome B)
    (given : (a : A) → back (tell (gives a)) ≡ kept (gives a)) (refused : (n p : ℕ) → back (tell (refuses (suc n) p)) ≡ kept (refuses (suc n) p)) where
  read_back : (x : Outcome A) → Numbered x → back (tell x) ≡ kept x
  read_back (gives a) s = given a
  read_back (refuses zero p) s = absurd (omega arith)
  read_back (refuses (suc n) p) s = refused n p

  told_apart : (x y : Outcome A) → Numbered x → Numbered y → tell x ≡ tell y → kept x ≡ kept y
  told_apart x y s t h = sym (read_back x s) ∙ ap back h ∙ read_back y t

-- ---- each answer

order_back : (o : Order) → get_or (Less ∷ Equal ∷ Greater ∷ Unordered ∷ []) (order_number o) Less ≡ o
order_back Less = refl
order_back Equal = refl
order_back Greater = refl
order_back Unordered = refl

class_back : (c : Class) → get_or (Zero ∷ Subnormal ∷ Normal ∷ Infinite ∷ Nan ∷ []) (class_number c) Zero ≡ c
class_back Zero = refl
class_back Subnormal = refl
class_back Normal = refl
class_back Infinite = refl
class_back Nan = refl

kind_told : (k : Kind) → kind_for (kind_number k) ≡ k
unfolding kind_for
kind_told k = rw (kind_back k)

success_back : (d : Success) → gives done ≡ gives d
success_back done = refl

pub answered_injective : (x y : Outcome Success) → Numbered x → Numbered y → answered_of x ≡ answered_of y → x ≡ y
answered_injective = told_apart answered_of (λ (r : Answer). outcome_in r.number r.place done) (λ x. x) success_back (λ n p. refl)

pub ordered_injective : (x y : Outcome Order) → Numbered x → Numbered y → ordered_of x ≡ ordered_of y → x ≡ y
ordered_injective = told_apart ordered_of
    (λ (r : Ordered). outcome_in r.number r.place (get_or (Less ∷ Equal ∷ Greater ∷ Unordered ∷ []) r.order Less)) (λ x. x)
    (λ o. ap gives (order_back o)) (λ n p. refl)

pub classed_injective : (x y : Outcome Class) → Numbered x → Numbered y → classed_of x ≡ classed_of y → x ≡ y
classed_injective = told_apart classed_of
    (λ (r : Classed). outcome_in r.number r.place (get_or (Zero ∷ Subnormal ∷ Normal ∷ Infinite ∷ Nan ∷ []) r.class Zero)) (λ x. x)
    (λ c. ap gives (class_back c)) (λ n p. refl)

pub positioned_injective : (x y : Outcome ℤ) → Numbered x → Numbered y → positioned_of x ≡ positioned_of y → x ≡ y
positioned_injective = told_apart positioned_of (λ (r : Positioned). outcome_in r.number r.place r.position) (λ x. x) (λ z. refl) (λ n p. refl)

pub sampled_injective : (x y : Outcome Value) → Numbered x → Numbered y → sampled_of x ≡ sampled_of y → mapped kind_and_bits x ≡ mapped kind_and_bits y
sampled_injective = told_apart sampled_of (λ (r : Sampled). outcome_in r.number r.place (kind_for r.kind, r.bits)) (mapped kind_and_bits)
    (λ v. rw (kind_told (kind_of v))) (λ n p. refl)

pub measured_injective : (x y : Outcome ℕ) → Numbered x → Numbered y → measured_of x ≡ measured_of y → x ≡ y
measured_injective = told_apart measured_of (λ (r : Measured). outcome_in r.number r.place r.length) (λ x. x) (λ n. refl) (λ n p. refl)
