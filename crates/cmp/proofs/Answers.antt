-- What each arm of a match on two values answers.
use mathlib.Core.Path.{◌≡◌, refl, sym, ◌∙◌, ap, subst}
use mathlib.Core.Bool.{Bool, true, false}
use Prim.Native.Nat.{ℕ}
use lib.Dec.{T}
use lib.IntN.{ℤ}
use Rattle.float.specs.declared.Order.{Order}
use Rattle.float.specs.Format.{Format}
use Rattle.float.specs.Order.{order_z, order_of, compare_in, pattern_in}
use Rattle.float.specs.Number.{times}
use Rattle.value.specs.declared.Kind.{Kind}
use Rattle.value.specs.declared.Kind.TheVariants as kind
use Rattle.value.specs.declared.Value.{Value}
use Rattle.value.specs.Kinds.{kind_of, form_of, is_integer}
use Rattle.value.specs.Meaning.{whole_of, number_of, position_of, exact_of, unit, step_of}
use Rattle.value.specs.Outcome.{gives, refuses, refuse_if}
use Rattle.value.proofs.Forms.{Whole}
use Rattle.value.proofs.KindNumbers.{number_injective}
use Rattle.cmp.specs.Compare.{kinds_differ, compare_of, total_of}
use Rattle.cmp.proofs.KindTests.{NotOf, whole_left, differ, alike, one_kind}
use Rattle.cmp.proofs.Numbers.{integers_order, patterns_order, positions_order}

-- ---- the arm `_`: b is of another kind

module _ {a a' : Value} (b : Value) (q : a ≡ a') (n : NotOf (kind_of a') b) where
  pub compare_refused : refuses 7 0 ≡ compare_of a b
  unfolding compare_of
  compare_refused = simp (differ b q n)

  pub total_refused : refuses 7 0 ≡ total_of a b
  unfolding total_of
  total_refused = simp (differ b q n)

  pub both_refused : compare_of a b ≡ total_of a b
  both_refused = sym compare_refused ∙ total_refused

-- ---- an arm that knows both cases

module _ {a a' b b' : Value} (q : a ≡ a') (u : b ≡ b') (k : kind_of a' ≡ kind_of b') where
  compare_given : {o : Order} → o ≡ order_of (number_of a') (number_of b') → gives o ≡ compare_of a b
  unfolding compare_of
  compare_given h = simp (alike q u k) (ap gives (h ∙ sym (cc (q, u))))

  pub total_given : {o : Order} → o ≡ order_z (position_of a') (position_of b') → gives o ≡ total_of a b
  unfolding total_of
  total_given h = simp (alike q u k) (ap gives (h ∙ sym (cc (q, u))))

  pub compare_integers : (y z : ℤ) {o : Order} → exact_of a' ≡ times unit (whole_of y) → exact_of b' ≡ times unit (whole_of z)
      → o ≡ order_z y z → gives o ≡ compare_of a b
  compare_integers y z v w h = compare_given (h ∙ integers_order y z ∙ sym (cc (v, w)))

  pub compare_floats : (f : Format) (m n : ℕ) {o : Order}
      → exact_of a' ≡ times (step_of f) (pattern_in f m) → exact_of b' ≡ times (step_of f) (pattern_in f n)
      → {i j : ℕ} → o ≡ compare_in f i j → i ≡ m → j ≡ n → gives o ≡ compare_of a b
  compare_floats f m n v w {i} {j} h p q =
      let same : compare_in f i j ≡ compare_in f m n = cc (p, q) in
      compare_given (h ∙ same ∙ patterns_order f m n ∙ sym (cc (v, w)))

pub order_at_lem : {i j y z : ℤ} {o : Order} → o ≡ order_z i j → i ≡ y → j ≡ z → o ≡ order_z y z
order_at_lem {i} {j} {y} {z} h p q = h ∙ ap (λ (k : ℤ). order_z k j) p ∙ ap (λ (k : ℤ). order_z y k) q

-- ---- the arm of the total order for integer kinds, on which the two orders agree

same_answer : (a b : Value) (t : Bool) → kinds_differ a b ≡ t → Whole a
    → refuse_if t 7 0 (gives (order_of (number_of a) (number_of b))) ≡ refuse_if t 7 0 (gives (order_z (position_of a) (position_of b)))
same_answer a b true e h = refl
same_answer a b false e h =
    let same = number_injective (kind_of a) (kind_of b) (one_kind a b e) in
    ap gives (positions_order a b h (subst (λ (k : Kind). T (is_integer (form_of k))) same h))

pub integers_agree : (a b : Value) → Whole a → compare_of a b ≡ total_of a b
unfolding compare_of total_of
integers_agree a b h = same_answer a b (kinds_differ a b) refl h

pub total_integers : (a b : Value) → NotOf kind.F32 a → NotOf kind.F64 a → NotOf kind.F16 a → compare_of a b ≡ total_of a b
total_integers a b f g h = integers_agree a b (whole_left a f g h)
