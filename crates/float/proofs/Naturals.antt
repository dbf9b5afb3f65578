-- Two natural numbers against each other, as the tests and as the order say it.
use mathlib.Core.Path.{◌≡◌, refl, sym, ◌∙◌, ap}
use mathlib.Core.Logic.{◌⊎◌, inl, inr}
use mathlib.Core.Bool.{Bool, true, false}
use Prim.Native.Nat.{ℕ, ◌≤◌, ◌<◌}
use native.Mathlib.Nat.{eq-or-lt_of_le}
use native.Mathlib.Omega.{arith}
use borrow.Author.Tests.{lt-ltb, le-ltb, ltb-true, ltb-false, eq-eqb, ne_eqb}
use lib.Dec.{ltb, eqb}
use lib.IntN.{pos}
use Rattle.float.specs.Order.{order_n, order_z, is_less, is_equal}
use Rattle.float.specs.declared.Order.TheVariants.{Less, Equal, Greater}

by_test : (a b : ℕ) (t : Bool) → ltb a b ≡ t → (a < b) ⊎ (b ≤ a)
by_test a b true q = inl (ltb-true a b q)
by_test a b false q = inr (ltb-false a b q)

pub lt_or_ge : (a b : ℕ) → (a < b) ⊎ (b ≤ a)
lt_or_ge a b = by_test a b (ltb a b) refl

pub three_ways : (a b : ℕ) → (a < b) ⊎ ((a ≡ b) ⊎ (b < a))
three_ways a b = elim (lt_or_ge a b) [
  | inl l ↦ inl l
  | inr g ↦ elim (eq-or-lt_of_le g) [ inl q ↦ inr (inl (sym q)) | inr m ↦ inr (inr m) ]
]

pub order_less : (m n : ℕ) → m < n → order_n m n ≡ Less
order_less m n h = simp (lt-ltb _ _ h)

pub order_greater : (m n : ℕ) → n < m → order_n m n ≡ Greater
order_greater m n h = let l : n ≤ m = omega arith in simp (le-ltb m n l, lt-ltb n m h)

pub order_equal : (m n : ℕ) → m ≡ n → order_n m n ≡ Equal
order_equal m n q = let l : n ≤ m = omega arith in let k : m ≤ n = omega arith in simp (le-ltb m n l, le-ltb n m k)

-- of natural numbers, the order of integers is that order
pub order_naturals : (m n : ℕ) → order_z (pos m) (pos n) ≡ order_n m n
order_naturals m n = refl

-- two tests of that order, as tests of the numbers
pub less_test : (m n : ℕ) → is_less (order_n m n) ≡ ltb m n
less_test m n = elim (three_ways m n) [
  | inl l ↦ ap is_less (order_less m n l) ∙ sym (lt-ltb m n l)
  | inr (inl q) ↦ ap is_less (order_equal m n q) ∙ sym (le-ltb m n (omega arith))
  | inr (inr g) ↦ ap is_less (order_greater m n g) ∙ sym (le-ltb m n (omega arith))
]

pub equal_test : (m n : ℕ) → is_equal (order_n m n) ≡ eqb m n
equal_test m n = elim (three_ways m n) [
  | inl l ↦ ap is_equal (order_less m n l) ∙ sym (ne_eqb m n (λ q. omega arith))
  | inr (inl q) ↦ ap is_equal (order_equal m n q) ∙ sym (eq-eqb m n q)
  | inr (inr g) ↦ ap is_equal (order_greater m n g) ∙ sym (ne_eqb m n (λ q. omega arith))
]

pub eqb_turned : (m n : ℕ) → eqb m n ≡ eqb n m
eqb_turned m n = elim (three_ways m n) [
  | inl l ↦ ne_eqb m n (λ q. omega arith) ∙ sym (ne_eqb n m (λ q. omega arith))
  | inr (inl q) ↦ eq-eqb m n q ∙ sym (eq-eqb n m (sym q))
  | inr (inr g) ↦ ne_eqb m n (λ q. omega arith) ∙ sym (ne_eqb n m (λ q. omega arith))
]
