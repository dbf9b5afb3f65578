-- The default range in numbers: its ends are 0, without a sign, and 65535, and what lies between them is clamped to itself.
use mathlib.Core.Path.{◌≡◌, refl, ◌∙◌, ap}
use mathlib.Core.Logic.{inl, inr}
use mathlib.Core.Bool.{true, false}
use Prim.Native.Nat.{ℕ, ◌*◌, ◌≤◌}
use native.Mathlib.Omega.{arith}
use lib.Ieee.{Float, binary32, to_bits, of_bits, of_fields, odd}
use Rattle.float.specs.Format.{f32, abs_of, mag_of}
use Rattle.float.specs.Number.{Exact, finite, times}
use Rattle.float.specs.Order.{order_n, is_less, is_less_or_equal, is_greater, is_unordered, pattern_of, pattern_in}
use Rattle.float.proofs.Naturals.{three_ways, order_less, order_equal, order_greater}
use Rattle.value.specs.Meaning.{unit, step_of}
use Rattle.value.specs.Outcome.{gives}
use Rattle.cmp.proofs.Numbers.{patterns_order}
use Rattle.choose.specs.declared.Range.{Range}
use Rattle.choose.specs.Choose.{sample_order, default_range, sample_of}

-- what a sample stands for, as the f32 value that holds it
abbrev pub sample_exact : Float → Exact
sample_exact x = times (step_of f32) (pattern_in f32 (to_bits binary32 x))

-- ---- two numbers that are not negative

at_most : (m n : ℕ) → m ≤ n → (is_less_or_equal (order_n m n) ≡ true) × (is_greater (order_n m n) ≡ false)
at_most m n h = elim (three_ways m n) [
  | inl l ↦ rw (order_less m n l) (refl, refl)
  | inr (inl q) ↦ rw (order_equal m n q) (refl, refl)
  | inr (inr g) ↦ absurd (omega arith)
]

at_least : (m n : ℕ) → n ≤ m → (is_unordered (order_n m n) ≡ false) × (is_less (order_n m n) ≡ false)
at_least m n h = elim (three_ways m n) [
  | inl l ↦ absurd (omega arith)
  | inr (inl q) ↦ rw (order_equal m n q) (refl, refl)
  | inr (inr g) ↦ rw (order_greater m n g) (refl, refl)
]

by_numbers : (x y : Float) {m n : ℕ} → sample_exact x ≡ finite false m → sample_exact y ≡ finite false n → sample_order x y ≡ order_n m n
by_numbers x y h k = patterns_order f32 (to_bits binary32 x) (to_bits binary32 y) ∙ cc (h, k)

-- ---- a range whose ends are not negative

module _ (range : Range) (l u : ℕ) (low : sample_exact range.lower ≡ finite false l) (high : sample_exact range.upper ≡ finite false u) where
  in_order : l ≤ u → is_less_or_equal (sample_order range.lower range.upper) ≡ true
  in_order h = ap is_less_or_equal (by_numbers range.lower range.upper low high) ∙ (at_most l u h).0

  -- a sample between the ends
  kept : (x : Float) (m : ℕ) → sample_exact x ≡ finite false m → l ≤ m → m ≤ u → sample_of range x ≡ gives x
  unfolding sample_of
  kept x m own hl hu =
      let below = at_least m l hl in
      let above = at_most m u hu in
      simp (in_order (omega arith), by_numbers x range.lower own low, by_numbers x range.upper own high, below.0, below.1, above.1)

-- ---- the default range

pub lower_end : sample_exact default_range.lower ≡ finite false 0
unfolding to_bits of_bits of_fields odd pattern_of abs_of mag_of step_of
lower_end = refl

pub upper_end : sample_exact default_range.upper ≡ finite false (65535 * unit)
unfolding to_bits of_bits of_fields odd pattern_of abs_of mag_of step_of unit
upper_end = refl

pub default_in_order : is_less_or_equal (sample_order default_range.lower default_range.upper) ≡ true
default_in_order = in_order default_range 0 (65535 * unit) lower_end upper_end (omega arith)

pub default_kept : (x : Float) (m : ℕ) → sample_exact x ≡ finite false m → m ≤ 65535 * unit → sample_of default_range x ≡ gives x
default_kept x m own h = kept default_range 0 (65535 * unit) lower_end upper_end x m own (omega arith) h
