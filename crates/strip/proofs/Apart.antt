-- How far two positions are apart: counted from the lowest number of the width, it is the difference of two natural numbers.
use Rattle.std.proofs.Common.{◌≡◌, ℕ, zero, suc, ◌+◌, ◌-◌, ◌*◌, ◌^◌, ◌<◌, ◌≤◌, cond, ltb, ℤ, pos, negsuc, ◌-ℤ◌, nat_abs, sym, refl, ap, ◌∙◌, inl, inr}
use Rattle.std.proofs.Common.{arith, le-ltb, lt-ltb}
use lib.IntN.{sub_ℕ}
use lib.Signed.{mag}
use Rattle.float.specs.Format.{position_of}
use Rattle.float.proofs.Naturals.{lt_or_ge}
use Rattle.float.proofs.Magnitude.{abs_clear, abs_set}
use Rattle.float.proofs.Place.{position_clear, position_set, position_fits}
use Rattle.strip.specs.Difference.{distance}
use Rattle.strip.specs.Inner.{shifted_of}

-- ---- two natural numbers

-- the larger less the smaller
abbrev pub gap : ℕ → ℕ → ℕ
gap m n = cond (ltb m n) (n - m) (m - n)

-- as the machine says it
pub gap_is : (m n : ℕ) → (m - n) + (n - m) ≡ gap m n
gap_is m n = elim (lt_or_ge m n) [ inl l ↦ rw (lt-ltb m n l) (omega arith) | inr g ↦ rw (le-ltb m n g) (omega arith) ]

gap_up : (m n : ℕ) {d : ℕ} → m + d ≡ n → d ≡ gap m n
gap_up m n h = elim (lt_or_ge m n) [ inl l ↦ rw (lt-ltb m n l) (omega arith) | inr g ↦ rw (le-ltb m n g) (omega arith) ]

gap_down : (m n : ℕ) {d : ℕ} → n + d ≡ m → d ≡ gap m n
gap_down m n h = elim (lt_or_ge m n) [ inl l ↦ rw (lt-ltb m n l) (omega arith) | inr g ↦ rw (le-ltb m n g) (omega arith) ]

gap_add : (k m n : ℕ) → gap m n ≡ gap (k + m) (k + n)
gap_add k m n = elim (lt_or_ge m n) [
  | inl l ↦ rw (lt-ltb m n l) (gap_up (k + m) (k + n) (omega arith))
  | inr g ↦ rw (le-ltb m n g) (gap_down (k + m) (k + n) (omega arith))
]

gap_turned : (half m n : ℕ) → m ≤ half → n ≤ half → gap m n ≡ gap (half - n) (half - m)
gap_turned half m n h k = elim (lt_or_ge m n) [
  | inl l ↦ rw (lt-ltb m n l) (gap_up (half - n) (half - m) (omega arith))
  | inr g ↦ rw (le-ltb m n g) (gap_down (half - n) (half - m) (omega arith))
]

-- ---- two integers

natural_apart : (m n : ℕ) → nat_abs (sub_ℕ m n) ≡ gap m n
natural_apart m n = elim (lt_or_ge m n) [ inl l ↦ rw (lt-ltb m n l) (omega arith) | inr g ↦ rw (le-ltb m n g) refl ]

negative_apart : (m n : ℕ) → nat_abs (negsuc m -ℤ pos n) ≡ suc m + n
negative_apart m zero = rw (lt-ltb 0 (suc m) (omega arith)) (omega arith)
negative_apart m (suc n) = omega arith

-- how far a number is above the lowest of a width, half of whose numbers are below 0
abbrev pub from_lowest : ℕ → ℤ → ℕ
from_lowest half (pos x) = half + x
from_lowest half (negsuc x) = half - suc x

pub apart_from_lowest : (half : ℕ) (x y : ℤ) → mag x < half → mag y < half → nat_abs (x -ℤ y) ≡ gap (from_lowest half x) (from_lowest half y)
apart_from_lowest half (pos a) (pos zero) h k = gap_down (half + a) (half + 0) (omega arith)
apart_from_lowest half (pos a) (pos (suc b)) h k = natural_apart a (suc b) ∙ gap_add half a (suc b)
apart_from_lowest half (pos a) (negsuc b) h k = gap_down (half + a) (half - suc b) (omega arith)
apart_from_lowest half (negsuc a) (pos b) h k = negative_apart a b ∙ gap_up (half - suc a) (half + b) (omega arith)
apart_from_lowest half (negsuc a) (negsuc b) h k = natural_apart (suc b) (suc a) ∙ gap_turned half (suc b) (suc a) k h

-- ---- two patterns

module _ (p e b : ℕ) where
  pub lowest_clear : b < 2 ^ (p + e) → from_lowest (2 ^ (p + e)) (position_of p e b) ≡ 2 ^ (p + e) + b
  lowest_clear h = ap (from_lowest (2 ^ (p + e))) (sym (position_clear p e b (sym (abs_clear p e b h)) h))

  pub lowest_set : 2 ^ (p + e) ≤ b → from_lowest (2 ^ (p + e)) (position_of p e b) ≡ 2 * 2 ^ (p + e) - 1 - b
  lowest_set h = ap (from_lowest (2 ^ (p + e))) (sym (position_set p e b (sym (abs_set p e b h)) h)) ∙ omega arith

-- ---- two samples

from_lowest_lem : (b : ℕ) → from_lowest (2 ^ 31) (position_of 23 8 b) ≡ shifted_of b
from_lowest_lem b = elim (lt_or_ge b (2 ^ 31)) [
  | inl l ↦ lowest_clear 23 8 b l ∙ rw (lt-ltb b (2 ^ 31) l) (omega arith)
  | inr g ↦ lowest_set 23 8 b g ∙ rw (le-ltb b (2 ^ 31) g) refl
]

pub samples_apart : (a b : ℕ) → a < 2 ^ 32 → b < 2 ^ 32 → gap (shifted_of a) (shifted_of b) ≡ distance (record { left = a; right = b })
samples_apart a b h k =
    sym (apart_from_lowest (2 ^ 31) (position_of 23 8 a) (position_of 23 8 b) (position_fits 23 8 a h) (position_fits 23 8 b k)
    ∙ rw (from_lowest_lem a, from_lowest_lem b) refl)
