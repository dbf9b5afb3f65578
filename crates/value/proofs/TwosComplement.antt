-- Two's complement: what the machine's signed operations give, and that reading undoes writing.
use mathlib.Core.Path.{◌≡◌, refl, sym, ◌∙◌, ap, subst}
use mathlib.Core.Logic.{inl, inr}
use Prim.Native.Nat.{ℕ, ◌-◌, ◌*◌, ◌^◌, ◌≤◌, ◌<◌}
use native.Mathlib.Nat.{lt_of_lt_of_le}
use native.Mathlib.Omega.{arith}
use borrow.Author.Tests.{lt-ltb, le-ltb}
use lib.IntN.{ℤ, pos, negsuc}
use lib.Signed.{mag}
use mir.Syntax.{Width}
use mir.Val.{SFits, bits, hbits, to_z, of_z}
use mir.ValLaws.{to_z-of_z}
use Rattle.value.specs.Meaning.{FitsSigned, twos_of, from_twos}
use Rattle.float.proofs.Naturals.{lt_or_ge}

-- ---- the range of a signed kind, in the library's word

pub fits_below : (half : ℕ) (z : ℤ) → FitsSigned half z → mag z < half
fits_below half (pos n) h = h
fits_below half (negsuc n) h = h

pub below_fits : (half : ℕ) (z : ℤ) → mag z < half → FitsSigned half z
below_fits half (pos n) h = h
below_fits half (negsuc n) h = h

-- ---- a signed number that two widths hold, cast from one to the other

pub wider : {v : Width} (w : Width) {z : ℤ} → 2 ^ hbits v ≤ 2 ^ hbits w → SFits v z → SFits w z
wider w h f = record { sfits = lt_of_lt_of_le f.sfits h }

module _ {v : Width} (w : Width) {z : ℤ} (f : SFits v z) (g : SFits w z) where
  pub recast : SFits w (to_z v (of_z v z))
  recast = subst (λ (k : ℤ). SFits w k) (sym (to_z-of_z v z f)) g

  pub recast_back : to_z w (of_z w (to_z v (of_z v z))) ≡ z
  recast_back = to_z-of_z w _ recast ∙ to_z-of_z v z f

-- ---- reading undoes writing

pub from_low : (half n : ℕ) → n < half → pos n ≡ from_twos half n
from_low half n h = simp (lt-ltb _ _ h)

pub from_high : (half n : ℕ) {x : ℕ} → half ≤ n → x ≡ 2 * half - 1 - n → negsuc x ≡ from_twos half n
from_high half n h q = simp (le-ltb _ _ h) (ap negsuc q)

-- the machine's reading of a pattern
pub reading : (w : Width) (n : ℕ) → 2 ^ bits w ≡ 2 * 2 ^ hbits w → to_z w n ≡ from_twos (2 ^ hbits w) n
reading w n e = elim (lt_or_ge n (2 ^ hbits w)) [
  | inl l ↦ simp (lt-ltb _ _ l)
  | inr g ↦ simp (le-ltb _ _ g) (ap negsuc (omega (arith, e)))
]

pub twos_from : (half n : ℕ) → n < 2 * half → twos_of (2 * half - 1) (from_twos half n) ≡ n
twos_from half n h = elim (lt_or_ge n half) [
  | inl l ↦ ap (twos_of (2 * half - 1)) (sym (from_low half n l))
  | inr g ↦ ap (twos_of (2 * half - 1)) (sym (from_high half n g refl)) ∙ omega arith
]

pub from_twos_lem : (half : ℕ) (z : ℤ) → mag z < half → from_twos half (twos_of (2 * half - 1) z) ≡ z
from_twos_lem half (pos n) h = sym (from_low half n h)
from_twos_lem half (negsuc n) h = sym (from_high half (2 * half - 1 - n) (omega arith) (omega arith))

-- the low n bits, read in two's complement, fit
pub from_fits : (half n : ℕ) → n < 2 * half → mag (from_twos half n) < half
from_fits half n h = elim (lt_or_ge n half) [
  | inl l ↦ subst (λ (z : ℤ). mag z < half) (from_low half n l) l
  | inr g ↦ let b : 2 * half - 1 - n < half = omega arith in subst (λ (z : ℤ). mag z < half) (from_high half n g refl) b
]
