-- A magnitude as a whole number of a range: minus zero is 13, a fraction 3, then what lies outside is 4.
use mathlib.Core.Path.{◌≡◌, refl, sym, ◌∙◌, ap, subst}
use mathlib.Core.Bool.{Bool, true, false, not, ◌&&◌, cond}
use Prim.Native.Nat.{ℕ, ◌+◌, ◌*◌, ◌/◌, ◌%◌, ◌^◌, ◌≤◌, ◌<◌}
use native.Mathlib.Nat.{zero-mul, zero-div, zero-mod, le-div_iff_mul-le, div-lt_iff_lt-mul, lt_of_lt_of_le}
use native.Mathlib.Omega.{arith}
use borrow.Author.Tests.{eq-eqb, lt-ltb, le-ltb}
use lib.Dec.{eqb, ltb}
use lib.Pow.{pow_pos, pow-add, pow_mono}
use lib.Ieee.{size}
use lib.Ieee.Digits.{size-lt, size_reaches}
use Rattle.value.specs.Meaning.{unit}
use Rattle.value.specs.Outcome.{gives, refuses}
use Rattle.convert.specs.Convert.{outside}
use Rattle.convert.specs.Inner.{found, whole_at}
use Rattle.convert.proofs.Binary.{size_scale, over_up}
use Rattle.convert.proofs.MinusZero.{some_magnitude}

-- ---- the range

pub limit_is : (low high : ℕ) (s : Bool) (n : ℕ) → outside low high s n ≡ ltb (cond s low high) n
limit_is low high true n = refl
limit_is low high false n = refl

-- ---- how large m * 2^g over 2^d is, by its digits

module _ (m g d : ℕ) (z : 0 < m) where
  pub quotient_large : size m ≤ 64 → d + 64 < size m + g → (m * 2 ^ g % 2 ^ d ≡ 0) × (2 ^ 64 ≤ m * 2 ^ g / 2 ^ d)
  quotient_large h l =
      let s : size (m * 2 ^ g) ≡ size m + g = size_scale m g z in
      let r : 2 ^ (64 + d) ≤ m * 2 ^ g = size_reaches (m * 2 ^ g) (64 + d) (omega arith) in (
        (over_up m g d (omega arith)).0,
        (le-div_iff_mul-le {k = 2 ^ d} {x = 2 ^ 64} {y = m * 2 ^ g} (pow_pos d)).1 (subst (λ (n : ℕ). n ≤ m * 2 ^ g) (pow-add 2 64 d) r),
      )

  pub quotient_fits : (b : ℕ) → size m + g ≤ d + b → m * 2 ^ g / 2 ^ d < 2 ^ b
  quotient_fits b l =
      let s : size (m * 2 ^ g) ≡ size m + g = size_scale m g z in
      let r : 2 ^ size (m * 2 ^ g) ≤ 2 ^ b * 2 ^ d = subst (λ (n : ℕ). 2 ^ size (m * 2 ^ g) ≤ n) (pow-add 2 b d) (pow_mono (omega arith)) in
      (div-lt_iff_lt-mul {k = 2 ^ d} {x = m * 2 ^ g} {y = 2 ^ b} (pow_pos d)).1 (lt_of_lt_of_le (size-lt (m * 2 ^ g)) r)

-- ---- the ways out

module _ (low high : ℕ) (s : Bool) (m : ℕ) (some : 0 < m) where
  no_zero : (s && eqb m 0) ≡ false
  no_zero = some_magnitude s m some

  pub whole_fraction : not (eqb (m % unit) 0) ≡ true → refuses 3 0 ≡ whole_at low high s m
  whole_fraction h = simp (no_zero, h)

  module _ (h : not (eqb (m % unit) 0) ≡ false) where
    pub whole_outside : cond s low high < m / unit → refuses 4 0 ≡ whole_at low high s m
    whole_outside l = simp (no_zero, h, limit_is low high s (m / unit), lt-ltb _ _ l)

    pub whole_inside : m / unit ≤ cond s low high → gives (found s (m / unit)) ≡ whole_at low high s m
    whole_inside l = simp (no_zero, h, limit_is low high s (m / unit), le-ltb _ _ l)

-- of a zero the sign decides
module _ (low high m g : ℕ) (e : m ≡ 0) where
  nothing : m * 2 ^ g ≡ 0
  nothing = rw e (zero-mul (2 ^ g))

  pub whole_minus_zero : refuses 13 0 ≡ whole_at low high true (m * 2 ^ g)
  whole_minus_zero = rw nothing refl

  pub whole_plus_zero : gives (found false 0) ≡ whole_at low high false (m * 2 ^ g)
  whole_plus_zero =
      let r : 0 / unit ≡ 0 = zero-div unit in
      rw nothing (ap (λ (n : ℕ). gives (found false n)) (sym r) ∙ simp (eq-eqb (0 % unit) 0 (zero-mod unit), le-ltb high (0 / unit) (rw r (omega arith))))

below_large : (low high : ℕ) (s : Bool) {n : ℕ} → low < 2 ^ 64 → high < 2 ^ 64 → 2 ^ 64 ≤ n → cond s low high < n
below_large low high true l h g = lt_of_lt_of_le l g
below_large low high false l h g = lt_of_lt_of_le h g

pub whole_large : (low high : ℕ) (s : Bool) (m : ℕ) → 0 < m → low < 2 ^ 64 → high < 2 ^ 64 → m % unit ≡ 0 → 2 ^ 64 ≤ m / unit
    → refuses 4 0 ≡ whole_at low high s m
whole_large low high s m some l h z g = whole_outside low high s m some (ap not (eq-eqb _ _ z)) (below_large low high s l h g)
