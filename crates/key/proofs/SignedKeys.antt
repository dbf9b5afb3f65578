-- Keys of signed numbers, over half the number of patterns: in range, ordered as the numbers, read back, and written back.
-- The order is proved for any shift that leaves out some numbers below zero: signed kinds leave out none, floats the one of minus zero.
use mathlib.Core.Path.{◌≡◌, refl, sym, ap, ◌∙◌}
use mathlib.Core.Logic.{inl, inr}
use Prim.Native.Nat.{ℕ, suc, ◌+◌, ◌-◌, ◌*◌, ◌%◌, ◌≤◌, ◌<◌}
use native.Mathlib.Nat.{mod-eq_of_lt, add-mod_right, mod-mod}
use native.Mathlib.Omega.{arith}
use lib.IntN.{ℤ, pos, negsuc, nat_abs}
use Rattle.float.specs.Order.{order_n, order_z}
use Rattle.float.proofs.Naturals.{lt_or_ge, three_ways, order_less, order_greater, order_equal}
use Rattle.value.specs.Meaning.{FitsSigned, from_twos}
use Rattle.value.proofs.TwosComplement.{from_low, from_high}
use Rattle.key.specs.Key.{shifted}

-- z moved up by s, and g more below zero
abbrev pub spread : ℕ → ℕ → ℤ → ℕ
spread g s (pos n) = s + n
spread g s (negsuc n) = s - (suc n + g)

pub spread_order : (g s : ℕ) (y z : ℤ) → nat_abs y + g ≤ s → nat_abs z + g ≤ s → order_n (spread g s y) (spread g s z) ≡ order_z y z
spread_order g s (pos m) (pos n) h k = elim (three_ways m n) [
  | inl l ↦ order_less (s + m) (s + n) (omega arith) ∙ sym (order_less m n l)
  | inr (inl q) ↦ order_equal (s + m) (s + n) (omega arith) ∙ sym (order_equal m n q)
  | inr (inr l) ↦ order_greater (s + m) (s + n) (omega arith) ∙ sym (order_greater m n l)
]
spread_order g s (pos m) (negsuc n) h k = order_greater (s + m) (s - (suc n + g)) (omega arith)
spread_order g s (negsuc m) (pos n) h k = order_less (s - (suc m + g)) (s + n) (omega arith)
spread_order g s (negsuc m) (negsuc n) h k = elim (three_ways m n) [
  | inl l ↦ order_greater (s - (suc m + g)) (s - (suc n + g)) (omega arith) ∙ sym (order_greater n m l)
  | inr (inl q) ↦ order_equal (s - (suc m + g)) (s - (suc n + g)) (omega arith) ∙ sym (order_equal n m (sym q))
  | inr (inr l) ↦ order_less (s - (suc m + g)) (s - (suc n + g)) (omega arith) ∙ sym (order_less n m l)
]

module _ (h : ℕ) where
  none_left_out : (z : ℤ) → shifted h z ≡ spread 0 h z
  none_left_out (pos n) = refl
  none_left_out (negsuc n) = omega arith

  reaches : (z : ℤ) → FitsSigned h z → nat_abs z + 0 ≤ h
  reaches (pos n) l = omega arith
  reaches (negsuc n) l = omega arith

  pub shifted_order : (y z : ℤ) → FitsSigned h y → FitsSigned h z → order_n (shifted h y) (shifted h z) ≡ order_z y z
  shifted_order y z k l = rw (none_left_out y, none_left_out z) (spread_order 0 h y z (reaches y k) (reaches z l))

  pub shifted_below : (z : ℤ) → FitsSigned h z → shifted h z < 2 * h
  shifted_below (pos n) l = omega arith
  shifted_below (negsuc n) l = omega arith

  -- the key with its highest bit turned is the two's complement; the second rest is that of value_of
  abbrev pub turned : ℕ → ℕ
  turned n = (n + h) % (2 * h) % (2 * h)

  turned_low : (n : ℕ) → n < h → turned n ≡ n + h
  turned_low n l = mod-mod (n + h) (2 * h) ∙ mod-eq_of_lt (omega arith)

  turned_high : (n : ℕ) → h ≤ n → n < 2 * h → turned n ≡ n - h
  turned_high n g l =
      let q : n + h ≡ n - h + 2 * h = omega arith in
      mod-mod (n + h) (2 * h) ∙ ap (λ (m : ℕ). m % (2 * h)) q ∙ add-mod_right (n - h) (2 * h) ∙ mod-eq_of_lt (omega arith)

  -- what is read of a number
  read_low : (n : ℕ) → n < h → from_twos h (turned n) ≡ negsuc (h - 1 - n)
  read_low n l = rw (turned_low n l) (sym (from_high h (n + h) (omega arith) (omega arith)))

  read_high : (n : ℕ) → h ≤ n → n < 2 * h → from_twos h (turned n) ≡ pos (n - h)
  read_high n g l = rw (turned_high n g l) (sym (from_low h (n - h) (omega arith)))

  pub shifted_read : (z : ℤ) → FitsSigned h z → from_twos h (turned (shifted h z)) ≡ z
  shifted_read (pos n) l = read_high (h + n) (omega arith) (omega arith) ∙ ap pos (omega arith)
  shifted_read (negsuc n) l = read_low (h - suc n) (omega arith) ∙ ap negsuc (omega arith)

  pub read_shifted : (n : ℕ) → n < 2 * h → FitsSigned h (from_twos h (turned n)) × (shifted h (from_twos h (turned n)) ≡ n)
  read_shifted n l = elim (lt_or_ge n h) [
    | inl k ↦ rw (read_low n k) (omega arith, omega arith)
    | inr g ↦ rw (read_high n g l) (omega arith, omega arith)
  ]
