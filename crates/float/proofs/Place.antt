-- The position is a bijection from the patterns of a format onto the signed numbers of its width, both ends included.
use mathlib.Core.Path.{◌≡◌, refl, sym, ◌∙◌, ap}
use mathlib.Core.Logic.{inl, inr}
use mathlib.Core.Bool.{Bool, true, false, cond}
use Prim.Native.Nat.{ℕ, ◌+◌, ◌-◌, ◌*◌, ◌%◌, ◌^◌, ◌≤◌, ◌<◌}
use native.Mathlib.Nat.{mod-lt, mod-eq_of_lt, mod-eq-sub-mod}
use native.Mathlib.Omega.{arith}
use borrow.Author.Tests.{le-leb, lt-leb}
use lib.Pow.{pow_pos}
use lib.IntN.{ℤ, pos, negsuc, ◌-ℤ◌}
use lib.Signed.{mag}
use mir.Syntax.{Width, w16, w32, w64}
use mir.Val.{hbits, to_z, of_z}
use mir.ValLaws.{to_z_pos}
use Rattle.float.specs.Format.{negative_of, abs_of, position_of}
use Rattle.float.proofs.Naturals.{lt_or_ge}
use Rattle.float.proofs.Magnitude.{abs_clear, abs_set, abs_lt}
use Rattle.float.proofs.Machine.{down_back}

-- for a function that has abs in a local
pub position_clear : (p e b : ℕ) {x : ℕ} → x ≡ abs_of p e b → b < 2 ^ (p + e) → pos x ≡ position_of p e b
unfolding position_of
position_clear p e b q h = simp (lt-leb _ _ h) (ap pos q)

pub position_set : (p e b : ℕ) {x : ℕ} → x ≡ abs_of p e b → 2 ^ (p + e) ≤ b → negsuc x ≡ position_of p e b
unfolding position_of
position_set p e b q h = simp (le-leb _ _ h) (ap negsuc q)

-- -x - 1 as a machine of this width has it
abbrev down : Width → ℕ → ℤ
down w x = to_z w (of_z w (to_z w 0 -ℤ to_z w x)) -ℤ to_z w 1

-- the machine makes the position of abs, the rest by the sign's weight: abs itself for a clear sign bit, -abs - 1 for a set one
module _ (w : Width) (p e : ℕ) (h : hbits w ≡ p + e) (b : ℕ) where
  below_half : b % 2 ^ (p + e) < 2 ^ hbits w
  below_half = rw h (mod-lt b (pow_pos (p + e)))

  clear_at : b < 2 ^ (p + e) → to_z w (b % 2 ^ (p + e)) ≡ position_of p e b
  clear_at k = to_z_pos w (b % 2 ^ (p + e)) below_half ∙ position_clear p e b (mod-eq_of_lt k ∙ sym (abs_clear p e b k)) k

  set_at : b < 2 * 2 ^ (p + e) → 2 ^ (p + e) ≤ b → to_z w (of_z w (down w (b % 2 ^ (p + e)))) ≡ position_of p e b
  set_at l k =
      down_back w (b % 2 ^ (p + e)) below_half
      ∙ position_set p e b (mod-eq-sub-mod k ∙ mod-eq_of_lt (omega arith) ∙ sym (abs_set p e b k)) k

-- the same at the three widths, as the functions' attributes name it
pub clear_f16 : (b : ℕ) → b < 2 ^ 15 → to_z w16 (b % 2 ^ 15) ≡ position_of 10 5 b
clear_f16 = clear_at w16 10 5 refl

pub set_f16 : (b : ℕ) → b < 2 ^ 16 → 2 ^ 15 ≤ b → to_z w16 (of_z w16 (down w16 (b % 2 ^ 15))) ≡ position_of 10 5 b
set_f16 = set_at w16 10 5 refl

pub clear_f32 : (b : ℕ) → b < 2 ^ 31 → to_z w32 (b % 2 ^ 31) ≡ position_of 23 8 b
clear_f32 = clear_at w32 23 8 refl

pub set_f32 : (b : ℕ) → b < 2 ^ 32 → 2 ^ 31 ≤ b → to_z w32 (of_z w32 (down w32 (b % 2 ^ 31))) ≡ position_of 23 8 b
set_f32 = set_at w32 23 8 refl

pub clear_f64 : (b : ℕ) → b < 2 ^ 63 → to_z w64 (b % 2 ^ 63) ≡ position_of 52 11 b
clear_f64 = clear_at w64 52 11 refl

pub set_f64 : (b : ℕ) → b < 2 ^ 64 → 2 ^ 63 ≤ b → to_z w64 (of_z w64 (down w64 (b % 2 ^ 63))) ≡ position_of 52 11 b
set_f64 = set_at w64 52 11 refl

-- every pattern has its own position: the pattern is read back from it
abbrev pub pattern_at : ℕ → ℕ → ℤ → ℕ
pattern_at p e (pos x) = x
pattern_at p e (negsuc x) = 2 ^ (p + e) + x

pub pattern_position : (p e b : ℕ) → pattern_at p e (position_of p e b) ≡ b
pattern_position p e b = elim (lt_or_ge b (2 ^ (p + e))) [
  | inl l ↦ ap (pattern_at p e) (sym (position_clear p e b (sym (abs_clear p e b l)) l))
  | inr g ↦ ap (pattern_at p e) (sym (position_set p e b refl g)) ∙ rw (abs_set p e b g) (omega arith)
]

pub position_injective : (p e a b : ℕ) → position_of p e a ≡ position_of p e b → a ≡ b
position_injective p e a b q = sym (pattern_position p e a) ∙ ap (pattern_at p e) q ∙ pattern_position p e b

-- every position of the width is reached
pub pattern_lt : (p e : ℕ) (z : ℤ) → mag z < 2 ^ (p + e) → pattern_at p e z < 2 * 2 ^ (p + e)
pattern_lt p e (pos x) h = omega arith
pattern_lt p e (negsuc x) h = omega arith

pub position_pattern : (p e : ℕ) (z : ℤ) → mag z < 2 ^ (p + e) → position_of p e (pattern_at p e z) ≡ z
position_pattern p e (pos x) h = sym (position_clear p e x (sym (abs_clear p e x h)) h)
position_pattern p e (negsuc x) h =
    let g : 2 ^ (p + e) ≤ 2 ^ (p + e) + x = omega arith in
    let q : x ≡ abs_of p e (2 ^ (p + e) + x) = rw (abs_set p e (2 ^ (p + e) + x) g) (omega arith) in
    sym (position_set p e (2 ^ (p + e) + x) q g)

-- the sign apart, the position is abs
pub mag_position : (p e b : ℕ) → mag (position_of p e b) ≡ abs_of p e b
unfolding position_of
mag_position p e b = either (negative_of p e b) (abs_of p e b)
  where
    either : (t : Bool) (x : ℕ) → mag (cond t (negsuc x) (pos x)) ≡ x
    either true x = refl
    either false x = refl

-- no position lies outside the width
pub position_fits : (p e b : ℕ) → b < 2 * 2 ^ (p + e) → mag (position_of p e b) < 2 ^ (p + e)
position_fits p e b h = rw (mag_position p e b) (abs_lt p e b h)

-- the two ends: the lowest is the pattern of all ones, the highest that with the sign bit clear
pub position_lowest : (p e : ℕ) → position_of p e (2 * 2 ^ (p + e) - 1) ≡ negsuc (2 ^ (p + e) - 1)
position_lowest p e =
    let h : 0 < 2 ^ (p + e) = pow_pos (p + e) in
    let q : 2 * 2 ^ (p + e) - 1 ≡ 2 ^ (p + e) + (2 ^ (p + e) - 1) = omega arith in
    ap (position_of p e) q ∙ position_pattern p e (negsuc (2 ^ (p + e) - 1)) (omega arith)

pub position_highest : (p e : ℕ) → position_of p e (2 ^ (p + e) - 1) ≡ pos (2 ^ (p + e) - 1)
position_highest p e =
    let h : 0 < 2 ^ (p + e) = pow_pos (p + e) in
    position_pattern p e (pos (2 ^ (p + e) - 1)) (omega arith)
