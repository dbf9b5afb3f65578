-- Where patterns lie in the total order: one that compares Less lies lower, a NaN lies outside all others, minus zero lies below plus zero.
use mathlib.Core.Path.{◌≡◌, refl, sym, ◌∙◌}
use mathlib.Core.Logic.{inl, inr}
use mathlib.Core.Bool.{Bool, true, false, cond}
use Prim.Native.Nat.{ℕ, zero, suc, ◌+◌, ◌-◌, ◌≤◌, ◌<◌}
use native.Mathlib.Omega.{arith}
use borrow.Author.Tests.{ltb-true, ltb-false}
use lib.Pow.{pow_pos}
use lib.IntN.{pos, negsuc}
use Rattle.float.specs.Format.{sign_of, inf_of, negative_of, abs_of, nan_of, position_of}
use Rattle.float.specs.Number.{signed_of}
use Rattle.float.specs.Order.{order_n, order_z, compare_of}
use Rattle.float.specs.declared.Order.TheVariants.{Less, Greater}
use Rattle.float.proofs.Naturals.{lt_or_ge, three_ways, order_less, order_equal, order_greater}
use Rattle.float.proofs.Tests.{clash}
use Rattle.float.proofs.Magnitude.{abs_clear, abs_set}
use Rattle.float.proofs.Place.{position_clear, position_set}
use Rattle.float.proofs.Comparing.{by_sign_lem, compare_nan_left, compare_nan_right, compare_signed}

not_below_zero : (x : ℕ) → order_n x 0 ≡ Less → ⊥
not_below_zero x h = elim (three_ways x 0) [
  | inl l ↦ omega arith
  | inr (inl q) ↦ clash (cc (order_equal x 0 q))
  | inr (inr g) ↦ clash (cc (order_greater x 0 g))
]

signed_position : (s t : Bool) (x y : ℕ) → order_z (signed_of s x) (signed_of t y) ≡ Less →
    order_z (cond s (negsuc x) (pos x)) (cond t (negsuc y) (pos y)) ≡ Less
signed_position false false x y h = h
signed_position false true x zero h = absurd (not_below_zero x h)
signed_position false true x (suc y) h = cc
signed_position true false x y h = refl
signed_position true true x y h = sym (by_sign_lem true x true y) ∙ h

pub less_position : (p e a b : ℕ) → 0 < inf_of p e → compare_of p e a b ≡ Less → order_z (position_of p e a) (position_of p e b) ≡ Less
unfolding position_of
less_position p e a b i h = elim (lt_or_ge (inf_of p e) (abs_of p e a)) [
  | inl n ↦ clash (cc (compare_nan_left p e a b refl n))
  | inr k ↦ elim (lt_or_ge (inf_of p e) (abs_of p e b)) [
    | inl n ↦ clash (cc (compare_nan_right p e a b refl n))
    | inr l ↦ signed_position (negative_of p e a) (negative_of p e b) (abs_of p e a) (abs_of p e b) (compare_signed p e a b i refl refl k l refl refl ∙ h)
  ]
]

-- ---- what the comparison does not tell

-- the sign of the greater abs decides
outside : (s t : Bool) (x y : ℕ) → y < x → order_z (cond s (negsuc x) (pos x)) (cond t (negsuc y) (pos y)) ≡ cond s Less Greater
outside false false x y h = order_greater x y h
outside false true x y h = refl
outside true false x y h = refl
outside true true x y h = order_less y x h

pub nan_outside : (p e a b : ℕ) → nan_of p e a ≡ true → nan_of p e b ≡ false
    → order_z (position_of p e a) (position_of p e b) ≡ cond (negative_of p e a) Less Greater
unfolding position_of
nan_outside p e a b m n =
    let g : inf_of p e < abs_of p e a = ltb-true _ _ m in
    let l : abs_of p e b ≤ inf_of p e = ltb-false _ _ n in
    outside (negative_of p e a) (negative_of p e b) (abs_of p e a) (abs_of p e b) (omega arith)

pub zeros_ordered : (p e : ℕ) → order_z (position_of p e (sign_of p e)) (position_of p e 0) ≡ Less
zeros_ordered p e =
    let u : 0 < sign_of p e = pow_pos (p + e) in
    let g : sign_of p e ≤ sign_of p e = omega arith in
    let q : 0 ≡ sign_of p e - sign_of p e = omega arith in
    cc (position_set p e (sign_of p e) (q ∙ sym (abs_set p e (sign_of p e) g)) g, position_clear p e 0 (sym (abs_clear p e 0 u)) u)
