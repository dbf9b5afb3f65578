-- The machine's -x - 1 of a number below its sign bit's weight, at any width.
use mathlib.Core.Path.{◌≡◌, refl, sym, ◌∙◌, subst}
use Prim.Native.Nat.{ℕ, zero, suc, ◌-◌, ◌^◌, ◌<◌}
use native.Mathlib.Nat.{add-zero}
use native.Mathlib.Omega.{arith}
use borrow.Author.Tests.{lt-ltb}
use lib.Dec.{lit<}
use lib.Pow.{pow_pos}
use lib.IntN.{ℤ, pos, negsuc, neg_ℤ, ◌-ℤ◌}
use lib.Signed.{mag}
use mir.Syntax.{Width, w8, w16, w32, w64, w128}
use mir.Val.{hbits, to_z, of_z, SFits}
use mir.ValLaws.{to_z_pos, to_z-of_z}

one_fits : (w : Width) → 1 < 2 ^ hbits w
one_fits w8 = lit< tt
one_fits w16 = lit< tt
one_fits w32 = lit< tt
one_fits w64 = lit< tt
one_fits w128 = lit< tt

negated : (n : ℕ) → pos 0 -ℤ pos n ≡ neg_ℤ (pos n)
negated zero = refl
negated (suc n) = let q : suc n - 1 ≡ n = omega arith in simp (lt-ltb 0 (suc n) (omega arith), q)

less_one : (n : ℕ) → neg_ℤ (pos n) -ℤ pos 1 ≡ negsuc n
less_one zero = refl
less_one (suc n) = simp add-zero

neg_small : (n : ℕ) {k : ℕ} → n < k → mag (neg_ℤ (pos n)) < k
neg_small zero h = h
neg_small (suc n) h = omega arith

module _ (w : Width) (x : ℕ) (h : x < 2 ^ hbits w) where
  neg_is : to_z w 0 -ℤ to_z w x ≡ neg_ℤ (pos x)
  neg_is = rw (to_z_pos w 0 (pow_pos (hbits w)), to_z_pos w x h) (negated x)

  neg_fits : SFits w (to_z w 0 -ℤ to_z w x)
  neg_fits = subst (λ (z : ℤ). SFits w z) (sym neg_is) (record { sfits = neg_small x h })

  neg_back : to_z w (of_z w (to_z w 0 -ℤ to_z w x)) ≡ neg_ℤ (pos x)
  neg_back = to_z-of_z w _ neg_fits ∙ neg_is

  down_is : to_z w (of_z w (to_z w 0 -ℤ to_z w x)) -ℤ to_z w 1 ≡ negsuc x
  down_is = rw (neg_back, to_z_pos w 1 (one_fits w)) (less_one x)

  down_fits : SFits w (to_z w (of_z w (to_z w 0 -ℤ to_z w x)) -ℤ to_z w 1)
  down_fits = subst (λ (z : ℤ). SFits w z) (sym down_is) (record { sfits = h })

  pub down_back : to_z w (of_z w (to_z w (of_z w (to_z w 0 -ℤ to_z w x)) -ℤ to_z w 1)) ≡ negsuc x
  down_back = to_z-of_z w _ down_fits ∙ down_is
