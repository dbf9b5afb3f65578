-- The language's own `<`, `<=`, `==`, `!=` on floats are the tests of the comparison of their bits: a common factor changes no order.
use mathlib.Core.Path.{◌≡◌, refl, sym, ◌∙◌, ap}
use mathlib.Core.Bool.{Bool, true, false, not, ◌||◌, ◌&&◌, cond, and-true, and-false}
use Prim.Native.Nat.{ℕ, zero, suc, ◌+◌, ◌*◌, ◌^◌, ◌<◌}
use native.Mathlib.Nat.{zero-mul, mul_assoc, mul_comm, mul_right_comm, mul-pos}
use native.Mathlib.Omega.{arith}
use borrow.Author.Tests.{lt-ltb}
use lib.Dec.{T, eqb, eqb-suc-zero, eqb-zero-suc}
use lib.Pow.{pow_pos}
use lib.IntN.{ℤ}
use lib.Ieee.{Float, Format, low, up, down, to_bits, lt, le, eq, ne, below, level, fits}
use lib.Ieee.Fits.{down_pos}
use Rattle.float.specs.Language.{own_of}
use Rattle.float.specs.Number.{signed_of, Exact, number_of}
use Rattle.float.specs.Order.{order_z, order_of, compare_of, compare_in, is_less, is_equal, is_not_equal, is_less_or_equal}
use Rattle.float.specs.declared.Order.{Order}
use Rattle.float.specs.declared.Order.TheVariants.{Less, Equal, Greater, Unordered}
use Rattle.float.proofs.Naturals.{less_test, equal_test, eqb_turned}
use Rattle.float.proofs.Comparing.{by_sign, by_sign_lem, signed_kept, times_rises}
use Rattle.float.proofs.Language.{Means, means_nan, means_inf, means_fin, float_means}

-- two magnitudes in other units, a over b as P over Q
rescaled : (s t : Bool) (P Q L a b D : ℕ) → 0 < L → 0 < D → P * L ≡ a * D → Q * L ≡ b * D
    → order_z (signed_of s P) (signed_of t Q) ≡ order_z (signed_of s a) (signed_of t b)
rescaled s t P Q L a b D hL hD p q =
    sym (signed_kept (λ (x : ℕ). x * L) (zero-mul L) (times_rises L hL) s P t Q)
    ∙ cc (p, q)
    ∙ signed_kept (λ (x : ℕ). x * D) (zero-mul D) (times_rises D hD) s a t b

below_sign : (s : Bool) (P : ℕ) (t : Bool) (Q : ℕ) → below s P t Q ≡ is_less (by_sign s P t Q)
below_sign false P false Q = sym (less_test P Q)
below_sign false zero true zero = refl
below_sign false zero true (suc Q) = simp eqb-suc-zero
below_sign false (suc P) true Q = simp eqb-suc-zero
below_sign true zero false zero = refl
below_sign true zero false (suc Q) = lt-ltb 0 (0 + suc Q) (omega arith) ∙ simp eqb-suc-zero
below_sign true (suc P) false Q = lt-ltb 0 (suc P + Q) (omega arith) ∙ simp eqb-suc-zero
below_sign true P true Q = sym (less_test Q P)

unlike_level : (P Q : ℕ) (o : Order) → is_equal o ≡ false → (eqb P Q && eqb P 0) ≡ is_equal (cond (eqb P 0) (cond (eqb Q 0) Equal o) o)
unlike_level zero zero o h = refl
unlike_level zero (suc Q) o h = simp (eqb-zero-suc, eqb-suc-zero) (sym h)
unlike_level (suc P) Q o h = simp eqb-suc-zero (and-false (eqb (suc P) Q) ∙ sym h)

level_sign : (s : Bool) (P : ℕ) (t : Bool) (Q : ℕ) → level s P t Q ≡ is_equal (by_sign s P t Q)
level_sign false P false Q = and-true (eqb P Q) ∙ sym (equal_test P Q)
level_sign false P true Q = unlike_level P Q Greater refl
level_sign true P false Q = unlike_level P Q Less refl
level_sign true P true Q = and-true (eqb P Q) ∙ eqb_turned P Q ∙ sym (equal_test Q P)

-- two finite floats, over the common denominator
module _ (f : Format) (s : Bool) (m : ℕ) (e : ℤ) (a : ℕ) (p : m * up e * 2 ^ low f ≡ a * down e)
    (t : Bool) (n : ℕ) (d : ℤ) (b : ℕ) (q : n * up d * 2 ^ low f ≡ b * down d) where
  finite_order : by_sign s (m * up e * down d) t (n * up d * down e) ≡ order_z (signed_of s a) (signed_of t b)
  finite_order =
      sym (by_sign_lem s (m * up e * down d) t (n * up d * down e))
      ∙ rescaled s t (m * up e * down d) (n * up d * down e) (2 ^ low f) a b (down e * down d) (pow_pos (low f)) (mul-pos (down_pos e) (down_pos d))
      (mul_right_comm (m * up e) (down d) (2 ^ low f) ∙ ap (λ (k : ℕ). k * down d) p ∙ mul_assoc a (down e) (down d))
      (mul_right_comm (n * up d) (down e) (2 ^ low f)
      ∙ ap (λ (k : ℕ). k * down e) q
      ∙ mul_assoc b (down d) (down e)
      ∙ ap (λ (k : ℕ). b * k) (mul_comm (down d) (down e)))

lt_means : (f : Format) {x y : Float} {X Y : Exact} → Means f x X → Means f y Y → lt x y ≡ is_less (order_of (number_of X) (number_of Y))
unfolding lt
lt_means f means_nan v = refl
lt_means f (means_inf true) means_nan = refl
lt_means f (means_inf false) means_nan = refl
lt_means f (means_inf true) (means_inf true) = refl
lt_means f (means_inf true) (means_inf false) = refl
lt_means f (means_inf false) (means_inf true) = refl
lt_means f (means_inf false) (means_inf false) = refl
lt_means f (means_inf true) (means_fin t n d b q) = refl
lt_means f (means_inf false) (means_fin t n d b q) = refl
lt_means f (means_fin s m e a p) means_nan = refl
lt_means f (means_fin s m e a p) (means_inf true) = refl
lt_means f (means_fin s m e a p) (means_inf false) = refl
lt_means f (means_fin s m e a p) (means_fin t n d b q) = below_sign s _ t _ ∙ ap is_less (finite_order f s m e a p t n d b q)

eq_means : (f : Format) {x y : Float} {X Y : Exact} → Means f x X → Means f y Y → eq x y ≡ is_equal (order_of (number_of X) (number_of Y))
unfolding eq
eq_means f means_nan v = refl
eq_means f (means_inf true) means_nan = refl
eq_means f (means_inf false) means_nan = refl
eq_means f (means_inf true) (means_inf true) = refl
eq_means f (means_inf true) (means_inf false) = refl
eq_means f (means_inf false) (means_inf true) = refl
eq_means f (means_inf false) (means_inf false) = refl
eq_means f (means_inf true) (means_fin t n d b q) = refl
eq_means f (means_inf false) (means_fin t n d b q) = refl
eq_means f (means_fin s m e a p) means_nan = refl
eq_means f (means_fin s m e a p) (means_inf true) = refl
eq_means f (means_fin s m e a p) (means_inf false) = refl
eq_means f (means_fin s m e a p) (means_fin t n d b q) = level_sign s _ t _ ∙ ap is_equal (finite_order f s m e a p t n d b q)

less_or_equal : (o : Order) → (is_less o || is_equal o) ≡ is_less_or_equal o
less_or_equal Less = refl
less_or_equal Equal = refl
less_or_equal Greater = refl
less_or_equal Unordered = refl

not_equal : (o : Order) → not (is_equal o) ≡ is_not_equal o
not_equal Less = refl
not_equal Equal = refl
not_equal Greater = refl
not_equal Unordered = refl

-- the language's operators on two floats that their type holds are the tests of the comparison of their bits
module _ (f : Format) (x y : Float) (hx : T (fits f x)) (hy : T (fits f y)) where
  abbrev compared : Order
  compared = compare_in (own_of f) (to_bits f x) (to_bits f y)

  pub lt_is : lt x y ≡ is_less compared
  unfolding compare_of
  lt_is = lt_means f (float_means f x hx) (float_means f y hy)

  pub eq_is : eq x y ≡ is_equal compared
  unfolding compare_of
  eq_is = eq_means f (float_means f x hx) (float_means f y hy)

  pub le_is : le x y ≡ is_less_or_equal compared
  unfolding le
  le_is = cc (lt_is, eq_is) ∙ less_or_equal compared

  pub ne_is : ne x y ≡ is_not_equal compared
  unfolding ne
  ne_is = ap not eq_is ∙ not_equal compared
