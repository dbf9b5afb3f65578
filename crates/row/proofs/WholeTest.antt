-- A float below h = 2^(prec - 1) is whole exactly when (x + h) - h gives it back: from h to 2h a format has whole numbers only, so the sum is
-- rounded to one, and the difference of two whole numbers is exact.
use mathlib.Core.Path.{◌≡◌, refl, sym, ◌∙◌, ap, subst}
use mathlib.Core.Bool.{true, false, true≢false}
use Prim.Native.Nat.compare
use Prim.Native.Nat.{Ordering}
use Prim.Native.Nat.{ℕ, zero, suc, ◌+◌, ◌-◌, ◌*◌, ◌/◌, ◌%◌, ◌^◌, ◌≤◌, ◌<◌, compare}
use native.Mathlib.Nat.{le_trans, le_of_eq, lt_of_lt_of_le, lt_of_le_of_lt, mul-one, mul_assoc, mul_comm, mul_right_comm, mul-pos}
use native.Mathlib.Nat.{add-mul, mul-le-mul_right, mul-lt-mul_of_pos_right, lt_of_mul-lt-mul_right, eq_of_mul-eq-mul_right}
use native.Mathlib.Nat.{mul-div_cancel, mul-mod_left, le-div_iff_mul-le, div-lt_iff_lt-mul}
use native.Mathlib.Omega.{arith}
use borrow.Author.Tests.{le-ltb}
use lib.Dec.{lit<}
use lib.IntN.{ℤ}
use lib.Pow.{pow-add, pow_pos, pow-lt}
use lib.Ieee.{Float, fin, Format, binary32, binary64, prec, emax, low, up, down, nearest, hid, round, neg, sum, add, sub, nan, inf}
use lib.Ieee.Exact.{HasValue, round_exact}
use lib.Ieee.Fits.{down_pos, two}
use lib.Ieee.Nearest.{closest, closest_mono, closest_same}
use lib.Ieee.Order.{drop}
use lib.Ieee.Scale.{grid, overflow, round_val}
use Rattle.convert.proofs.Binary.{size_is}
use Rattle.row.proofs.FloatValue.{over_one}

-- ---- whole numbers

above_zero : (c : ℕ) → 0 < c → compare 0 c ≡ Ordering.lt
above_zero zero h = absurd (omega arith)
above_zero (suc c) h = compare.zero-suc c

-- a whole number is its own nearest
closest_whole : (q c : ℕ) → 0 < c → closest (q * c) c ≡ q
closest_whole q c h =
    ap (λ (x : ℕ). nearest x (compare (q * c % c * 2) c)) (mul-div_cancel q h)
    ∙ ap (λ (x : ℕ). nearest q (compare (x * 2) c)) (mul-mod_left q c)
    ∙ ap (nearest q) (above_zero c h)

no_overflow : (f : Format) (q : ℕ) → q ≤ 2 ^ prec f → q * 2 ^ low f < overflow f
no_overflow f q h = lt_of_le_of_lt (le_trans (mul-le-mul_right (2 ^ low f) h) (le_of_eq (sym (pow-add 2 (prec f) (low f))))) (pow-lt (room f))
  where
    room : (f : Format) → prec f + low f < low f + suc (emax f)
    room binary32 = lit< tt
    room binary64 = lit< tt

-- a whole number that the format counts is rounded to itself
round_count : (f : Format) (q c : ℕ) → 0 < c → q < 2 ^ prec f → HasValue (round f false (q * c) c) false q 1
round_count f q c z h =
    over_one (round f false (q * c) c) false q c z
    (round_exact f false (q * c) c q (low f) z h (no_overflow f q (omega arith)) (mul_right_comm q c (2 ^ low f)))

-- ---- h + a / c, for a / c below h

twice_hid : (f : Format) → 2 ^ prec f ≡ hid f + hid f
twice_hid binary32 = refl
twice_hid binary64 = refl

module _ (f : Format) (a c : ℕ) (z : 0 < c) (below : a < hid f * c) where
  abbrev shifted : ℕ
  shifted = a + hid f * c

  abbrev rounded : ℕ
  rounded = closest shifted c

  under : shifted < 2 ^ prec f * c
  under = rw (twice_hid f, add-mul (hid f) (hid f) c) (omega arith)

  -- all places below 1 are dropped
  dropped : drop (prec f) (shifted * 2 ^ low f) c ≡ low f
  dropped =
      let p = two f in
      let j : suc (prec f - 1 + low f) ≡ prec f + low f = omega arith in
      let lo : 2 ^ (prec f - 1 + low f) ≤ shifted * 2 ^ low f / c = (le-div_iff_mul-le z).1
      (le_trans (le_of_eq (ap (λ (x : ℕ). x * c) (pow-add 2 (prec f - 1) (low f)) ∙ mul_right_comm (hid f) (2 ^ low f) c))
      (mul-le-mul_right (2 ^ low f) (omega arith))) in
      let hi : shifted * 2 ^ low f / c < 2 ^ suc (prec f - 1 + low f) = (div-lt_iff_lt-mul z).1
      (lt_of_lt_of_le (mul-lt-mul_of_pos_right under (pow_pos (low f)))
      (le_of_eq (mul_right_comm (2 ^ prec f) c (2 ^ low f) ∙ ap (λ (x : ℕ). x * c) (sym (pow-add 2 (prec f) (low f)) ∙ ap (λ (x : ℕ). 2 ^ x) (sym j))))) in
      omega (arith, size_is (shifted * 2 ^ low f / c) (prec f - 1 + low f) lo hi)

  on_grid : grid f shifted c ≡ rounded * 2 ^ low f
  on_grid =
      ap (λ (k : ℕ). closest (shifted * 2 ^ low f) (c * 2 ^ k) * 2 ^ k) dropped
      ∙ ap (λ (q : ℕ). q * 2 ^ low f)
      (closest_same (shifted * 2 ^ low f) (c * 2 ^ low f) shifted c (mul-pos z (pow_pos (low f))) z
      (mul_assoc shifted (2 ^ low f) c ∙ ap (λ (x : ℕ). shifted * x) (mul_comm (2 ^ low f) c)))

  rounded_range : (hid f ≤ rounded) × (rounded ≤ 2 ^ prec f)
  rounded_range = (
    subst (λ (x : ℕ). x ≤ rounded) (closest_whole (hid f) c z) (closest_mono (hid f * c) c shifted c z z (mul-le-mul_right c (omega arith))),
    subst (λ (x : ℕ). rounded ≤ x) (closest_whole (2 ^ prec f) c z) (closest_mono shifted c (2 ^ prec f * c) c z z (mul-le-mul_right c (omega (arith, under)))),
  )

  rounded_value : HasValue (round f false shifted c) false rounded 1
  rounded_value =
      over_one (round f false shifted c) false rounded (2 ^ low f) (pow_pos (low f))
      (subst (λ (x : ℕ). HasValue (round f false shifted c) false x (2 ^ low f)) on_grid
      (round_val f shifted c (subst (λ (x : ℕ). x < overflow f) (sym on_grid) (no_overflow f rounded rounded_range.1))))

  -- a whole number is not moved
  rounded_whole : (n : ℕ) → a ≡ n * c → rounded ≡ n + hid f
  rounded_whole n q = ap (λ (x : ℕ). closest x c) (ap (λ (x : ℕ). x + hid f * c) q ∙ sym (add-mul n (hid f) c)) ∙ closest_whole (n + hid f) c z

-- ---- sums and differences of floats

-- the two sides of a sum over the common denominator
module _ (m : ℕ) (e : ℤ) (d : ℤ) (n : ℕ) (h : m * up e * 1 ≡ n * down e) where
  left_over : m * up e * down d ≡ n * (down e * down d)
  left_over = ap (λ (x : ℕ). x * down d) (sym (mul-one (m * up e)) ∙ h) ∙ mul_assoc n (down e) (down d)

  right_over : m * up e * down d ≡ n * (down d * down e)
  right_over = left_over ∙ ap (λ (x : ℕ). n * x) (mul_comm (down e) (down d))

common_pos : (e d : ℤ) → 0 < down e * down d
common_pos e d = mul-pos (down_pos e) (down_pos d)

-- whole numbers are taken from one another exactly
whole_difference : (f : Format) (x h : Float) (n k : ℕ) → HasValue x false n 1 → HasValue h false k 1 → k ≤ n → n - k < 2 ^ prec f
    → HasValue (sub f x h) false (n - k) 1
unfolding sub add neg sum
whole_difference f nan h n k v w g l = elim v [ ]
whole_difference f (inf _) h n k v w g l = elim v [ ]
whole_difference f (fin false m e) nan n k v w g l = elim w [ ]
whole_difference f (fin false m e) (inf _) n k v w g l = elim w [ ]
whole_difference f (fin true m e) nan n k v w g l = elim w [ ]
whole_difference f (fin true m e) (inf _) n k v w g l = elim w [ ]
whole_difference f (fin true m e) (fin t i d) n k v w g l = absurd (true≢false v.0)
whole_difference f (fin false m e) (fin true i d) n k v w g l = absurd (true≢false w.0)
whole_difference f (fin false m e) (fin false i d) n k v w g l =
    let c = down e * down d in
    let a = left_over m e d n v.1 in
    let b = right_over i d e k w.1 in
    let less : i * up d * down e ≤ m * up e * down d = le_trans (le_of_eq b) (le_trans (mul-le-mul_right c g) (le_of_eq (sym a))) in
    let both : m * up e * down d - i * up d * down e ≡ (n - k) * c = cc (a, b) ∙ sub_times n k c g in
    simp (le-ltb (m * up e * down d) (i * up d * down e) less)
    (subst (λ (x : ℕ). HasValue (round f false x c) false (n - k) 1) (sym both) (round_count f (n - k) c (common_pos e d) l))
  where
    sub_times : (n k c : ℕ) → k ≤ n → n * c - k * c ≡ (n - k) * c
    sub_times n k c g = let p : (n - k) * c + k * c ≡ n * c = sym (add-mul (n - k) k c) ∙ ap (λ (x : ℕ). x * c) (omega arith) in omega arith

-- ---- the test

-- a magnitude in steps is one over the float's own denominator
module _ (l m : ℕ) (e : ℤ) (a : ℕ) (v : m * up e * 2 ^ l ≡ a * down e) where
  own_below : (k : ℕ) → a < k * 2 ^ l → m * up e < k * down e
  own_below k h = lt_of_mul-lt-mul_right (2 ^ l)
      (lt_of_le_of_lt (le_of_eq v) (lt_of_lt_of_le (mul-lt-mul_of_pos_right h (down_pos e)) (le_of_eq (mul_right_comm k (2 ^ l) (down e)))))

  own_whole : (n : ℕ) → a ≡ n * 2 ^ l → m * up e ≡ n * down e
  own_whole n q = eq_of_mul-eq-mul_right (2 ^ l) (pow_pos l) (m * up e) (n * down e) (v ∙ ap (λ (x : ℕ). x * down e) q ∙ mul_right_comm n (2 ^ l) (down e))

-- x + h is rounded to a whole number r from h to 2h, and to n + h where x is n
record Rounded (f : Format) (y : Float) (a : ℕ) : Type 0 where
  r : ℕ
  value : HasValue y false r 1
  least : hid f ≤ r
  most : r ≤ 2 ^ prec f
  exact : (n : ℕ) → a ≡ n * 2 ^ low f → r ≡ n + hid f

sum_rounded : (f : Format) (x h : Float) (a : ℕ) → HasValue x false a (2 ^ low f) → HasValue h false (hid f) 1
    → a < hid f * 2 ^ low f → Rounded f (add f x h) a
unfolding add sum
sum_rounded f nan h a v w l = elim v [ ]
sum_rounded f (inf _) h a v w l = elim v [ ]
sum_rounded f (fin false m e) nan a v w l = elim w [ ]
sum_rounded f (fin false m e) (inf _) a v w l = elim w [ ]
sum_rounded f (fin true m e) h a v w l = absurd (true≢false v.0)
sum_rounded f (fin false m e) (fin true i d) a v w l = absurd (true≢false w.0)
sum_rounded f (fin false m e) (fin false i d) a v w l =
    let c = down e * down d in
    let p = common_pos e d in
    let b : m * up e * down d < hid f * c =
    lt_of_lt_of_le (mul-lt-mul_of_pos_right (own_below (low f) m e a v.1 (hid f) l) (down_pos d)) (le_of_eq (mul_assoc (hid f) (down e) (down d))) in
    let sum_is_lem = ap (λ (x : ℕ). round f false (m * up e * down d + x) c) (right_over i d e (hid f) w.1) in
    record {
      r = rounded f (m * up e * down d) c p b;
      value = subst (λ (y : Float). HasValue y false (rounded f (m * up e * down d) c p b) 1) (sym sum_is_lem) (rounded_value f (m * up e * down d) c p b);
      least = (rounded_range f (m * up e * down d) c p b).0;
      most = (rounded_range f (m * up e * down d) c p b).1;
      exact = λ n q. rounded_whole f (m * up e * down d) c p b n (left_over m e d n (mul-one (m * up e) ∙ own_whole (low f) m e a v.1 n q));
    }

-- so (x + h) - h is a whole number q, and x's own where x is whole
pub back_again : (f : Format) (x h : Float) (a : ℕ) → HasValue x false a (2 ^ low f) → HasValue h false (hid f) 1 → a < hid f * 2 ^ low f
    → (q : ℕ) × (HasValue (sub f (add f x h) h) false q 1 × ((n : ℕ) → a ≡ n * 2 ^ low f → q ≡ n))
back_again f x h a v w l =
    let t = sum_rounded f x h a v w l in
    let small : t.r - hid f < 2 ^ prec f = omega (arith, t.most, pow_pos (prec f - 1)) in
    (t.r - hid f, (whole_difference f (add f x h) h t.r (hid f) t.value w t.least small, λ n q. omega (arith, t.exact n q)))
