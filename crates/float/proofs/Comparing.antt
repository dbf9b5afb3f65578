-- Two patterns that are no NaN order as their abs do when these are read with the sign: that is the order of what they stand for.
-- A rising map that keeps 0 keeps the order of signed numbers; the scaled magnitude is such a map, and so is a change of unit.
use mathlib.Core.Path.{◌≡◌, refl, sym, ◌∙◌, ap, subst}
use mathlib.Core.Logic.{inl, inr}
use mathlib.Core.Bool.{Bool, true, false, ◌||◌, ◌&&◌, cond, true≢false, and-eq-true_iff}
use Prim.Native.Nat.{ℕ, zero, suc, ◌*◌, ◌≤◌, ◌<◌}
use native.Mathlib.Nat.{lt_of_lt_of_le, mul-lt-mul_of_pos_right, zero-mul}
use native.Mathlib.Omega.{arith}
use borrow.Author.Tests.{lt-ltb, le-ltb, lt-leb, le-leb, eq-eqb, ne_eqb, ltb-true, ltb-false, eqb-true}
use lib.Dec.{ltb, eqb, eqb-suc-zero, leb-suc-suc}
use lib.IntN.{ℤ, pos, negsuc}
use Rattle.float.specs.Format.{sign_of, inf_of, negative_of, abs_of, mag_of, position_of}
use Rattle.float.specs.Format.{Format, negative_in, abs_in, nan_in, zero_in, position_in}
use Rattle.float.specs.Number.{signed_of, Exact, not_number, infinite, finite, times, Number, none, minusInfinity, plusInfinity, number}
use Rattle.float.specs.Number.{infinity_of, number_of}
use Rattle.float.specs.Order.{order_n, order_z, order_of, pattern_of, compare_of, compare_in}
use Rattle.float.specs.declared.Order.{Order}
use Rattle.float.specs.declared.Order.TheVariants.{Less, Equal, Greater, Unordered}
use Rattle.float.proofs.Naturals.{lt_or_ge, three_ways, order_less, order_greater, order_equal}
use Rattle.float.proofs.Formats.{inf_range}
use Rattle.float.proofs.Magnitude.{abs_clear, mag_rises, mag_zero}
use Rattle.float.proofs.Tests.{neither, clash}

-- ---- rising maps

suc_order : (m n : ℕ) → order_n (suc m) (suc n) ≡ order_n m n
suc_order m n = simp leb-suc-suc

-- the order of two signed numbers, by their signs and magnitudes
abbrev pub by_sign : Bool → ℕ → Bool → ℕ → Order
by_sign false m false n = order_n m n
by_sign false m true n = cond (eqb m 0) (cond (eqb n 0) Equal Greater) Greater
by_sign true m false n = cond (eqb m 0) (cond (eqb n 0) Equal Less) Less
by_sign true m true n = order_n n m

pub by_sign_lem : (s : Bool) (m : ℕ) (t : Bool) (n : ℕ) → order_z (signed_of s m) (signed_of t n) ≡ by_sign s m t n
by_sign_lem false m false n = refl
by_sign_lem false zero true zero = refl
by_sign_lem false (suc m) true zero = order_greater (suc m) 0 (omega arith) ∙ simp eqb-suc-zero
by_sign_lem false zero true (suc n) = simp eqb-suc-zero
by_sign_lem false (suc m) true (suc n) = simp eqb-suc-zero
by_sign_lem true zero false zero = refl
by_sign_lem true (suc m) false n = simp eqb-suc-zero
by_sign_lem true zero false (suc n) = order_less 0 (suc n) (omega arith) ∙ simp eqb-suc-zero
by_sign_lem true zero true zero = refl
by_sign_lem true (suc m) true zero = sym (order_less 0 (suc m) (omega arith))
by_sign_lem true zero true (suc n) = sym (order_greater (suc n) 0 (omega arith))
by_sign_lem true (suc m) true (suc n) = sym (suc_order n m)

-- a rising map that keeps 0
module _ (f : ℕ → ℕ) (zero-kept : f 0 ≡ 0) (rises : (x y : ℕ) → x < y → f x < f y) where
  mapped_order : (m n : ℕ) → order_n (f m) (f n) ≡ order_n m n
  mapped_order m n = elim (three_ways m n) [
    | inl l ↦ order_less _ _ (rises m n l) ∙ sym (order_less m n l)
    | inr (inl q) ↦ order_equal _ _ (ap f q) ∙ sym (order_equal m n q)
    | inr (inr g) ↦ order_greater _ _ (rises n m g) ∙ sym (order_greater m n g)
  ]

  mapped_zero : (m : ℕ) → eqb (f m) 0 ≡ eqb m 0
  mapped_zero zero = ap (λ (k : ℕ). eqb k 0) zero-kept
  mapped_zero (suc m) =
      let h : f 0 < f (suc m) = rises 0 (suc m) (omega arith) in
      ne_eqb (f (suc m)) 0 (λ q. omega arith) ∙ sym (ne_eqb (suc m) 0 (λ q. omega arith))

  mapped_by_sign : (s : Bool) (m : ℕ) (t : Bool) (n : ℕ) → by_sign s (f m) t (f n) ≡ by_sign s m t n
  mapped_by_sign false m false n = mapped_order m n
  mapped_by_sign false m true n = simp (mapped_zero m, mapped_zero n)
  mapped_by_sign true m false n = simp (mapped_zero m, mapped_zero n)
  mapped_by_sign true m true n = mapped_order n m

  pub signed_kept : (s : Bool) (m : ℕ) (t : Bool) (n : ℕ) → order_z (signed_of s (f m)) (signed_of t (f n)) ≡ order_z (signed_of s m) (signed_of t n)
  signed_kept s m t n = by_sign_lem s (f m) t (f n) ∙ mapped_by_sign s m t n ∙ sym (by_sign_lem s m t n)

-- ---- a change of unit

pub times_rises : (k : ℕ) → 0 < k → (x y : ℕ) → x < y → x * k < y * k
times_rises k h x y l = mul-lt-mul_of_pos_right l h

pub unordered_right : (x : Number) → order_of x none ≡ Unordered
unordered_right none = refl
unordered_right minusInfinity = refl
unordered_right plusInfinity = refl
unordered_right (number n) = refl

infinite_finite : (k : ℕ) (s t : Bool) (n : ℕ) → order_of (infinity_of s) (number (signed_of t (n * k))) ≡ order_of (infinity_of s) (number (signed_of t n))
infinite_finite k true t n = refl
infinite_finite k false t n = refl

finite_infinite : (k : ℕ) (s t : Bool) (m : ℕ) → order_of (number (signed_of s (m * k))) (infinity_of t) ≡ order_of (number (signed_of s m)) (infinity_of t)
finite_infinite k s true m = refl
finite_infinite k s false m = refl

pub times_order : (k : ℕ) → 0 < k → (x y : Exact) → order_of (number_of (times k x)) (number_of (times k y)) ≡ order_of (number_of x) (number_of y)
times_order k h not_number y = refl
times_order k h (infinite s) not_number = refl
times_order k h (infinite s) (infinite t) = refl
times_order k h (infinite s) (finite t n) = infinite_finite k s t n
times_order k h (finite s m) not_number = refl
times_order k h (finite s m) (infinite t) = finite_infinite k s t m
times_order k h (finite s m) (finite t n) = signed_kept (λ (x : ℕ). x * k) (zero-mul k) (times_rises k h) s m t n

-- ---- two patterns

-- I is the abs of the infinity, and m a finite pattern's magnitude
abbrev meaning : ℕ → Bool → ℕ → ℕ → Exact
meaning I s x m = cond (ltb I x) not_number (cond (eqb x I) (infinite s) (finite s m))

meaning_nan : (I : ℕ) (s : Bool) (x m : ℕ) → I < x → meaning I s x m ≡ not_number
meaning_nan I s x m h = simp (lt-ltb _ _ h)

meaning_infinite : (I : ℕ) (s : Bool) (x m : ℕ) → x ≡ I → meaning I s x m ≡ infinite s
meaning_infinite I s x m q = let l : x ≤ I = omega arith in simp (le-ltb I x l, eq-eqb x I q)

meaning_finite : (I : ℕ) (s : Bool) (x m : ℕ) → x < I → meaning I s x m ≡ finite s m
meaning_finite I s x m h = let l : x ≤ I = omega arith in simp (le-ltb I x l, ne_eqb x I (λ q. omega arith))

infinite_both : (I : ℕ) (s t : Bool) → 0 < I → by_sign s I t I ≡ order_of (infinity_of s) (infinity_of t)
infinite_both I false false h = order_equal I I refl
infinite_both I true true h = order_equal I I refl
infinite_both I false true h = simp (ne_eqb I 0 (λ q. omega arith))
infinite_both I true false h = simp (ne_eqb I 0 (λ q. omega arith))

infinite_left : (I : ℕ) (s t : Bool) (y : ℕ) (z : ℤ) → y < I → by_sign s I t y ≡ order_of (infinity_of s) (number z)
infinite_left I false false y z h = order_greater I y h
infinite_left I true true y z h = order_less y I h
infinite_left I false true y z h = simp (ne_eqb I 0 (λ q. omega arith))
infinite_left I true false y z h = simp (ne_eqb I 0 (λ q. omega arith))

-- whatever x is, the infinity is not 0
not_zero : (I : ℕ) (b : Bool) (o : Order) → 0 < I → cond b (cond (eqb I 0) Equal o) o ≡ o
not_zero I true o h = simp (ne_eqb I 0 (λ q. omega arith))
not_zero I false o h = refl

infinite_right : (I : ℕ) (s t : Bool) (x : ℕ) (z : ℤ) → x < I → by_sign s x t I ≡ order_of (number z) (infinity_of t)
infinite_right I false false x z h = order_less x I h
infinite_right I true true x z h = order_greater I x h
infinite_right I false true x z h = not_zero I (eqb x 0) Greater (omega arith)
infinite_right I true false x z h = not_zero I (eqb x 0) Less (omega arith)

-- neither is a NaN
meaning_order : (p I : ℕ) (s t : Bool) (x y : ℕ) → 0 < I → x ≤ I → y ≤ I
    → order_z (signed_of s x) (signed_of t y) ≡ order_of (number_of (meaning I s x (mag_of p x))) (number_of (meaning I t y (mag_of p y)))
meaning_order p I s t x y h hx hy = elim (three_ways x I) [
  | inl l ↦ elim (three_ways y I) [
    | inl k ↦
        sym (signed_kept (mag_of p) (mag_zero p) (mag_rises p) s x t y)
        ∙ sym (cc (meaning_finite I s x (mag_of p x) l, meaning_finite I t y (mag_of p y) k))
    | inr (inl k) ↦
        by_sign_lem s x t y ∙ ap (by_sign s x t) k ∙ infinite_right I s t x (signed_of s (mag_of p x)) l
        ∙ sym (cc (meaning_finite I s x (mag_of p x) l, meaning_infinite I t y (mag_of p y) k))
    | inr (inr k) ↦ absurd (omega arith)
  ]
  | inr (inl l) ↦ elim (three_ways y I) [
    | inl k ↦
        by_sign_lem s x t y ∙ ap (λ (n : ℕ). by_sign s n t y) l ∙ infinite_left I s t y (signed_of t (mag_of p y)) k
        ∙ sym (cc (meaning_infinite I s x (mag_of p x) l, meaning_finite I t y (mag_of p y) k))
    | inr (inl k) ↦
        by_sign_lem s x t y ∙ ap (λ (n : ℕ). by_sign s n t y) l ∙ ap (by_sign s I t) k ∙ infinite_both I s t h
        ∙ sym (cc (meaning_infinite I s x (mag_of p x) l, meaning_infinite I t y (mag_of p y) k))
    | inr (inr k) ↦ absurd (omega arith)
  ]
  | inr (inr l) ↦ absurd (omega arith)
]

pub pattern_nan : (p e b : ℕ) → inf_of p e < abs_of p e b → pattern_of p e b ≡ not_number
unfolding pattern_of
pattern_nan p e b h = meaning_nan (inf_of p e) (negative_of p e b) (abs_of p e b) (mag_of p (abs_of p e b)) h

pub pattern_infinite : (p e b : ℕ) → abs_of p e b ≡ inf_of p e → pattern_of p e b ≡ infinite (negative_of p e b)
unfolding pattern_of
pattern_infinite p e b q = meaning_infinite (inf_of p e) (negative_of p e b) (abs_of p e b) (mag_of p (abs_of p e b)) q

pub pattern_finite : (p e b : ℕ) → abs_of p e b < inf_of p e → pattern_of p e b ≡ finite (negative_of p e b) (mag_of p (abs_of p e b))
unfolding pattern_of
pattern_finite p e b h = meaning_finite (inf_of p e) (negative_of p e b) (abs_of p e b) (mag_of p (abs_of p e b)) h

-- without the sign bit: a plus sign and its own magnitude
module _ (p e b : ℕ) where
  pub pattern_clear : b < inf_of p e → inf_of p e ≤ sign_of p e → pattern_of p e b ≡ finite false (mag_of p b)
  pattern_clear h s =
      let low : b < sign_of p e = lt_of_lt_of_le h s in
      let plain : abs_of p e b ≡ b = abs_clear p e b low in
      pattern_finite p e b (subst (λ (n : ℕ). n < inf_of p e) (sym plain) h) ∙ cc (plain, lt-leb (sign_of p e) b low)

  pub clear_magnitude : (a : ℕ) → pattern_of p e b ≡ finite false a → mag_of p b ≡ a
  clear_magnitude a q = elim (three_ways (abs_of p e b) (inf_of p e)) [
    | inl l ↦
        let own : finite (negative_of p e b) (mag_of p (abs_of p e b)) ≡ finite false a = sym (pattern_finite p e b l) ∙ q in
        elim (lt_or_ge b (sign_of p e)) [
          | inl c ↦ ap (mag_of p) (sym (abs_clear p e b c)) ∙ cc own
          | inr g ↦ absurd (true≢false (sym (le-leb (sign_of p e) b g) ∙ cc own))
        ]
    | inr (inl i) ↦ clash (cc (pattern_infinite p e b i, q))
    | inr (inr g) ↦ clash (cc (pattern_nan p e b g, q))
  ]

-- for a function that has abs in locals
pub compare_nan_left : (p e a b : ℕ) {x : ℕ} → x ≡ abs_of p e a → inf_of p e < x → Unordered ≡ compare_of p e a b
unfolding compare_of
compare_nan_left p e a b q h = simp (pattern_nan p e a (subst (λ (n : ℕ). inf_of p e < n) q h))

pub compare_nan_right : (p e a b : ℕ) {y : ℕ} → y ≡ abs_of p e b → inf_of p e < y → Unordered ≡ compare_of p e a b
unfolding compare_of
compare_nan_right p e a b q h =
    sym (unordered_right (number_of (pattern_of p e a)))
    ∙ ap (λ (k : Exact). order_of (number_of (pattern_of p e a)) (number_of k)) (sym (pattern_nan p e b (subst (λ (n : ℕ). inf_of p e < n) q h)))

pub compare_signed : (p e a b : ℕ) {x y : ℕ} {m n : ℤ} → 0 < inf_of p e → x ≡ abs_of p e a → y ≡ abs_of p e b → x ≤ inf_of p e → y ≤ inf_of p e
    → m ≡ signed_of (negative_of p e a) (abs_of p e a) → n ≡ signed_of (negative_of p e b) (abs_of p e b) → order_z m n ≡ compare_of p e a b
unfolding compare_of pattern_of
compare_signed p e a b h q u hx hy v w =
    cc (v, w)
    ∙ meaning_order p (inf_of p e) (negative_of p e a) (negative_of p e b) (abs_of p e a) (abs_of p e b) h
    (subst (λ (n : ℕ). n ≤ inf_of p e) q hx) (subst (λ (n : ℕ). n ≤ inf_of p e) u hy)

-- ---- the comparison by its tests

-- two zeros are equal whatever their signs, and any other two order as their positions
zeros_equal : (s t : Bool) (x y : ℕ) → x ≡ 0 → y ≡ 0 → order_z (signed_of s x) (signed_of t y) ≡ Equal
zeros_equal s t x y q u = by_sign_lem s x t y ∙ cc (q, u) ∙ go s t
  where
    go : (s t : Bool) → by_sign s 0 t 0 ≡ Equal
    go false false = refl
    go false true = refl
    go true false = refl
    go true true = refl

not_both : (x y : ℕ) (o : Order) → (eqb x 0 && eqb y 0) ≡ false → o ≡ cond (eqb x 0) (cond (eqb y 0) Equal o) o
not_both x y o = go (eqb x 0) (eqb y 0)
  where
    go : (u v : Bool) → (u && v) ≡ false → o ≡ cond u (cond v Equal o) o
    go true true h = absurd (true≢false h)
    go true false h = refl
    go false v h = refl

placed_order : (s t : Bool) (x y : ℕ) → (eqb x 0 && eqb y 0) ≡ false
    → order_z (cond s (negsuc x) (pos x)) (cond t (negsuc y) (pos y)) ≡ order_z (signed_of s x) (signed_of t y)
placed_order false false x y h = refl
placed_order false true x y h = not_both x y Greater h ∙ sym (by_sign_lem false x true y)
placed_order true false x y h = not_both x y Less h ∙ sym (by_sign_lem true x false y)
placed_order true true x y h = sym (by_sign_lem true x true y)

-- for a function that has the tests in locals
module _ (f : Format) (a b : ℕ) {u v : Bool} (q : u ≡ nan_in f a) (r : v ≡ nan_in f b) where
  pub compare_nan : (u || v) ≡ true → Unordered ≡ compare_in f a b
  compare_nan = go u v (sym q) (sym r)
    where
      go : (u v : Bool) → nan_in f a ≡ u → nan_in f b ≡ v → (u || v) ≡ true → Unordered ≡ compare_in f a b
      go true v l k h = compare_nan_left _ _ a b refl (ltb-true _ _ l)
      go false v l k h = compare_nan_right _ _ a b refl (ltb-true _ _ (k ∙ h))

  module _ (h : (u || v) ≡ false) {y z : Bool} (k : y ≡ zero_in f a) (l : z ≡ zero_in f b) where
    by_numbers : order_z (signed_of (negative_in f a) (abs_in f a)) (signed_of (negative_in f b) (abs_in f b)) ≡ compare_in f a b
    by_numbers =
        let n = neither u v h in
        compare_signed _ _ a b (inf_range f).0 refl refl (ltb-false _ _ (sym q ∙ n.0)) (ltb-false _ _ (sym r ∙ n.1)) refl refl

    pub compare_zeros : (y && z) ≡ true → Equal ≡ compare_in f a b
    compare_zeros t =
        let both = (and-eq-true_iff y z).0 t in
        let x0 = eqb-true (abs_in f a) 0 (sym k ∙ both.0) in
        let y0 = eqb-true (abs_in f b) 0 (sym l ∙ both.1) in
        sym (zeros_equal (negative_in f a) (negative_in f b) (abs_in f a) (abs_in f b) x0 y0) ∙ by_numbers

    pub compare_placed : (y && z) ≡ false → {i j : ℤ} {o : Order} → i ≡ position_in f a → j ≡ position_in f b → o ≡ order_z i j → o ≡ compare_in f a b
    unfolding position_of
    compare_placed t m n g =
        g ∙ cc (m, n)
        ∙ placed_order (negative_in f a) (negative_in f b) (abs_in f a) (abs_in f b) (cc (k, l, t)) ∙ by_numbers
