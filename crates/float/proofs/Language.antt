-- The language's own floats, by their bits: the float of a pattern stands for what the pattern stands for.
-- A finite float m * 2 ^ e and a scaled magnitude a are one number when m * up e * 2 ^ low is a * down e.
use mathlib.Core.Path.{◌≡◌, refl, sym, ◌∙◌, ap, subst}
use mathlib.Core.Logic.{inl, inr}
use mathlib.Core.Bool.{Bool, true, false, cond}
use Prim.Native.Nat.{ℕ, zero, suc, ◌+◌, ◌-◌, ◌*◌, ◌/◌, ◌%◌, ◌^◌, ◌≤◌, ◌<◌}
use native.Mathlib.Nat.{mul-one, mul_comm, suc-mul, le_of_lt, mod-lt, mod-eq_of_lt, mod-eq-sub-mod, mod-mod, mul-mod_left, mul-add-mod_self_right}
use native.Mathlib.Nat.{div-add-mod', le-div_iff_mul-le, div-lt_iff_lt-mul, mul-div_cancel}
use native.Mathlib.Omega.{arith}
use borrow.Author.Tests.{lt-ltb, le-ltb, eq-eqb, ne_eqb}
use lib.Dec.{T, ltb, eqb, leb}
use lib.IntN.{ℤ}
use lib.Arith.{mod-mul}
use lib.Pow.{pow_pos, pow-add}
use lib.Ieee.{Float, nan, inf, fin, Format, binary32, binary64, prec, low, up, down, hid, ones, top, odd, of_fields, of_bits, to_bits, is_nan, fits}
use lib.Ieee.Exact.{HasValue, odd_sign}
use lib.Ieee.Bits.{of_bits-to_bits, to_bits-lt}
use Rattle.float.specs.Format.{sign_of, inf_of, negative_of, abs_of, nan_of, mag_at, mag_of, fraction_of, exponent_of, sign_in, nan_in}
use Rattle.float.specs.Language.{own_of}
use Rattle.float.specs.Number.{Exact, not_number, infinite, finite, is_none, times}
use Rattle.float.specs.Order.{pattern_of, pattern_in}
use Rattle.float.proofs.Naturals.{lt_or_ge, three_ways}
use Rattle.float.proofs.Magnitude.{abs_clear, abs_set}

-- ---- what a float stands for

pub data Means (f : Format) : Float → Exact → Type 0 where
  means_nan : Means f nan not_number
  means_inf : (s : Bool) → Means f (inf s) (infinite s)
  means_fin : (s : Bool) (m : ℕ) (e : ℤ) (a : ℕ) → m * up e * 2 ^ low f ≡ a * down e → Means f (fin s m e) (finite s a)

of_value : (f : Format) (x : Float) (s : Bool) (a : ℕ) → HasValue x s a (2 ^ low f) → Means f x (finite s a)
of_value f nan s a v = absurd v
of_value f (inf t) s a v = absurd v
of_value f (fin t m e) s a v = subst (λ (b : Bool). Means f (fin t m e) (finite b a)) v.0 (means_fin t m e a v.1)

-- ---- the language's numbers of a format are powers of two

hidden : (f : Format) → hid f ≡ 2 ^ fraction_of (own_of f)
hidden binary32 = refl
hidden binary64 = refl

all_ones : (f : Format) → ones f ≡ 2 ^ exponent_of (own_of f) - 1
all_ones binary32 = refl
all_ones binary64 = refl

some_ones : (f : Format) → eqb 0 (ones f) ≡ false
some_ones binary32 = refl
some_ones binary64 = refl

pub sign_top : (f : Format) → top f ≡ sign_in (own_of f)
sign_top binary32 = refl
sign_top binary64 = refl

pub below_top : (f : Format) (b : ℕ) → b < 2 * sign_in (own_of f) → b < 2 * top f
below_top f b h = subst (λ (n : ℕ). b < 2 * n) (sym (sign_top f)) h

-- ---- the fields of a pattern: sign, exponent and fraction; `last` is the exponent field of all ones

abbrev fields_exact : ℕ → ℕ → Bool → ℕ → ℕ → Exact
fields_exact p last s E t = cond (eqb E last) (cond (eqb t 0) (infinite s) not_number) (finite s (mag_at p E t))

module _ (f : Format) (s : Bool) where
  fields_value : (m x : ℕ) → Means f (odd (prec f) s m x (low f)) (finite s (m * 2 ^ x))
  fields_value m x = of_value f _ s (m * 2 ^ x) (odd_sign (prec f) s m x (low f))

  fields_mean : (E t : ℕ) → Means f (of_fields f s E t) (fields_exact (fraction_of (own_of f)) (ones f) s E t)
  unfolding of_fields
  fields_mean zero t = rw (some_ones f) (subst (λ (a : ℕ). Means f (odd (prec f) s t 0 (low f)) (finite s a)) (mul-one t) (fields_value t 0))
  fields_mean (suc x) t = go (eqb (suc x) (ones f)) (eqb t 0)
    where
      go : (b c : Bool) → Means f (cond b (cond c (inf s) nan) (odd (prec f) s (hid f + t) x (low f)))
          (cond b (cond c (infinite s) not_number) (finite s ((2 ^ fraction_of (own_of f) + t) * 2 ^ x)))
      go true true = means_inf s
      go true false = means_nan
      go false c = subst (λ (h : ℕ). Means f (odd (prec f) s (hid f + t) x (low f)) (finite s ((h + t) * 2 ^ x))) (hidden f) (fields_value (hid f + t) x)

-- ---- a number x that is cut after P places: how its front lies to q

module _ (P q x : ℕ) (some : 0 < P) where
  front_below : x < q * P → x / P < q
  front_below h = (div-lt_iff_lt-mul {k = P} {x = x} {y = q} some).1 h

  front_is : q * P ≤ x → x < suc q * P → x / P ≡ q
  front_is l h =
      let above : q ≤ x / P = (le-div_iff_mul-le {k = P} {x = q} {y = x} some).1 l in
      let below : x / P < suc q = (div-lt_iff_lt-mul {k = P} {x = x} {y = suc q} some).1 h in
      omega arith

  rest_positive : q * P < x → x / P ≡ q → x % P ≡ 0 → ⊥
  rest_positive l e z = let whole : x / P * P + x % P ≡ x = div-add-mod' x P in let same : x / P * P ≡ q * P = ap (λ (n : ℕ). n * P) e in omega arith

-- ---- a pattern's fields, by its abs

module _ (p e : ℕ) where
  abbrev last : ℕ
  last = 2 ^ e - 1

  -- the sign's weight is one front more than the infinity
  sign_split : sign_of p e ≡ suc last * 2 ^ p
  sign_split = let k : suc last ≡ 2 ^ e = let h = pow_pos e in omega arith in pow-add 2 p e ∙ mul_comm (2 ^ p) (2 ^ e) ∙ ap (λ (n : ℕ). n * 2 ^ p) (sym k)

  infinity_split : inf_of p e ≡ last * 2 ^ p
  infinity_split = omega (arith, sign_split, suc-mul last (2 ^ p))

  abs_rest : (b : ℕ) → b < 2 * sign_of p e → b % sign_of p e ≡ abs_of p e b
  abs_rest b h = elim (lt_or_ge b (sign_of p e)) [
    | inl l ↦ mod-eq_of_lt l ∙ sym (abs_clear p e b l)
    | inr g ↦ mod-eq-sub-mod g ∙ mod-eq_of_lt (omega arith) ∙ sym (abs_set p e b g)
  ]

  fraction_rest : (b : ℕ) → b % sign_of p e % 2 ^ p ≡ b % 2 ^ p
  fraction_rest b =
      ap (λ (n : ℕ). b % n % 2 ^ p) (pow-add 2 p e ∙ mul_comm (2 ^ p) (2 ^ e))
      ∙ ap (λ (n : ℕ). n % 2 ^ p) (mod-mul b (pow_pos e) (pow_pos p))
      ∙ mul-add-mod_self_right (b / 2 ^ p % 2 ^ e) (2 ^ p) (b % 2 ^ p)
      ∙ mod-mod b (2 ^ p)

  module _ (x : ℕ) where
    fields_above : x < sign_of p e → inf_of p e < x → (x / 2 ^ p ≡ last) × (x % 2 ^ p ≡ 0 → ⊥)
    fields_above h l =
        let low : last * 2 ^ p < x = omega (arith, infinity_split) in
        let front = front_is (2 ^ p) last x (pow_pos p) (le_of_lt low) (omega (arith, sign_split)) in
        (front, rest_positive (2 ^ p) last x (pow_pos p) low front)

    fields_at : x ≡ inf_of p e → (x / 2 ^ p ≡ last) × (x % 2 ^ p ≡ 0)
    fields_at q =
        let is : x ≡ last * 2 ^ p = q ∙ infinity_split in
        (ap (λ (n : ℕ). n / 2 ^ p) is ∙ mul-div_cancel last (pow_pos p), ap (λ (n : ℕ). n % 2 ^ p) is ∙ mul-mod_left last (2 ^ p))

    fields_below : x < inf_of p e → x / 2 ^ p ≡ last → ⊥
    fields_below h q = let l = front_below (2 ^ p) last x (pow_pos p) (omega (arith, infinity_split)) in omega arith

  abbrev by_abs : Bool → ℕ → Exact
  by_abs s x = cond (ltb (inf_of p e) x) not_number (cond (eqb x (inf_of p e)) (infinite s) (finite s (mag_at p (x / 2 ^ p) (x % 2 ^ p))))

  fields_by_abs : (s : Bool) (x : ℕ) → x < sign_of p e → fields_exact p last s (x / 2 ^ p) (x % 2 ^ p) ≡ by_abs s x
  fields_by_abs s x h =
      elim (three_ways x (inf_of p e)) [
        | inl l ↦ simp (ne_eqb (x / 2 ^ p) last (fields_below x l), le-ltb _ _ (le_of_lt l), ne_eqb x (inf_of p e) (λ q. omega arith))
        | inr (inl q) ↦
            let k : x ≤ inf_of p e = omega arith in
            simp (eq-eqb (x / 2 ^ p) last (fields_at x q).0, eq-eqb (x % 2 ^ p) 0 (fields_at x q).1, le-ltb _ _ k, eq-eqb x _ q)
        | inr (inr g) ↦ simp (eq-eqb (x / 2 ^ p) last (fields_above x h g).0, ne_eqb (x % 2 ^ p) 0 (fields_above x h g).1, lt-ltb _ _ g)
      ]

  fields_pattern : (b : ℕ) → b < 2 * sign_of p e → fields_exact p last (leb (sign_of p e) b) (b % sign_of p e / 2 ^ p) (b % 2 ^ p) ≡ pattern_of p e b
  unfolding pattern_of mag_of
  fields_pattern b h =
      ap (fields_exact p last (leb (sign_of p e) b) (b % sign_of p e / 2 ^ p)) (sym (fraction_rest b))
      ∙ fields_by_abs (leb (sign_of p e) b) (b % sign_of p e) (mod-lt b (pow_pos (p + e)))
      ∙ ap (by_abs (leb (sign_of p e) b)) (abs_rest b h)

-- the float of a pattern, and a float with its pattern
pub pattern_means : (f : Format) (b : ℕ) → b < 2 * top f → Means f (of_bits f b) (pattern_in (own_of f) b)
unfolding of_bits
pattern_means f b h =
    let p = fraction_of (own_of f) in
    let e = exponent_of (own_of f) in
    let is : fields_exact p (ones f) (leb (top f) b) (b % top f / hid f) (b % hid f) ≡ pattern_of p e b =
    ap (λ (n : ℕ). fields_exact p n (leb (top f) b) (b % top f / hid f) (b % hid f)) (all_ones f)
    ∙ ap (λ (n : ℕ). fields_exact p (last p e) (leb (top f) b) (b % top f / n) (b % n)) (hidden f)
    ∙ ap (λ (n : ℕ). fields_exact p (last p e) (leb n b) (b % n / 2 ^ p) (b % 2 ^ p)) (sign_top f)
    ∙ fields_pattern p e b (subst (λ (n : ℕ). b < 2 * n) (sign_top f) h) in
    subst (λ (k : Exact). Means f (of_bits f b) k) is (fields_mean f (leb (top f) b) (b % top f / hid f) (b % hid f))

pub float_means : (f : Format) (x : Float) → T (fits f x) → Means f x (pattern_in (own_of f) (to_bits f x))
float_means f x h = subst (λ (v : Float). Means f v (pattern_in (own_of f) (to_bits f x))) (of_bits-to_bits f x h)
    (pattern_means f (to_bits f x) (to_bits-lt f x h))

-- ---- NaN

nan_means : (f : Format) {x : Float} {X : Exact} → Means f x X → is_nan x ≡ is_none X
unfolding is_nan
nan_means f means_nan = refl
nan_means f (means_inf s) = refl
nan_means f (means_fin s m e a q) = refl

pub times_none : (k : ℕ) (x : Exact) → is_none (times k x) ≡ is_none x
times_none k not_number = refl
times_none k (infinite s) = refl
times_none k (finite s m) = refl

pub none_pattern : (p e b : ℕ) → is_none (pattern_of p e b) ≡ nan_of p e b
unfolding pattern_of
none_pattern p e b = go (nan_of p e b) (eqb (abs_of p e b) (inf_of p e))
  where
    go : (n i : Bool) → is_none (cond n not_number (cond i (infinite (negative_of p e b)) (finite (negative_of p e b) (mag_of p (abs_of p e b))))) ≡ n
    go true i = refl
    go false true = refl
    go false false = refl

pub nan_pattern : (f : Format) (b : ℕ) → b < 2 * top f → is_nan (of_bits f b) ≡ nan_in (own_of f) b
nan_pattern f b h = nan_means f (pattern_means f b h) ∙ none_pattern (fraction_of (own_of f)) (exponent_of (own_of f)) b

pub nan_float : (f : Format) (x : Float) → T (fits f x) → is_none (pattern_in (own_of f) (to_bits f x)) ≡ is_nan x
nan_float f x h = sym (nan_means f (float_means f x h))
