-- One f32 sample into u16: what the cast makes of one that fits, and by its bits what refuses one that doesn't.
use mathlib.Core.Path.{◌≡◌, refl, sym, ◌∙◌, ap, subst}
use mathlib.Core.Bool.{Bool, true, false, not, true≢false}
use Prim.Native.Nat.{ℕ, ◌*◌, ◌^◌, ◌≤◌, ◌<◌}
use native.Mathlib.Nat.{zero-mul}
use native.Mathlib.Omega.{arith}
use borrow.Author.Tests.{le-ltb, ltb-true, ltb-false, eq-eqb, eqb-true, eqb-false, leb-true, leb-false}
use lib.Dec.{T, ltb, leb, eqb, le→leb, lit≤}
use lib.IntN.{pos}
use lib.Pow.{pow_pos}
use lib.Ieee.{Float, binary32, fits, nan_bits, to_bits, of_bits, in_unsigned, in_float, to_unsigned}
use lib.Ieee.Back.{unsigned_back, whole_unique}
use lib.Ieee.Bits.{of_bits-fits}
use lib.Ieee.Exact.{HasValue}
use lib.Ieee.Fits.{of_int-fits}
use Rattle.float.specs.Format.{f32, abs_of, negative_of, nan_of, mag_of}
use Rattle.float.specs.Number.{Exact, finite, times}
use Rattle.float.specs.Order.{pattern_of}
use Rattle.float.proofs.Comparing.{pattern_nan, pattern_infinite, pattern_finite, pattern_clear}
use Rattle.float.proofs.Magnitude.{abs_clear}
use Rattle.value.specs.Meaning.{step_of}
use Rattle.value.specs.Outcome.{gives, refuses}
use Rattle.value.proofs.FloatBits.{from_bits}
use Rattle.convert.specs.Convert.{is_minus_zero, outside}
use Rattle.convert.proofs.MinusZero.{minus_zero_float}
use Rattle.row.specs.Convert.{f32_to_u16}
use Rattle.row.specs.Inner.{is_refused, is_whole, is_misfit, as_f32, as_u16}
use Rattle.row.proofs.FloatValue.{pattern_value, bits_value, over_one}
use Rattle.row.proofs.IntoF32.{cast_value}
use Rattle.row.proofs.WholeFloats.{whole_found, whole_passes, large_whole, below_large}
use Rattle.row.proofs.F32Sample.{bits_are, exact_of, nan_refused, infinity_refused, minus_zero_refused}
use Rattle.row.proofs.F32Sample.{fraction_refused, outside_refused, inside_given}
use Rattle.row.proofs.Misfits.{Sample, fit_sample, sample_fit}

-- ---- a pattern below that of 2^23, as a float

module _ (abs : ℕ) (small : abs < 0x4b00_0000) where
  no_nan : false ≡ nan_of 23 8 abs
  no_nan = sym (ap (λ (k : ℕ). ltb 0x7f80_0000 k) (abs_clear 23 8 abs (omega arith)) ∙ le-ltb 0x7f80_0000 abs (omega arith))

  pub plain_float : T (not (nan_bits binary32 abs))
  plain_float = from_bits binary32 abs (omega arith) no_nan

  plain_value : HasValue (of_bits binary32 abs) false (mag_of 23 abs) (2 ^ 149)
  plain_value = bits_value binary32 abs false (mag_of 23 abs) (omega arith) (pattern_clear 23 8 abs (omega arith) (lit≤ tt))

  -- the test on it
  small_whole : is_whole (of_bits binary32 abs) ≡ true → (n : ℕ) × (mag_of 23 abs ≡ n * 2 ^ 149)
  small_whole = whole_found (of_bits binary32 abs) (mag_of 23 abs) (of_bits-fits binary32 abs) plain_value (below_large 23 149 abs small)

  small_passes : (n : ℕ) → mag_of 23 abs ≡ n * 2 ^ 149 → is_whole (of_bits binary32 abs) ≡ true
  small_passes = whole_passes (of_bits binary32 abs) (mag_of 23 abs) (of_bits-fits binary32 abs) plain_value (below_large 23 149 abs small)

-- ---- minus zero's bits are the sign alone

minus_zero_lem : pattern_of 23 8 0x8000_0000 ≡ finite true 0
unfolding pattern_of abs_of mag_of
minus_zero_lem = refl

minus_zero_bits : (b : ℕ) → pattern_of 23 8 b ≡ finite true 0 → b ≡ 0x8000_0000
minus_zero_bits b q = eqb-true b 0x8000_0000
    (sym (minus_zero_float f32 b) ∙ ap (λ (x : Exact). is_minus_zero (times (step_of f32) x)) q ∙ eq-eqb (0 * step_of f32) 0 (zero-mul (step_of f32)))

-- ---- one sample

module _ (x : Float) (hx : T (fits binary32 x)) where
  -- ---- a sample that fits: the cast is its number

  module _ (fit : is_misfit x ≡ false) where
    abbrev own : Sample x
    own = fit_sample x hx fit

    is_cast : x ≡ as_f32 own.count
    is_cast =
        let n = own.count in
        let l = own.small in
        let v : HasValue x false n 1 =
        over_one x false n (2 ^ 149) (pow_pos 149) (pattern_value binary32 x false (n * 2 ^ 149) hx own.exact) in
        whole_unique binary32 x (as_f32 n) false n hx (of_int-fits binary32 (pos n)) v (cast_value n (omega arith))

    back_cast : T (in_unsigned binary32 16 (as_f32 own.count)) × (to_unsigned 16 (as_f32 own.count) ≡ own.count)
    unfolding in_float
    back_cast =
        let l = own.small in
        let k : own.count ≤ 2 ^ 24 = omega arith in
        unsigned_back binary32 16 own.count (le→leb own.count (2 ^ 24) k) (omega arith)

    pub fit_casts : T (in_unsigned binary32 16 x)
    fit_casts = subst (λ (y : Float). T (in_unsigned binary32 16 y)) (sym is_cast) back_cast.0

    pub fit_given : f32_to_u16 x ≡ gives (as_u16 x)
    fit_given = inside_given x own.count own.exact own.small ∙ ap gives (sym (ap (to_unsigned 16) is_cast ∙ back_cast.1))

  -- ---- a sample that doesn't: its number of refusal, by its bits

  module _ (abs : ℕ) (own_abs : abs ≡ abs_of 23 8 (to_bits binary32 x)) where
    pub refused_nan : 0x7f80_0000 < abs → f32_to_u16 x ≡ refuses 1 0
    refused_nan h = nan_refused x (pattern_nan 23 8 (to_bits binary32 x) (subst (λ (k : ℕ). 0x7f80_0000 < k) own_abs h))

    pub refused_infinity : abs ≡ 0x7f80_0000 → f32_to_u16 x ≡ refuses 2 0
    refused_infinity h = infinity_refused x (pattern_infinite 23 8 (to_bits binary32 x) (sym own_abs ∙ h))

  pub refused_minus_zero : to_bits binary32 x ≡ 0x8000_0000 → f32_to_u16 x ≡ refuses 13 0
  refused_minus_zero h = minus_zero_refused x (ap (pattern_of 23 8) h ∙ minus_zero_lem)

  module _ (misfit : is_misfit x ≡ true) (other : to_bits binary32 x ≡ 0x8000_0000 → ⊥) where
    -- a whole number in the range would be no misfit, or minus zero
    whole_refused : (s : Bool) (a n : ℕ) → exact_of x ≡ finite s a → a ≡ n * 2 ^ 149 → f32_to_u16 x ≡ refuses 4 0
    whole_refused s a n q w = go s refl (outside 0 65535 s n) refl
      where
        go : (t : Bool) → s ≡ t → (u : Bool) → outside 0 65535 t n ≡ u → f32_to_u16 x ≡ refuses 4 0
        go t e true h = outside_refused x t a (q ∙ ap (λ (r : Bool). finite r a) e) n w h
        go false e false h =
            let plus : exact_of x ≡ finite false (n * 2 ^ 149) = q ∙ cc (e, w) in
            absurd (true≢false (sym misfit ∙ sample_fit x hx (record { count = n; exact = plus; small = ltb-false 65535 n h })))
        go true e false h =
            let z : n ≡ 0 = omega (arith, ltb-false 0 n h) in
            let none : a ≡ 0 = w ∙ ap (λ (k : ℕ). k * 2 ^ 149) z ∙ zero-mul (2 ^ 149) in
            absurd (other (minus_zero_bits (to_bits binary32 x) (q ∙ cc (e, none))))

    module _ (abs : ℕ) (own_abs : abs ≡ abs_of 23 8 (to_bits binary32 x)) (below : abs < 0x7f80_0000) where
      own_exact : exact_of x ≡ finite (negative_of 23 8 (to_bits binary32 x)) (mag_of 23 abs)
      own_exact =
          pattern_finite 23 8 (to_bits binary32 x) (subst (λ (k : ℕ). k < 0x7f80_0000) own_abs below)
          ∙ ap (λ (k : ℕ). finite (negative_of 23 8 (to_bits binary32 x)) (mag_of 23 k)) (sym own_abs)

      pub refused_large : 0x4b00_0000 ≤ abs → f32_to_u16 x ≡ refuses 4 0
      refused_large h = let w = large_whole 23 149 abs h in whole_refused (negative_of 23 8 (to_bits binary32 x)) (mag_of 23 abs) w.0 own_exact w.1

      -- below 2^23 the test tells, on the magnitude as a float of its own
      module _ (small : abs < 0x4b00_0000) where
        pub refused_whole : is_whole (of_bits binary32 abs) ≡ true → f32_to_u16 x ≡ refuses 4 0
        refused_whole h = let w = small_whole abs small h in whole_refused (negative_of 23 8 (to_bits binary32 x)) (mag_of 23 abs) w.0 own_exact w.1

        pub refused_fraction : is_whole (of_bits binary32 abs) ≡ false → f32_to_u16 x ≡ refuses 3 0
        refused_fraction h = fraction_refused x (negative_of 23 8 (to_bits binary32 x)) (mag_of 23 abs) own_exact
            (λ n w. true≢false (sym (small_passes abs small n w) ∙ h))

  -- ---- the test tells the refused

  misfit_refused : is_misfit x ≡ true → is_refused (f32_to_u16 x) ≡ true
  misfit_refused h = beyond (ltb 0x7f80_0000 abs) refl
    where
      abs : ℕ
      abs = abs_of 23 8 (to_bits binary32 x)

      small : (to_bits binary32 x ≡ 0x8000_0000 → ⊥) → abs < 0x7f80_0000 → abs < 0x4b00_0000 → (w : Bool) → is_whole (of_bits binary32 abs) ≡ w
          → is_refused (f32_to_u16 x) ≡ true
      small o l m true q = ap is_refused (refused_whole h o abs refl l m q)
      small o l m false q = ap is_refused (refused_fraction h o abs refl l m q)

      other : (to_bits binary32 x ≡ 0x8000_0000 → ⊥) → abs < 0x7f80_0000 → (t : Bool) → leb 0x4b00_0000 abs ≡ t → is_refused (f32_to_u16 x) ≡ true
      other o l true q = ap is_refused (refused_large h o abs refl l (leb-true _ _ q))
      other o l false q = small o l (leb-false _ _ q) (is_whole (of_bits binary32 abs)) refl

      zero : abs < 0x7f80_0000 → (t : Bool) → eqb (to_bits binary32 x) 0x8000_0000 ≡ t → is_refused (f32_to_u16 x) ≡ true
      zero l true q = ap is_refused (refused_minus_zero (eqb-true _ _ q))
      zero l false q = other (eqb-false _ _ q) l (leb 0x4b00_0000 abs) refl

      infinity : abs ≤ 0x7f80_0000 → (t : Bool) → eqb abs 0x7f80_0000 ≡ t → is_refused (f32_to_u16 x) ≡ true
      infinity l true q = ap is_refused (refused_infinity abs refl (eqb-true _ _ q))
      infinity l false q = let n = eqb-false _ _ q in zero (omega arith) (eqb (to_bits binary32 x) 0x8000_0000) refl

      beyond : (t : Bool) → ltb 0x7f80_0000 abs ≡ t → is_refused (f32_to_u16 x) ≡ true
      beyond true q = ap is_refused (refused_nan abs refl (ltb-true _ _ q))
      beyond false q = infinity (ltb-false _ _ q) (eqb abs 0x7f80_0000) refl

  pub refused_misfit : is_refused (f32_to_u16 x) ≡ is_misfit x
  refused_misfit = go (is_misfit x) refl
    where
      go : (t : Bool) → is_misfit x ≡ t → is_refused (f32_to_u16 x) ≡ is_misfit x
      go true h = misfit_refused h ∙ sym h
      go false h = ap is_refused (fit_given h) ∙ sym h

  -- what isn't refused is cast
  pub kept_casts : is_refused (f32_to_u16 x) ≡ false → T (in_unsigned binary32 16 x)
  kept_casts h = fit_casts (sym refused_misfit ∙ h)

  pub kept_given : is_refused (f32_to_u16 x) ≡ false → f32_to_u16 x ≡ gives (as_u16 x)
  kept_given h = fit_given (sym refused_misfit ∙ h)

-- what the code of one sample is proved by
pub ruleset sample_laws = (
  bits_are,
  plain_float,
  refused_misfit,
  refused_nan,
  refused_infinity,
  refused_minus_zero,
  refused_large,
  refused_whole,
  refused_fraction,
  kept_casts,
  kept_given,
)
