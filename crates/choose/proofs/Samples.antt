-- Ranges and samples by the language's own comparison of floats.
use mathlib.Core.Path.{◌≡◌, refl, sym, ◌∙◌, ap}
use mathlib.Core.Bool.{Bool, true, false, not, ◌||◌, cond, true≢false}
use lib.Dec.{T}
use lib.Ieee.{Float, binary32, to_bits, is_nan, fits, lt, le, ne}
use Rattle.std.specs.Float.{float_clamp}
use Rattle.float.specs.declared.Order.{Order}
use Rattle.float.specs.declared.Order.TheVariants.{Less, Equal, Greater, Unordered}
use Rattle.float.specs.Order.{is_less, is_less_or_equal, is_greater, is_unordered}
use Rattle.float.proofs.Operators.{lt_is, le_is}
use Rattle.float.proofs.Turned.{greater_turned, unordered_nan}
use Rattle.value.specs.Outcome.{gives, refuses}
use Rattle.value.proofs.FloatBits.{differs_nan, same_no_nan, is_false}
use Rattle.choose.specs.declared.Range.{Range}
use Rattle.choose.specs.Choose.{sample_order, range_of, sample_of}
use Rattle.choose.specs.Inner.{clamped_by}
use Rattle.choose.proofs.Choice.{clamped_bounds, clamped_nan, clamped_lower, clamped_upper, clamped_self}

-- ---- the bounds

module _ (lower upper : Float) (hl : T (fits binary32 lower)) (hu : T (fits binary32 upper)) where
  pub range_made : le lower upper ≡ true → gives (record { lower = lower; upper = upper }) ≡ range_of lower upper
  unfolding range_of
  range_made h = simp (sym (le_is binary32 lower upper hl hu) ∙ h)

  pub range_refused : le lower upper ≡ false → refuses 6 0 ≡ range_of lower upper
  unfolding range_of
  range_refused h = simp (sym (le_is binary32 lower upper hl hu) ∙ h)

  -- bounds in order are no NaN
  ordered : (o : Order) → is_less_or_equal o ≡ true → is_unordered o ≡ false
  ordered Less h = refl
  ordered Equal h = refl
  ordered Greater h = refl
  ordered Unordered h = absurd (true≢false (sym h))

  left : (a b : Bool) → (a || b) ≡ false → a ≡ false
  left true b h = h
  left false b h = refl

  lower_number : le lower upper ≡ true → is_nan lower ≡ false
  lower_number h = left (is_nan lower) (is_nan upper)
      (sym (unordered_nan binary32 lower upper hl hu) ∙ ordered (sample_order lower upper) (sym (le_is binary32 lower upper hl hu) ∙ h))

-- ---- one sample

module _ (range : Range) (x : Float) (hl : T (fits binary32 range.lower)) (hu : T (fits binary32 range.upper)) (hx : T (fits binary32 x)) where
  by_orders : clamped_by (sample_order range.lower range.upper) (sample_order x range.lower) (sample_order x range.upper)
      x range.lower range.upper ≡ sample_of range x
  unfolding clamped_by sample_of
  by_orders = refl

  pub sample_bounds : le range.lower range.upper ≡ false → refuses 6 0 ≡ sample_of range x
  sample_bounds h = clamped_bounds x range.lower range.upper _ _ _ (ap not (sym (le_is binary32 range.lower range.upper hl hu) ∙ h)) ∙ by_orders

  module _ (b : le range.lower range.upper ≡ true) where
    in_order : is_less_or_equal (sample_order range.lower range.upper) ≡ true
    in_order = sym (le_is binary32 range.lower range.upper hl hu) ∙ b

    unordered : is_unordered (sample_order x range.lower) ≡ (is_nan x || is_nan range.lower)
    unordered = unordered_nan binary32 x range.lower hx hl

    pub sample_is_nan : is_nan x ≡ true → refuses 8 0 ≡ sample_of range x
    sample_is_nan h = clamped_nan x range.lower range.upper _ _ _ in_order
        (unordered ∙ ap (λ (t : Bool). t || is_nan range.lower) h) ∙ by_orders

    pub sample_nan : ne x x ≡ true → refuses 8 0 ≡ sample_of range x
    sample_nan h = sample_is_nan (differs_nan x h)

    module _ (n : ne x x ≡ false) where
      number : is_unordered (sample_order x range.lower) ≡ false
      number = unordered ∙ cc (is_false (is_nan x) (same_no_nan x n), lower_number range.lower range.upper hl hu b)

      pub sample_lower : lt x range.lower ≡ true → gives range.lower ≡ sample_of range x
      sample_lower h = clamped_lower x range.lower range.upper _ _ _ in_order number (sym (lt_is binary32 x range.lower hx hl) ∙ h) ∙ by_orders

      module _ (l : lt x range.lower ≡ false) where
        not_below : is_less (sample_order x range.lower) ≡ false
        not_below = sym (lt_is binary32 x range.lower hx hl) ∙ l

        above : is_greater (sample_order x range.upper) ≡ lt range.upper x
        above = sym (greater_turned 23 8 (to_bits binary32 x) (to_bits binary32 range.upper)) ∙ sym (lt_is binary32 range.upper x hu hx)

        pub sample_upper : lt range.upper x ≡ true → gives range.upper ≡ sample_of range x
        sample_upper h = clamped_upper x range.lower range.upper _ _ _ in_order number not_below (above ∙ h) ∙ by_orders

        pub sample_self : lt range.upper x ≡ false → gives x ≡ sample_of range x
        sample_self h = clamped_self x range.lower range.upper _ _ _ in_order number not_below (above ∙ h) ∙ by_orders

    -- the library's clamp tests the same in the same order
    pub sample_number : is_nan x ≡ false → gives (float_clamp x range.lower range.upper) ≡ sample_of range x
    sample_number h = by_tests (ne x x) (lt x range.lower) (lt range.upper x) refl refl refl
      where
        by_tests : (d l u : Bool) → ne x x ≡ d → lt x range.lower ≡ l → lt range.upper x ≡ u
            → gives (cond l range.lower (cond u range.upper x)) ≡ sample_of range x
        by_tests true l u n p q = absurd (true≢false (sym (differs_nan x n) ∙ h))
        by_tests false true u n p q = sample_lower n p
        by_tests false false true n p q = sample_upper n p q
        by_tests false false false n p q = sample_self n p q
