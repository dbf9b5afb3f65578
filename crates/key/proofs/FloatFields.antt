-- A float field, over the format: a pattern of the format that is no NaN has a key, and the laws of keys of patterns hold of it.
use mathlib.Core.Path.{◌≡◌, sym, ◌∙◌}
use mathlib.Core.Bool.{false}
use Prim.Native.Nat.{ℕ, ◌*◌, ◌<◌}
use borrow.Author.Tests.{eqb-false}
use Rattle.float.specs.Format.{Format, fraction_of, exponent_of, nan_in, sign_in}
use Rattle.float.specs.Number.{is_none}
use Rattle.float.specs.Number as float-number
use Rattle.float.specs.Order.{order_n, order_of, pattern_in}
use Rattle.float.proofs.Formats.{inf_range}
use Rattle.float.proofs.Language.{times_none, none_pattern}
use Rattle.float.proofs.Tests.{neither}
use Rattle.value.specs.Kinds.{floating}
use Rattle.value.specs.Meaning.{real, step_of, exact_in}
use Rattle.cmp.proofs.Numbers.{patterns_order}
use Rattle.key.specs.Key.{pattern_from, key_in, not_canonical}
use Rattle.key.specs.Keyed.{plus_zero_in}
use Rattle.key.proofs.FloatKeys.{key_below, key_order, from_below, from_key, key_canonical, key_from}

-- a NaN is what has no number
none_nan : (f : Format) (b : ℕ) → is_none (exact_in (real f b)) ≡ nan_in f b
none_nan f b = times_none (step_of f) (pattern_in f b) ∙ none_pattern (fraction_of f) (exponent_of f) b

module _ (f : Format) (b : ℕ) (h : b < 2 * sign_in f) where
  pub float_below : key_in (real f b) < 2 * sign_in f
  float_below = key_below (fraction_of f) (exponent_of f) b h

  pub float_canonical : is_none (exact_in (real f b)) ≡ false → not_canonical (floating f) (key_in (real f b)) ≡ false
  float_canonical s = key_canonical (fraction_of f) (exponent_of f) b h (sym (none_nan f b) ∙ s)

  -- what is read of the key
  pub float_read : pattern_from (sign_in f) (key_in (real f b)) ≡ plus_zero_in (floating f) b
  float_read = from_key (fraction_of f) (exponent_of f) b h

pub float_order : (f : Format) (a b : ℕ) → a < 2 * sign_in f → b < 2 * sign_in f → is_none (exact_in (real f a)) ≡ false → is_none (exact_in (real f b)) ≡ false
    → order_n (key_in (real f a)) (key_in (real f b)) ≡ order_of (float-number.number_of (exact_in (real f a))) (float-number.number_of (exact_in (real f b)))
float_order f a b h k s t =
    key_order (fraction_of f) (exponent_of f) a b (inf_range f).0 h k (sym (none_nan f a) ∙ s) (sym (none_nan f b) ∙ t) ∙ patterns_order f a b

-- ---- the pattern of a canonical number

abbrev pub made_pattern : Format → ℕ → ℕ
made_pattern f n = pattern_from (sign_in f) n

module _ (f : Format) (n : ℕ) (h : n < 2 * sign_in f) where
  pub made_small : made_pattern f n < 2 * sign_in f
  made_small = from_below (fraction_of f) (exponent_of f) n h

  module _ (c : not_canonical (floating f) n ≡ false) where
    pub made_some : is_none (exact_in (real f (made_pattern f n))) ≡ false
    made_some = none_nan f (made_pattern f n) ∙ (neither _ _ c).0

    pub made_key : key_in (real f (made_pattern f n)) ≡ n
    made_key = key_from (fraction_of f) (exponent_of f) n h (eqb-false _ _ (neither (nan_in f (made_pattern f n)) _ c).1)
