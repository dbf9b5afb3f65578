-- The clauses of max, min, clamp, min_by and max_by of vstd/std_specs/cmp.rs, each from the definition at the orders that it names.
use mathlib.Core.Path.{◌≡◌, refl, sym, ◌∙◌}
use mathlib.Core.Bool.{true, false}
use Rattle.float.specs.declared.Order.{Order}
use Rattle.float.specs.declared.Order.TheVariants.{Less, Equal, Greater, Unordered}
use Rattle.float.specs.Order.{is_less, is_less_or_equal, is_greater, is_unordered}
use Rattle.value.specs.declared.Value.{Value}
use Rattle.value.specs.Outcome.{gives, refuses}
use Rattle.cmp.specs.Compare.{compare_of}
use Rattle.cmp.specs.Inner.{chosen_by}
use Rattle.choose.specs.Choose.{min_of, max_of, clamp_of}
use Rattle.choose.specs.Inner.{clamped_by}
use Rattle.choose.proofs.Choice.{min_chosen, max_chosen, clamp_ordered}
use Rattle.cmp.proofs.Orders.{turned_order}

-- ---- by the order of the first and the second: min_by and max_by over the fixed comparison

module _ (a b : Value) where
  min_at : (o : Order) → compare_of a b ≡ gives o → min_of a b ≡ chosen_by 0 a b o
  min_at o h = sym (min_chosen a b (sym h))

  max_at : (o : Order) → compare_of a b ≡ gives o → max_of a b ≡ chosen_by 0 b a o
  max_at o h = sym (max_chosen a b (sym h))

  pub min_by_greater : compare_of a b ≡ gives Greater → min_of a b ≡ gives b
  unfolding chosen_by
  min_by_greater h = min_at Greater h

  pub min_by_less : compare_of a b ≡ gives Less → min_of a b ≡ gives a
  unfolding chosen_by
  min_by_less h = min_at Less h

  pub min_by_equal : compare_of a b ≡ gives Equal → min_of a b ≡ gives a
  unfolding chosen_by
  min_by_equal h = min_at Equal h

  pub max_by_greater : compare_of a b ≡ gives Greater → max_of a b ≡ gives a
  unfolding chosen_by
  max_by_greater h = max_at Greater h

  pub max_by_less : compare_of a b ≡ gives Less → max_of a b ≡ gives b
  unfolding chosen_by
  max_by_less h = max_at Less h

  pub max_by_equal : compare_of a b ≡ gives Equal → max_of a b ≡ gives b
  unfolding chosen_by
  max_by_equal h = max_at Equal h

  -- what is unordered is 8
  pub min_unordered : compare_of a b ≡ gives Unordered → min_of a b ≡ refuses 8 0
  unfolding chosen_by
  min_unordered h = min_at Unordered h

  pub max_unordered : compare_of a b ≡ gives Unordered → max_of a b ≡ refuses 8 0
  unfolding chosen_by
  max_unordered h = max_at Unordered h

-- ---- by the order of the second and the first, as the methods have it

module _ (a b : Value) where
  pub max_less : compare_of b a ≡ gives Less → max_of a b ≡ gives a
  max_less h = max_by_greater a b (turned_order b a Less h)

  pub max_equal : compare_of b a ≡ gives Equal → max_of a b ≡ gives b
  max_equal h = max_by_equal a b (turned_order b a Equal h)

  pub max_greater : compare_of b a ≡ gives Greater → max_of a b ≡ gives b
  max_greater h = max_by_less a b (turned_order b a Greater h)

  pub min_less : compare_of b a ≡ gives Less → min_of a b ≡ gives b
  min_less h = min_by_greater a b (turned_order b a Less h)

  pub min_equal : compare_of b a ≡ gives Equal → min_of a b ≡ gives a
  min_equal h = min_by_equal a b (turned_order b a Equal h)

  pub min_greater : compare_of b a ≡ gives Greater → min_of a b ≡ gives a
  min_greater h = min_by_less a b (turned_order b a Greater h)

-- ---- clamp

module _ (v lower upper : Value) {bounds low high : Order} (w : compare_of lower upper ≡ gives bounds)
    (l : compare_of v lower ≡ gives low) (u : compare_of v upper ≡ gives high) where
  clamp_at : clamp_of v lower upper ≡ clamped_by bounds low high v lower upper
  clamp_at = sym (clamp_ordered v lower upper (sym l) (sym u) (sym w) refl)

  pub clamp_bounds : is_less_or_equal bounds ≡ false → clamp_of v lower upper ≡ refuses 6 0
  unfolding clamped_by
  clamp_bounds h = clamp_at ∙ simp h

  module _ (b : is_less_or_equal bounds ≡ true) where
    pub clamp_nan : is_unordered low ≡ true → clamp_of v lower upper ≡ refuses 8 0
    unfolding clamped_by
    clamp_nan h = clamp_at ∙ simp (b, h)

    module _ (n : is_unordered low ≡ false) where
      pub clamp_below : is_less low ≡ true → clamp_of v lower upper ≡ gives lower
      unfolding clamped_by
      clamp_below h = clamp_at ∙ simp (b, n, h)

      pub clamp_above : is_less low ≡ false → is_greater high ≡ true → clamp_of v lower upper ≡ gives upper
      unfolding clamped_by
      clamp_above h k = clamp_at ∙ simp (b, n, h, k)

      pub clamp_within : is_less low ≡ false → is_greater high ≡ false → clamp_of v lower upper ≡ gives v
      unfolding clamped_by
      clamp_within h k = clamp_at ∙ simp (b, n, h, k)
