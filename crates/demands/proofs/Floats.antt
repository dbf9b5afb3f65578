-- The sentence of demand 2 on classes, comparison and total order: of patterns, and of the values that have them.
use Prim.Native.Nat.{ℕ, ◌≤◌}
use mathlib.Core.Path.{◌≡◌, refl, sym, ◌∙◌, ap, subst}
use mathlib.Core.Logic.{◌↔◌}
use mathlib.Core.Bool.{Bool, true, false, cond}
use mathlib.Core.List.{◌∷◌}
use native.Mathlib.Omega.{arith}
use borrow.Author.Tests.{ltb-true, eqb-true}
use lib.IntN.{ℤ}
use Rattle.float.specs.declared.Class.TheVariants.{Zero, Subnormal, Normal, Infinite, Nan}
use Rattle.float.specs.declared.Order.{Order}
use Rattle.float.specs.declared.Order.TheVariants.{Less, Greater, Unordered}
use Rattle.float.specs.Format.{Format, f16, f32, f64, fraction_of, exponent_of, sign_of, negative_of, infinite_of, scaled_of, position_in}
use Rattle.float.specs.Format as float-format
use Rattle.float.specs.Number.{Number, number, infinity_of, times}
use Rattle.float.specs.Number as float-number
use Rattle.float.specs.Order.{order_z, order_of, pattern_of, is_equal, is_not_equal, is_less, is_less_or_equal, is_greater, is_greater_or_equal}
use Rattle.float.specs.Order.{compare_in, pattern_in}
use Rattle.float.specs.Order as float_order
use Rattle.float.proofs.Formats.{two_or_more}
use Rattle.float.proofs.Tests.{clash}
use Rattle.float.proofs.ClassMeaning.{class_means, number_scaled}
use Rattle.float.proofs.ClassBounds.{class_bounds, finite_classes, class_only}
use Rattle.float.proofs.Agreement.{nan_outside, zeros_ordered}
use Rattle.float.proofs.Comparing.{compare_nan_left, compare_nan_right, pattern_infinite}
use Rattle.float.proofs.Place.{pattern_at, pattern_lt, position_pattern, position_injective, position_fits}
use Rattle.value.specs.declared.Value.{Value}
use Rattle.value.specs.declared.Value.TheVariants.{U8, U16, U32, U64, I8, I16, I32, I64, F32, F64, F16}
use Rattle.value.specs.Kinds.{floating, form_of}
use Rattle.value.specs.Meaning.{step_of, bits_of, exact_of, position_of}
use Rattle.value.specs.Outcome.{gives, refuses, mapped}
use Rattle.value.proofs.TwosComplement.{fits_below, below_fits}
use Rattle.cmp.specs.Compare.{compare_of, ne_of, total_of}
use Rattle.cmp.proofs.Given.{order_compared, order_total}
use Rattle.cmp.proofs.Numbers.{patterns_order, positions_order}
use Rattle.laws_cmp.specs.Laws.{OneKind, OneIntegerKind}
use Rattle.laws_cmp.proofs.Comparison.{values_partial_order}
use Rattle.laws_cmp.proofs.Integers.{integers_linear_order}
use Rattle.laws_cmp.proofs.TotalOrder.{other_whole, values_total_order, less_total, greater_total}
use Rattle.laws_cmp.proofs.Tests.{eq_exactly, lt_exactly, gt_exactly, le_exactly, ge_exactly, ne_turns, refused_exactly}
use Rattle.demands.specs.Floats.{Floats, OfForm, Every, order_tests, Tests, Values}

-- ---- patterns

-- a comparison by what the two patterns stand for
by_numbers : (p e a b : ℕ) {x y : Number} → float-number.number_of (pattern_of p e a) ≡ x
    → float-number.number_of (pattern_of p e b) ≡ y → float_order.compare_of p e a b ≡ order_of x y
unfolding float_order.compare_of
by_numbers p e a b h k = cc

infinite_number : (p e b : ℕ) → infinite_of p e b ≡ true → float-number.number_of (pattern_of p e b) ≡ infinity_of (negative_of p e b)
infinite_number p e b h = ap float-number.number_of (pattern_infinite p e b (eqb-true _ _ h))

outside_left : (s : Bool) (z : ℤ) → order_of (infinity_of s) (number z) ≡ cond s Less Greater
outside_left true z = refl
outside_left false z = refl

outside_right : (s : Bool) (z : ℤ) → order_of (number z) (infinity_of s) ≡ cond s Greater Less
outside_right true z = refl
outside_right false z = refl

module _ (k : Format) where
  abbrev p : ℕ
  p = fraction_of k

  abbrev e : ℕ
  e = exponent_of k

  two : 2 ≤ e
  two = two_or_more k

  enough : 1 ≤ e
  enough = omega (arith, two)

  pub of_format : Floats k
  of_format = record {
    class_means = λ b. class_means p e b two;
    class_only = λ b. class_only p e b two;
    zero_class = λ b. class_bounds p e b enough Zero;
    subnormal_class = λ b. class_bounds p e b enough Subnormal;
    normal_class = λ b. class_bounds p e b enough Normal;
    infinite_class = λ b. class_bounds p e b enough Infinite;
    nan_class = λ b. class_bounds p e b enough Nan;
    finite_classes = λ b. finite_classes p e b enough;
    nan_left = λ a b n. sym (compare_nan_left p e a b refl (ltb-true _ _ n));
    nan_right = λ a b n. sym (compare_nan_right p e a b refl (ltb-true _ _ n));
    infinite_finite = λ a b i f. by_numbers p e a b (infinite_number p e a i) (number_scaled p e b f) ∙ outside_left (negative_of p e a) (scaled_of p e b);
    finite_infinite = λ a b f i. by_numbers p e a b (number_scaled p e a f) (infinite_number p e b i) ∙ outside_right (negative_of p e b) (scaled_of p e a);
    infinite_infinite = λ a b i j. by_numbers p e a b (infinite_number p e a i) (infinite_number p e b j);
    finite_finite = λ a b f g. by_numbers p e a b (number_scaled p e a f) (number_scaled p e b g);
    own_position = position_injective p e;
    position_fits = λ b h. below_fits (sign_of p e) (float-format.position_of p e b) (position_fits p e b h);
    position_reached = λ z h. let m = fits_below (sign_of p e) z h in (pattern_at p e z, pattern_lt p e z m, position_pattern p e z m);
    nan_outside = nan_outside p e;
    zeros_ordered = zeros_ordered p e;
  }

-- ---- values

-- what a value of a float kind stands for, and its position, by its bits
abbrev ByBits : Format → Value → Type 0
ByBits f v = (exact_of v ≡ times (step_of f) (pattern_in f (bits_of v))) × (position_of v ≡ position_in f (bits_of v))

by_bits : (f : Format) (v : Value) → OfForm (floating f) v → ByBits f v
by_bits f (U8 n) q = clash cc
by_bits f (U16 n) q = clash cc
by_bits f (U32 n) q = clash cc
by_bits f (U64 n) q = clash cc
by_bits f (I8 z) q = clash cc
by_bits f (I16 z) q = clash cc
by_bits f (I32 z) q = clash cc
by_bits f (I64 z) q = clash cc
by_bits f (F32 x w) q = let g : f32 ≡ f = cc in subst (λ h. ByBits h (F32 x w)) g (refl, refl)
by_bits f (F64 x w) q = let g : f64 ≡ f = cc in subst (λ h. ByBits h (F64 x w)) g (refl, refl)
by_bits f (F16 b) q = let g : f16 ≡ f = cc in subst (λ h. ByBits h (F16 b)) g (refl, refl)

module _ (f : Format) (a b : Value) (k : OneKind a b) (o : OfForm (floating f) a) where
  other : OfForm (floating f) b
  other = ap form_of (sym k) ∙ o

  floats_compare : compare_of a b ≡ gives (compare_in f (bits_of a) (bits_of b))
  floats_compare = order_compared a b _ k (cc ((by_bits f a o).0, (by_bits f b other).0) ∙ sym (patterns_order f (bits_of a) (bits_of b)))

  floats_total : total_of a b ≡ gives (order_z (position_in f (bits_of a)) (position_in f (bits_of b)))
  floats_total = order_total a b _ k (cc ((by_bits f a o).1, (by_bits f b other).1))

integers_compare : (a b : Value) → OneIntegerKind a b → compare_of a b ≡ gives (order_z (position_of a) (position_of b))
integers_compare a b h = order_compared a b _ h.1 (positions_order a b h.0 (other_whole a b h.1 h.0))

-- ---- the six tests

module _ (a b : Value) where
  unordered : compare_of a b ≡ gives Unordered → Every (λ test. test ≡ gives false) (order_tests a b) × (ne_of a b ≡ gives true)
  unordered h = ((on is_equal, (on is_less, (on is_less_or_equal, (on is_greater, (on is_greater_or_equal, tt))))), on is_not_equal)
    where
      on : (test : Order → Bool) → mapped test (compare_of a b) ≡ gives (test Unordered)
      on test = ap (mapped test) h

  refused : (n p : ℕ) → Every (λ test. (test ≡ refuses n p) ↔ (compare_of a b ≡ refuses n p)) (ne_of a b ∷ order_tests a b)
  refused n p = (of is_not_equal, (of is_equal, (of is_less, (of is_less_or_equal, (of is_greater, (of is_greater_or_equal, tt))))))
    where
      of : (test : Order → Bool) → (mapped test (compare_of a b) ≡ refuses n p) ↔ (compare_of a b ≡ refuses n p)
      of test = refused_exactly test (compare_of a b) n p

of_tests : Tests
of_tests = record {
  eq_exactly = λ a b. eq_exactly (compare_of a b);
  lt_exactly = λ a b. lt_exactly (compare_of a b);
  gt_exactly = λ a b. gt_exactly (compare_of a b);
  le_exactly = λ a b. le_exactly (compare_of a b);
  ge_exactly = λ a b. ge_exactly (compare_of a b);
  ne_turns = λ a b. ne_turns (compare_of a b);
  unordered = unordered;
  refused = refused;
}

pub of_values : Values
of_values = record {
  floats_compare = floats_compare;
  floats_total = floats_total;
  integers_compare = integers_compare;
  integers_total = λ a b h. order_total a b _ h.1 refl;
  partial_order = values_partial_order;
  integer_order = integers_linear_order;
  total_order = values_total_order;
  total_less = less_total;
  total_greater = greater_total;
  tests = of_tests;
}
