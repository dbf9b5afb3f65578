-- The clamp by the six tests: each test tells an order, and at those orders the clamp is known. A sample of a range is the f32 value that holds it.
use Prim.Native.Nat.{ℕ}
use mathlib.Core.Path.{◌≡◌, refl, sym, ◌∙◌, ap}
use mathlib.Core.Logic.{◌⊎◌, inl, inr, ◌↔◌}
use mathlib.Core.Bool.{Bool, true, false, not, cond, or-true}
use lib.Ieee.{Float, binary32, to_bits}
use Rattle.float.specs.Format.{f32}
use Rattle.float.specs.declared.Order.{Order}
use Rattle.float.specs.declared.Order.TheVariants.{Less, Equal, Greater, Unordered}
use Rattle.float.specs.Number as float-number
use Rattle.float.specs.Order.{is_less, is_greater, is_less_or_equal, is_greater_or_equal, is_unordered, order_of, pattern_of}
use Rattle.float.specs.Order as float_order
use Rattle.float.proofs.SameNumber.{equal_same}
use Rattle.float.proofs.Tests.{clash}
use Rattle.value.specs.declared.Value.{Value}
use Rattle.value.specs.declared.Value.TheVariants.{F32}
use Rattle.value.specs.Meaning.{float_bits, number_of}
use Rattle.value.specs.Outcome.{gives, refuses, refuse_if, mapped}
use Rattle.choose.specs.declared.Range.{Range}
use Rattle.cmp.specs.Compare.{kinds_differ, value_order, compare_of, lt_of, le_of, gt_of, ge_of}
use Rattle.choose.specs.Choose.{sample_order, clamp_of, range_of, sample_of}
use Rattle.choose.specs.Inner.{clamped_by}
use Rattle.cmp.proofs.Given.{compared_order, order_compared}
use Rattle.cmp.proofs.Numbers.{patterns_order}
use Rattle.cmp.proofs.Orders.{turned_order, less_transitive}
use Rattle.row.specs.Convert.{float_of}
use Rattle.row.proofs.F32Sample.{same_pattern}
use Rattle.value.proofs.Outcomes.{mapped_gives}
use Rattle.laws_cmp.specs.Laws.{OneKind}
use Rattle.laws_cmp.proofs.Choices.{clamp_bounds, clamp_nan, clamp_below, clamp_above, clamp_within}
use Rattle.demands.specs.Choosing.{Clamps}
use Rattle.demands.proofs.Refusing as refusing

-- ---- what a test tells of an order

less_told : (o : Order) → is_less o ≡ true → o ≡ Less
less_told Less h = refl
less_told Equal h = clash cc
less_told Greater h = clash cc
less_told Unordered h = clash cc

greater_told : (o : Order) → is_greater o ≡ true → o ≡ Greater
greater_told Less h = clash cc
greater_told Equal h = clash cc
greater_told Greater h = refl
greater_told Unordered h = clash cc

at_most_told : (o : Order) → is_less_or_equal o ≡ true → (o ≡ Less) ⊎ (o ≡ Equal)
at_most_told Less h = inl refl
at_most_told Equal h = inr refl
at_most_told Greater h = clash cc
at_most_told Unordered h = clash cc

at_least_told : (o : Order) → is_greater_or_equal o ≡ true → (is_unordered o ≡ false) × (is_less o ≡ false)
at_least_told Less h = clash cc
at_least_told Equal h = (refl, refl)
at_least_told Greater h = (refl, refl)
at_least_told Unordered h = clash cc

-- ---- of two values

module _ (a b : Value) where
  less : lt_of a b ≡ gives true → compare_of a b ≡ gives Less
  less h = let m = mapped_gives is_less (compare_of a b) h in m.1 ∙ ap gives (less_told m.0 m.2)

  greater : gt_of a b ≡ gives true → compare_of a b ≡ gives Greater
  greater h = let m = mapped_gives is_greater (compare_of a b) h in m.1 ∙ ap gives (greater_told m.0 m.2)

  same_kind : {o : Order} → compare_of a b ≡ gives o → OneKind a b
  same_kind {o} h = (compared_order a b o h).0

  some_order : OneKind a b → compare_of a b ≡ gives (value_order a b)
  some_order k = order_compared a b (value_order a b) k refl

-- what is above a number that is at least x is above x
above_both : (x y z : Value) → le_of x y ≡ gives true → compare_of z y ≡ gives Greater → compare_of z x ≡ gives Greater
above_both x y z h k =
    let m = mapped_gives is_less_or_equal (compare_of x y) h in
    let l = turned_order z y Greater k in
    elim (at_most_told m.0 m.2) [
      | inl e ↦ turned_order x z Less (less_transitive x y z (m.1 ∙ ap gives e) l)
      | inr e ↦
          let p = compared_order x y Equal (m.1 ∙ ap gives e) in
          let q = compared_order y z Less l in
          let same = equal_same (number_of x) (number_of y) p.1 in
          turned_order x z Less (order_compared x z Less (p.0 ∙ q.0) (ap (λ n. order_of n (number_of z)) same ∙ q.1))
    ]

-- ---- the clamp

module _ (v lower upper : Value) where
  module _ (b : le_of lower upper ≡ gives true) where
    bounds : (o : Order) × (compare_of lower upper ≡ gives o) × (is_less_or_equal o ≡ true)
    bounds = mapped_gives is_less_or_equal (compare_of lower upper) b

    below : lt_of v lower ≡ gives true → clamp_of v lower upper ≡ gives lower
    below h =
        let l = less v lower h in
        clamp_below v lower upper bounds.1 l (some_order v upper (same_kind v lower l ∙ same_kind lower upper bounds.1)) bounds.2 refl refl

    above : gt_of v upper ≡ gives true → clamp_of v lower upper ≡ gives upper
    above h =
        let u = greater v upper h in
        clamp_above v lower upper bounds.1 (above_both lower upper v b u) u bounds.2 refl refl refl

    within : ge_of v lower ≡ gives true → gt_of v upper ≡ gives false → clamp_of v lower upper ≡ gives v
    within g h =
        let l = mapped_gives is_greater_or_equal (compare_of v lower) g in
        let u = mapped_gives is_greater (compare_of v upper) h in
        let n = at_least_told l.0 l.2 in
        clamp_within v lower upper bounds.1 l.1 u.1 bounds.2 n.0 n.1 u.2

    nan : compare_of v lower ≡ gives Unordered → clamp_of v lower upper ≡ refuses 8 0
    nan h = clamp_nan v lower upper bounds.1 h (some_order v upper (same_kind v lower h ∙ same_kind lower upper bounds.1)) bounds.2 refl

  bad_bounds_lem : OneKind v lower → le_of lower upper ≡ gives false → clamp_of v lower upper ≡ refuses 6 0
  bad_bounds_lem k h =
      let m = mapped_gives is_less_or_equal (compare_of lower upper) h in
      clamp_bounds v lower upper m.1 (some_order v lower k) (some_order v upper (k ∙ same_kind lower upper m.1)) m.2

  kinds_differ_lem : (OneKind v lower → ⊥) ⊎ (OneKind v upper → ⊥) → clamp_of v lower upper ≡ refuses 7 0
  unfolding clamp_of
  kinds_differ_lem (inl h) = rw ((refusing.kinds_differ_lem v lower).1 h)
  kinds_differ_lem (inr h) = rw ((refusing.kinds_differ_lem v upper).1 h, or-true (kinds_differ v lower))

pub clamps : (v lower upper : Value) → Clamps v lower upper
clamps v lower upper = record {
  below = below v lower upper;
  above = above v lower upper;
  within = within v lower upper;
  kinds_differ_lem = kinds_differ_lem v lower upper;
  bad_bounds_lem = bad_bounds_lem v lower upper;
  nan = nan v lower upper;
}

-- ---- the clamp of a sample is that of the value that holds it, whatever word stands beside it

sample_order_lem : (x y : Float) (u v : ℕ) → value_order (F32 x u) (F32 y v) ≡ sample_order x y
unfolding float_order.compare_of
sample_order_lem x y u v =
    sym (patterns_order f32 (float_bits binary32 x u) (float_bits binary32 y v))
    ∙ ap (λ p. order_of (float-number.number_of p) (float-number.number_of (pattern_of 23 8 (float_bits binary32 y v)))) (same_pattern x u)
    ∙ ap (λ p. order_of (float-number.number_of (pattern_of 23 8 (to_bits binary32 x))) (float-number.number_of p)) (same_pattern y v)

clamped_mapped : {A B : Type 0} (f : A → B) (bounds low high : Order) (x lower upper : A)
    → mapped f (clamped_by bounds low high x lower upper) ≡ clamped_by bounds low high (f x) (f lower) (f upper)
unfolding clamped_by
clamped_mapped f bounds low high x lower upper = go (not (is_less_or_equal bounds)) (is_unordered low) (is_less low) (is_greater high)
  where
    go : (r s t u : Bool)
        → mapped f (refuse_if r 6 0 (refuse_if s 8 0 (gives (cond t lower (cond u upper x)))))
        ≡ refuse_if r 6 0 (refuse_if s 8 0 (gives (cond t (f lower) (cond u (f upper) (f x)))))
    go true s t u = refl
    go false true t u = refl
    go false false true u = refl
    go false false false true = refl
    go false false false false = refl

pub samples : (range : Range) (x : Float) (u v w : ℕ) → mapped float_of (clamp_of (F32 x u) (F32 range.lower v) (F32 range.upper w)) ≡ sample_of range x
unfolding clamp_of sample_of clamped_by
samples range x u v w =
    let l = F32 range.lower v in
    let h = F32 range.upper w in
    clamped_mapped float_of (value_order l h) (value_order (F32 x u) l) (value_order (F32 x u) h) (F32 x u) l h
    ∙ cc (sample_order_lem range.lower range.upper v w, sample_order_lem x range.lower u v, sample_order_lem x range.upper u w)

-- ---- a range

refused_false : {A : Type 0} (t : Bool) (n p : ℕ) (a : A) → (refuse_if (not t) n p (gives a) ≡ refuses n p) ↔ (gives t ≡ gives false)
refused_false true n p a = ((λ h. clash cc), λ h. clash cc)
refused_false false n p a = ((λ h. refl), λ h. refl)

module _ (lower upper : Float) (u v : ℕ) where
  bounds_test_lem : le_of (F32 lower u) (F32 upper v) ≡ gives (is_less_or_equal (sample_order lower upper))
  unfolding compare_of
  bounds_test_lem = ap (λ o. gives (is_less_or_equal o)) (sample_order_lem lower upper u v)

  pub range_made : le_of (F32 lower u) (F32 upper v) ≡ gives true → range_of lower upper ≡ gives (record { lower = lower; upper = upper })
  unfolding range_of
  range_made h = let q : is_less_or_equal (sample_order lower upper) ≡ true = cc (bounds_test_lem, h) in rw q

  pub range_bad : (range_of lower upper ≡ refuses 6 0) ↔ (le_of (F32 lower u) (F32 upper v) ≡ gives false)
  unfolding range_of
  range_bad = rw bounds_test_lem (refused_false (is_less_or_equal (sample_order lower upper)) 6 0 (record { lower = lower; upper = upper }))
