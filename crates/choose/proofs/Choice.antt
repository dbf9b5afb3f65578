-- Choosing and clamping by the orders that were compared.
use mathlib.Core.Path.{◌≡◌, refl, sym, ◌∙◌, ap}
use mathlib.Core.Bool.{Bool, true, false, not, true≢false}
use borrow.Author.Tests.{eq-eqb}
use Rattle.float.specs.declared.Order.{Order}
use Rattle.float.specs.Order.{is_less, is_less_or_equal, is_greater, is_unordered}
use Rattle.float.proofs.Tests.{clash}
use Rattle.value.specs.declared.Value.{Value}
use Rattle.value.specs.declared.Refusal.{Refusal}
use Rattle.value.specs.Outcome.{Outcome, gives, refuses, refuse_if, refusal_of, and_then, mapped}
use Rattle.value.specs.Rules.{chain}
use Rattle.value.proofs.Rules.{chain_then}
use Rattle.value.proofs.Outcomes.{mapped_gives, refuses_same}
use Rattle.cmp.specs.Compare.{kinds_differ, value_rules, value_order, compare_of, le_of}
use Rattle.cmp.proofs.KindTests.{one_kind}
use Rattle.cmp.specs.Inner.{chosen_by}
use Rattle.choose.specs.Choose.{min_of, max_of, clamp_of}
use Rattle.choose.specs.Inner.{clamped_by}

-- ---- the choice

-- a comparison, and then what follows, is rule 7 and then what follows
compare_then : {B : Type 0} (next : Order → Outcome B) (a b : Value) → and_then (compare_of a b) next ≡ chain (value_rules a b) (next (value_order a b))
unfolding compare_of
compare_then next a b = chain_then next (value_rules a b) (gives (value_order a b))

-- of an order that was compared
module _ (a b : Value) {o : Order} (h : gives o ≡ compare_of a b) where
  pub min_chosen : chosen_by 0 a b o ≡ min_of a b
  unfolding min_of chosen_by
  min_chosen = ap (λ c. and_then c (chosen_by 0 a b)) h ∙ compare_then (chosen_by 0 a b) a b

  pub max_chosen : chosen_by 0 b a o ≡ max_of a b
  unfolding max_of chosen_by
  max_chosen = ap (λ c. and_then c (chosen_by 0 b a)) h ∙ compare_then (chosen_by 0 b a) a b

-- of a refusal
module _ (a b : Value) (f : Refusal) (h : refusal_of f ≡ compare_of a b) where
  pub min_refused : refusal_of f ≡ min_of a b
  unfolding min_of chosen_by
  min_refused = ap (λ c. and_then c (chosen_by 0 a b)) h ∙ compare_then (chosen_by 0 a b) a b

  pub max_refused : refusal_of f ≡ max_of a b
  unfolding max_of chosen_by
  max_refused = ap (λ c. and_then c (chosen_by 0 b a)) h ∙ compare_then (chosen_by 0 b a) a b

-- ---- the clamp

module _ {A : Type 0} (x lower upper : A) (bounds low high : Order) where
  pub clamped_bounds : not (is_less_or_equal bounds) ≡ true → refuses 6 0 ≡ clamped_by bounds low high x lower upper
  unfolding clamped_by
  clamped_bounds h = simp h

  module _ (b : is_less_or_equal bounds ≡ true) where
    pub clamped_nan : is_unordered low ≡ true → refuses 8 0 ≡ clamped_by bounds low high x lower upper
    unfolding clamped_by
    clamped_nan q = simp (b, q)

    module _ (n : is_unordered low ≡ false) where
      pub clamped_lower : is_less low ≡ true → gives lower ≡ clamped_by bounds low high x lower upper
      unfolding clamped_by
      clamped_lower q = simp (b, n, q)

      module _ (l : is_less low ≡ false) where
        pub clamped_upper : is_greater high ≡ true → gives upper ≡ clamped_by bounds low high x lower upper
        unfolding clamped_by
        clamped_upper q = simp (b, n, l, q)

        pub clamped_self : is_greater high ≡ false → gives x ≡ clamped_by bounds low high x lower upper
        unfolding clamped_by
        clamped_self q = simp (b, n, l, q)

-- by the three comparisons
given_kinds : (a b : Value) {o : Order} → gives o ≡ compare_of a b → (kinds_differ a b ≡ false) × (o ≡ value_order a b)
unfolding compare_of
given_kinds a b {o} h = go (kinds_differ a b) refl h
  where
    go : (t : Bool) → kinds_differ a b ≡ t → gives o ≡ refuse_if t 7 0 (gives (value_order a b)) → (kinds_differ a b ≡ false) × (o ≡ value_order a b)
    go true e q = clash cc
    go false e q = (e, cc)

refused_kinds : (a b : Value) (f : Refusal) → refusal_of f ≡ compare_of a b → (kinds_differ a b ≡ true) × (f.number ≡ 7) × (f.place ≡ 0)
unfolding compare_of
refused_kinds a b f h = go (kinds_differ a b) refl h
  where
    go : (t : Bool) → kinds_differ a b ≡ t → refusal_of f ≡ refuse_if t 7 0 (gives (value_order a b)) →
        (kinds_differ a b ≡ true) × (f.number ≡ 7) × (f.place ≡ 0)
    go true e q = (e, cc, cc)
    go false e q = clash cc

-- a test refuses as the comparison does
refused_test : (test : Order → Bool) (c : Outcome Order) (f : Refusal) → refusal_of f ≡ mapped test c → refusal_of f ≡ c
refused_test test (gives o) f h = clash cc
refused_test test (refuses number place) f h = let q = refuses_same h in cc

same_kinds : (v a b : Value) → kinds_differ v a ≡ false → kinds_differ v b ≡ false → kinds_differ a b ≡ false
same_kinds v a b h k = ap not (eq-eqb _ _ (sym (one_kind v a h) ∙ one_kind v b k))

module _ (v lower upper : Value) where
  pub clamp_refused_lower : (f : Refusal) → refusal_of f ≡ compare_of v lower → refusal_of f ≡ clamp_of v lower upper
  unfolding clamp_of
  clamp_refused_lower f h = let k = refused_kinds v lower f h in simp (k.0, k.1, k.2)

  module _ {low : Order} (l : gives low ≡ compare_of v lower) where
    pub clamp_refused_upper : (f : Refusal) → refusal_of f ≡ compare_of v upper → refusal_of f ≡ clamp_of v lower upper
    unfolding clamp_of
    clamp_refused_upper f h = let k = refused_kinds v upper f h in simp ((given_kinds v lower l).0, k.0, k.1, k.2)

    module _ {high : Order} (u : gives high ≡ compare_of v upper) where
      pub clamp_never : (f : Refusal) → refusal_of f ≡ le_of lower upper → refusal_of f ≡ clamp_of v lower upper
      clamp_never f h = absurd (true≢false (sym (refused_kinds lower upper f (refused_test is_less_or_equal (compare_of lower upper) f h)).0
          ∙ same_kinds v lower upper (given_kinds v lower l).0 (given_kinds v upper u).0))

      pub clamp_ordered : {bounds : Order} {r : Outcome Value} → gives bounds ≡ compare_of lower upper
          → r ≡ clamped_by bounds low high v lower upper → r ≡ clamp_of v lower upper
      unfolding clamp_of clamped_by
      clamp_ordered w h =
          let p = given_kinds v lower l in
          let q = given_kinds v upper u in
          simp (p.0, q.0) (h ∙ cc (p.1, q.1, (given_kinds lower upper w).1))

      -- whether the bounds are in order is a test of the order that they have
      pub clamp_clamped : {t : Bool} {r : Outcome Value} → gives t ≡ le_of lower upper
          → ((bounds : Order) → is_less_or_equal bounds ≡ t → r ≡ clamped_by bounds low high v lower upper) → r ≡ clamp_of v lower upper
      clamp_clamped w h =
          let g = mapped_gives is_less_or_equal (compare_of lower upper) (sym w) in
          clamp_ordered (sym g.1) (h g.0 g.2)
