-- The lowest and the highest of samples: what is found last is better than all that came before.
use Rattle.std.specs.Prelude.{Option, None, Some}
use Rattle.std.proofs.Common.{◌≡◌, Bool, true, false, cond, List, [], ◌∷◌, ◌++◌, sym, refl, ap, ◌∙◌, subst, true≢false}
use Rattle.float.specs.declared.Order.{Order}
use Rattle.float.specs.declared.Order.TheVariants.{Less, Equal, Greater, Unordered}
use Rattle.float.specs.Order.{is_less, is_greater, is_not_equal, order_of}
use Rattle.float.proofs.Tests.{clash}
use Rattle.value.specs.declared.Kind.{Kind}
use Rattle.value.specs.declared.Value.{Value}
use Rattle.value.specs.Meaning.{number_of}
use Rattle.value.specs.Outcome.{Outcome, gives, refuses, mapped}
use Rattle.cmp.specs.Compare.{compare_of, lt_of, gt_of}
use Rattle.cmp.proofs.Given.{compared_order}
use Rattle.cmp.proofs.Orders.{turned_order, less_transitive}
use Rattle.cmp.proofs.SameNumber.{number_equal}
use Rattle.row.specs.Row.{any}
use Rattle.row.proofs.Picked.{Strict, none_still, picked_first, picked_next, picked_still, held_by_all}
use Rattle.look.specs.declared.Seen.{Seen}
use Rattle.look.specs.Report.{says, unlike_itself, better_of, noted_of, all_noted}
use Rattle.look.specs.ReportTheorem.{Best}

-- ---- a test that is an order of numbers

abbrev pub Ordered : (Value → Value → Outcome Bool) → Type 0
Ordered test = Strict unlike_itself (λ v a. says (test v a))

module _ (test : Value → Value → Outcome Bool) (strict : Ordered test) where
  best_step : (p : List Value) (f : Option Value) (v : Value) → Best test p f → Best test (p ++ (v ∷ [])) (better_of test f v)
  best_step p None v h = go (unlike_itself v) refl
    where
      go : (t : Bool) → unlike_itself v ≡ t → Best test (p ++ (v ∷ [])) (cond t None (Some v))
      go true q = none_still unlike_itself p v h q
      go false q = picked_first strict p v h q
  best_step p (Some a) v h = go (says (test v a)) refl
    where
      go : (t : Bool) → says (test v a) ≡ t → Best test (p ++ (v ∷ [])) (cond t (Some v) (Some a))
      go true q = picked_next strict p v a h q
      go false q = picked_still strict p v a h q

  -- over all samples
  module _ (to : Kind) (found : Seen → Option Value) (step : (s : Seen) (v : Value) → found (noted_of to s v) ≡ better_of test (found s) v) where
    pub best_of : (vs : List Value) (s : Seen) → found s ≡ None → Best test vs (found (all_noted to s vs))
    unfolding any all_noted
    best_of vs s q =
        held_by_all (noted_of to) (all_noted to) (λ r. refl) (λ r v l. refl) (λ p r. Best test p (found r))
        (λ p r v h. subst (Best test (p ++ (v ∷ []))) (sym (step r v)) (best_step p (found r) v h)) vs s (subst (Best test []) (sym q) refl)

-- ---- lower, and higher

less_said : (o : Outcome Order) → says (mapped is_less o) ≡ true → o ≡ gives Less
less_said (gives Less) h = refl
less_said (gives Equal) h = absurd (true≢false (sym h))
less_said (gives Greater) h = absurd (true≢false (sym h))
less_said (gives Unordered) h = absurd (true≢false (sym h))
less_said (refuses m p) h = absurd (true≢false (sym h))

greater_said : (o : Outcome Order) → says (mapped is_greater o) ≡ true → o ≡ gives Greater
greater_said (gives Less) h = absurd (true≢false (sym h))
greater_said (gives Equal) h = absurd (true≢false (sym h))
greater_said (gives Greater) h = refl
greater_said (gives Unordered) h = absurd (true≢false (sym h))
greater_said (refuses m p) h = absurd (true≢false (sym h))

-- nothing is less than itself
never_less : (a : Value) → compare_of a a ≡ gives Less → ⊥
never_less a h = clash (let q = sym h ∙ turned_order a a Less h in cc)

-- what is less than something, or that something is less than, is a number
no_nan : (a b : Value) (o : Order) → compare_of a b ≡ gives o → (o ≡ Unordered → ⊥) → unlike_itself a ≡ false
no_nan a b o h k = ap (λ r. says (mapped is_not_equal r))
    (number_equal a a refl refl (λ q. k (sym (compared_order a b o h).1 ∙ ap (λ n. order_of n (number_of b)) q)))

said_not : (t : Bool) → (t ≡ true → ⊥) → t ≡ false
said_not true h = absurd (h refl)
said_not false h = refl

pub lower_strict : Ordered lt_of
lower_strict = record {
  irreflexive = λ a. said_not (says (lt_of a a)) (λ q. never_less a (less_said (compare_of a a) q));
  transitive = λ u v a h k. ap (λ o. says (mapped is_less o)) (less_transitive u v a (less_said (compare_of u v) h) (less_said (compare_of v a) k));
  kept = λ v a h. no_nan v a Less (less_said (compare_of v a) h) (λ q. clash cc);
}

pub higher_strict : Ordered gt_of
higher_strict = record {
  irreflexive = λ a. said_not (says (gt_of a a)) (λ q. never_less a (turned_order a a Greater (greater_said (compare_of a a) q)));
  transitive = λ u v a h k. ap (λ o. says (mapped is_greater o))
      (turned_order a u Less
      (less_transitive a v u (turned_order v a Greater (greater_said (compare_of v a) k)) (turned_order u v Greater (greater_said (compare_of u v) h))));
  kept = λ v a h. no_nan v a Greater (greater_said (compare_of v a) h) (λ q. clash cc);
}
