-- The comparison and the choice, from the decision that they share.
use Rattle.std.specs.Prelude.{Result, Err, Ok}
use Prim.Native.Nat.{ℕ, ◌≤◌}
use mathlib.Core.Path.{◌≡◌, refl, sym, ◌∙◌, ap}
use mathlib.Core.Bool.{Bool, true, false, not, ◌||◌}
use native.Mathlib.Nat.{zero-add}
use Rattle.float.specs.declared.Order.{Order}
use Rattle.float.specs.declared.Order.TheVariants.{Less, Equal, Greater, Unordered}
use Rattle.float.specs.Order.{is_greater, is_unordered}
use Rattle.float.proofs.Tests.{neither}
use Rattle.value.specs.Outcome.{Outcome, gives, refusal_of, and_then, outcome_of}
use Rattle.value.specs.Rules.{chain}
use Rattle.value.proofs.Rules.{chain_then}
use Rattle.value.specs.declared.Refusal.{Refusal}
use Rattle.cmp.specs.Inner.{chosen_by}
use Rattle.record.proofs.Twelve.{good_count}
use Rattle.record.specs.declared.Record.{Record}
use Rattle.lexical.specs.declared.comparisons.Decision.{Decision}
use Rattle.record.specs.Record.{fields_of, bad_count}
use Rattle.lexical.specs.Lexical.{shapes_differ, lexical_of, deciding_of, record_rules, compare_of, min_of, max_of}
use Rattle.lexical.specs.Inner.{decision_from, decide_of, chosen_from}

-- ---- after a decision

module _ {B : Type 0} {d : Result Decision Refusal} where
  pub then_decision : (next : Decision → Outcome B) {x : Decision} {r : Outcome B} → d ≡ Ok x → r ≡ next x → r ≡ and_then (outcome_of d) next
  then_decision next q h = h ∙ sym (ap (λ (e : Result Decision Refusal). and_then (outcome_of e) next) q)

  pub then_refusal : (next : Decision → Outcome B) {f : Refusal} → d ≡ Err f → refusal_of f ≡ and_then (outcome_of d) next
  then_refusal next q = sym (ap (λ (e : Result Decision Refusal). and_then (outcome_of e) next) q)

-- an order that is neither Unordered nor Greater
pub first_stays : (o : Order) → (o ≡ Unordered → ⊥) → (o ≡ Greater → ⊥) → not (is_greater o || is_unordered o) ≡ true
first_stays Less u g = refl
first_stays Equal u g = refl
first_stays Greater u g = absurd (g refl)
first_stays Unordered u g = absurd (u refl)

-- ---- the decision by the tests of rules 11 and 7

module _ (a b : Record) {bad : Bool} (u : bad ≡ (bad_count a.count || bad_count b.count)) where
  module _ (h : bad ≡ false) where
    pub good_counts : (a.count ≤ 12) × (b.count ≤ 12)
    good_counts =
        let p = neither (bad_count a.count) (bad_count b.count) (sym u ∙ h) in
        (good_count a.count p.0, good_count b.count p.1)

    pub decide_given : {d : Decision} → shapes_differ (fields_of a) (fields_of b) ≡ false →
        d ≡ decision_from 0 (fields_of a) (fields_of b) → gives d ≡ decide_of a b
    unfolding decide_of
    decide_given s q = rw (← u, h, s, q)

-- ---- what follows two records of one shape

abbrev pub order_in : Decision → Outcome Order
order_in d = gives d.order

module _ (a b : Record) where
  pub compare_decided : and_then (decide_of a b) order_in ≡ compare_of a b
  unfolding decide_of compare_of
  compare_decided = chain_then order_in (record_rules a b) (gives (decision_from 0 (fields_of a) (fields_of b)))

  chosen_decided : (one other : Record) → and_then (decide_of a b) (chosen_from one other)
      ≡ chain (record_rules a b) (chosen_by (deciding_of (fields_of a) (fields_of b)) one other (lexical_of (fields_of a) (fields_of b)))
  unfolding decide_of
  chosen_decided one other =
      chain_then (chosen_from one other) (record_rules a b) (gives (decision_from 0 (fields_of a) (fields_of b)))
      ∙ ap (λ (n : ℕ). chain (record_rules a b) (chosen_by n one other (lexical_of (fields_of a) (fields_of b))))
      (zero-add (deciding_of (fields_of a) (fields_of b)))

  pub min_decided : and_then (decide_of a b) (chosen_from a b) ≡ min_of a b
  unfolding min_of chosen_by
  min_decided = chosen_decided a b

  pub max_decided : and_then (decide_of a b) (chosen_from b a) ≡ max_of a b
  unfolding max_of chosen_by
  max_decided = chosen_decided b a
