-- The order of the decision, or its refusal.
use mathlib.Core.Path.{refl, ◌∙◌, ap}
use Rattle.value.specs.Outcome.{and_then}
use Rattle.value.proofs.Outcomes.{passed_on}
use Rattle.lexical.proofs.Deciding.{order_in, then_decision, then_refusal, compare_decided}
use Rattle.lexical.proofs.comparisons.compare.Goals as goal

pub returns : goal.returns
returns c = then_decision order_in c.in_ok-d.was refl ∙ ap (λ o. and_then o order_in) c.decide.ensures ∙ compare_decided _ _

pub returns-in_err-d : goal.returns-in_err-d
returns-in_err-d c =
    passed_on _ _ c.from_residual.ensures.1 ∙ then_refusal order_in c.in_err-d.was ∙ ap (λ o. and_then o order_in) c.decide.ensures ∙ compare_decided _ _
