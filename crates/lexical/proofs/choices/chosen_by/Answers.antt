-- Each arm knows the order that was decided, or the refusal.
use mathlib.Core.Path.{◌∙◌, ap}
use Rattle.cmp.proofs.ByOrder.{chosen_unordered, chosen_greater, chosen_other}
use Rattle.record.specs.Record.{recorded_of}
use Rattle.lexical.specs.Inner.{chosen_from}
use Rattle.lexical.proofs.Deciding.{then_decision, first_stays}
use Rattle.lexical.proofs.choices.chosen_by.Goals as goal

pub returns-in-Unordered : goal.returns-in-Unordered
returns-in-Unordered c =
    c.refused.ensures ∙ ap recorded_of (then_decision (chosen_from _ _) c.in-Ok.is (chosen_unordered _ _ _ _ c.in-Unordered.is))

pub returns-in-Greater : goal.returns-in-Greater
returns-in-Greater c =
    c.from.ensures ∙ ap recorded_of (then_decision (chosen_from _ _) c.in-Ok.is (chosen_greater _ _ _ _ c.in-Greater.is))

pub returns-in_default : goal.returns-in_default
returns-in_default c =
    c.from-in_default.ensures ∙ ap recorded_of (then_decision (chosen_from _ _) c.in-Ok.is
    (chosen_other _ _ _ _ (first_stays _ c.in_default.not-Unordered c.in_default.not-Greater)))
