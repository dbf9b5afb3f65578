-- The comparison, then the choice by its order.
use mathlib.Core.Path.{◌∙◌}
use Rattle.value.proofs.Outcomes.{passed_on}
use Rattle.choose.proofs.Choice.{max_chosen, max_refused}
use Rattle.choose.proofs.choosing.max.Goals as goal

pub returns-in_err-compare : goal.returns-in_err-compare
returns-in_err-compare c = passed_on _ _ c.from_residual.ensures.1 ∙ max_refused _ _ _ c.in_err-compare.ensures

pub returns : goal.returns
returns c = c.chosen.ensures ∙ max_chosen _ _ c.in_ok-compare.ensures
