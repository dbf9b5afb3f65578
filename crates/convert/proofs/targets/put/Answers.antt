-- What was found fits the kind, and the value made of it is the definition's.
use mathlib.Core.Path.{◌∙◌, ap}
use Rattle.value.specs.Outcome.{gives}
use Rattle.value.proofs.Outcomes.{passed_on}
use Rattle.convert.specs.Inner.{meaning}
use Rattle.convert.proofs.Puts.{put_is, put_refused, found_fits}
use Rattle.convert.proofs.targets.put.Goals as goal

pub returns-in_err-found : goal.returns-in_err-found
returns-in_err-found c = passed_on _ _ c.from_residual.ensures.1 ∙ put_refused _ _ _ c.find.ensures _ c.in_err-found.was

pub make-requires : goal.make-requires
make-requires c =
    let a = c.args in
    found_fits a.to (meaning a.x) _ c.find.ensures _ c.in_ok-found.was

pub returns : goal.returns
returns c = ap gives c.make.ensures ∙ put_is _ _ _ c.find.ensures _ c.in_ok-found.was
