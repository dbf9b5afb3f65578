-- Each arm is a case of `whole_in`.
use mathlib.Core.Path.{sym, ◌∙◌, ap}
use Rattle.convert.specs.declared.Parts.{Parts}
use Rattle.convert.specs.Inner.{meaning, whole_in}
use Rattle.convert.proofs.targets.whole_in.Goals as goal

pub returns-in-NotANumber : goal.returns-in-NotANumber
unfolding whole_in
returns-in-NotANumber c = let a = c.args in sym (ap (λ (x : Parts). whole_in a.low a.high (meaning x)) c.in-NotANumber.is)

pub returns-in-Infinite : goal.returns-in-Infinite
unfolding whole_in
returns-in-Infinite c = let a = c.args in sym (ap (λ (x : Parts). whole_in a.low a.high (meaning x)) c.in-Infinite.is)

pub returns-in-Finite : goal.returns-in-Finite
unfolding whole_in
returns-in-Finite c =
    let a = c.args in
    c.whole.ensures ∙ sym (ap (λ (x : Parts). whole_in a.low a.high (meaning x)) c.in-Finite.is)
