-- Each arm is a case of `float_in`.
use mathlib.Core.Path.{sym, ◌∙◌, ap}
use Prim.Native.Nat.{ℕ, ◌^◌}
use Rattle.value.specs.Outcome.{gives}
use Rattle.convert.specs.declared.Parts.{Parts}
use Rattle.convert.specs.Inner.{found, meaning, float_in}
use Rattle.convert.proofs.targets.float_in.Goals as goal

pub returns-in-NotANumber : goal.returns-in-NotANumber
unfolding float_in
returns-in-NotANumber c =
    let a = c.args in
    sym (ap (λ (x : Parts). float_in a.format.fraction (2 ^ a.format.step) a.format.last (meaning x)) c.in-NotANumber.is)

pub returns-in-Infinite : goal.returns-in-Infinite
unfolding float_in
returns-in-Infinite c =
    let a = c.args in
    ap (λ (n : ℕ). gives (found c.in-Infinite.negative n)) c.infinity.ensures
    ∙ sym (ap (λ (x : Parts). float_in a.format.fraction (2 ^ a.format.step) a.format.last (meaning x)) c.in-Infinite.is)

pub returns-in-Finite : goal.returns-in-Finite
unfolding float_in
returns-in-Finite c =
    let a = c.args in
    c.held.ensures ∙ sym (ap (λ (x : Parts). float_in a.format.fraction (2 ^ a.format.step) a.format.last (meaning x)) c.in-Finite.is)
