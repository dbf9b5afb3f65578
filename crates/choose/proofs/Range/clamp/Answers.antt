-- Each arm has passed the tests of the definition, in its order, by the language's own operators.
use mathlib.Core.Path.{sym, ◌∙◌, ap}
use borrow.Author.Rules.{rules}
use Rattle.value.specs.Outcome.{gives}
use Rattle.choose.proofs.Samples.{sample_bounds, sample_is_nan, sample_number}
use Rattle.choose.proofs.Range.clamp.Goals as goal

pub returns-then-is_nan : goal.returns-then-is_nan
returns-then-is_nan c =
    sample_is_nan _ _ (search rules) (search rules) (search rules) c.if-self.true (sym c.is_nan.ensures.value ∙ c.if-is_nan.true)

pub returns-else-is_nan : goal.returns-else-is_nan
returns-else-is_nan c =
    ap gives c.clamp.ensures.value
    ∙ sample_number _ _ (search rules) (search rules) (search rules) c.if-self.true (sym c.is_nan.ensures.value ∙ c.if-is_nan.false)

pub returns-else-self : goal.returns-else-self
returns-else-self c = sample_bounds _ _ (search rules) (search rules) (search rules) c.if-self.false
