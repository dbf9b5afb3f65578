-- The decision, then the choice by it.
use mathlib.Core.Path.{◌∙◌, ap}
use Rattle.value.specs.Outcome.{and_then}
use Rattle.record.specs.Record.{recorded_of}
use Rattle.lexical.specs.Inner.{chosen_from}
use Rattle.lexical.proofs.Deciding.{min_decided}
use Rattle.lexical.proofs.choices.min.Goals as goal

pub returns : goal.returns
returns c =
    let a = c.args.a in
    let b = c.args.b in
    c.chosen_by.ensures ∙ ap recorded_of (ap (λ o. and_then o (chosen_from a b)) c.decide.ensures ∙ min_decided a b)
