-- One of the numbers passes the test.
use mathlib.Core.Path.{refl, ◌∙◌}
use mathlib.Core.Bool.{◌||◌}
use Rattle.std.proofs.Common.{rules, tests}
use Rattle.std.specs.List.{list_any}
use Rattle.std.proofs.lemmas.Iterator.{YieldsList-from_slice}
use Rattle.std.proofs.lemmas.Iterator.Search.{any_from_yields_List}
use Rattle.std.proofs.lemmas.List.Recursion.{same_from_clauses}
use Rattle.silamogo.specs.Samples.{unnamed, any_unnamed}
use Rattle.silamogo.proofs.samples.any_unnamed.Goals as goal

pub returns : goal.returns
unfolding any_unnamed
returns c =
    any_from_yields_List unnamed _ _ _ c.any.ensures.ran (YieldsList-from_slice c.args.numbers.now cc) (λ x b q k. search (rules, tests))
    ∙ same_from_clauses (list_any unnamed) any_unnamed (λ n some. unnamed n || some) refl (λ _ _. refl) (λ _ _. refl) _
