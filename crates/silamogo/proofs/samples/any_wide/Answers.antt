-- One of the samples passes the test.
use mathlib.Core.Path.{refl, ◌∙◌}
use mathlib.Core.Bool.{◌||◌}
use Rattle.std.proofs.Common.{rules, tests}
use Rattle.std.specs.List.{list_any}
use Rattle.std.proofs.lemmas.Iterator.{YieldsList-from_slice}
use Rattle.std.proofs.lemmas.Iterator.Search.{any_from_yields_List}
use Rattle.std.proofs.lemmas.List.Recursion.{same_from_clauses}
use Rattle.silamogo.specs.Samples.{too_wide, any_wide}
use Rattle.silamogo.proofs.samples.any_wide.Goals as goal

pub returns : goal.returns
unfolding any_wide
returns c =
    any_from_yields_List too_wide _ _ _ c.any.ensures.ran (YieldsList-from_slice c.args.samples.now cc) (λ x b q k. search (rules, tests))
    ∙ same_from_clauses (list_any too_wide) any_wide (λ s some. too_wide s || some) refl (λ _ _. refl) (λ _ _. refl) _
