-- The kinds are one, so the comparison gives the order of the numbers.
use mathlib.Core.Path.{◌∙◌}
use Rattle.lexical.proofs.OneKind.{one_kind_ordered, given_or}
use Rattle.lexical.proofs.comparisons.order_at.Goals as goal

pub returns : goal.returns
returns c = c.unwrap_or.ensures ∙ given_or c.compare.result _ (c.compare.ensures ∙ one_kind_ordered _ _ c.requires.1)
