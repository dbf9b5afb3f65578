-- Another number of fields, or a kind that differs.
use mathlib.Core.Path.{◌∙◌}
use Rattle.lexical.proofs.OneShape.{by_length, by_kinds}
use Rattle.lexical.proofs.shapes.shapes_differ.Goals as goal

pub returns-then-xs-ys : goal.returns-then-xs-ys
returns-then-xs-ys c = by_length c.args.xs.now c.args.ys.now c.if-xs-ys.true

pub returns-else-xs-ys : goal.returns-else-xs-ys
returns-else-xs-ys c = c.some_kind_differs.ensures ∙ by_kinds c.args.xs.now c.args.ys.now c.if-xs-ys.false
