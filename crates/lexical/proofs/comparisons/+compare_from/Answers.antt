-- No field left is Equal; else the field here decides, or those behind it do.
use mathlib.Core.Path.{sym, ◌∙◌}
use native.Mathlib.Omega.{arith}
use borrow.Author.Rules.{rules}
use Rattle.lexical.proofs.Steps.{kinds_here, shape_behind, decided_equal, decided_behind, decided_here, not_equal}
use Rattle.lexical.proofs.comparisons.+compare_from.Goals as goal

pub returns-then-left-eq0 : goal.returns-then-left-eq0
returns-then-left-eq0 t c = decided_equal c.args.a c.args.b _ _ c.if-left-eq0.true

pub order_at-requires : goal.order_at-requires
order_at-requires t c =
    (omega arith, kinds_here c.args.a c.args.b _ _ (search rules) (search rules) c.if-left-eq0.false c.requires.0 c.requires.1)

pub compare_from-requires : goal.compare_from-requires
compare_from-requires t c =
    (omega arith, (omega arith, shape_behind c.args.a c.args.b _ _ (search rules) (search rules) c.if-left-eq0.false c.requires.0 c.requires.1))

pub returns-in-Equal : goal.returns-in-Equal
returns-in-Equal t c =
    c.compare_from.ensures
    ∙ decided_behind c.args.a c.args.b _ _ (search rules) (search rules) c.if-left-eq0.false c.requires.0 (sym c.in-Equal.is ∙ c.order_at.ensures)

pub returns-in_default : goal.returns-in_default
returns-in_default t c =
    decided_here c.args.a c.args.b _ _ (search rules) (search rules) c.if-left-eq0.false c.requires.0 _
    (not_equal _ (search rules)) c.order_at.ensures
