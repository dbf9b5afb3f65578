-- Upwards the product is shifted and nothing is left; downwards the digits of m below the place decide.
use mathlib.Core.Path.{sym, ◌∙◌, ap}
use mathlib.Core.Bool.{not}
use native.Mathlib.Nat.{le_of_lt}
use borrow.Author.Rules.{rules}
use borrow.Author.Tests.{eq-eqb}
use Rattle.convert.proofs.Binary.{over_up, over_down, shift_up, shift_out}
use Rattle.convert.proofs.digits.over.Goals as goal
use Rattle.convert.proofs.digits.over.Goals.{then-t-gt63, else-t-gt63}

pub overflow_shl-result : goal.overflow_shl-result
overflow_shl-result c = let a = c.args in (shift_up a.n.digits a.n.shift a.d c.if-d-g.true c.requires.0 c.requires.1).0

pub returns-then-d-g : goal.returns-then-d-g
returns-then-d-g c =
    let a = c.args in (
      (shift_up a.n.digits a.n.shift a.d c.if-d-g.true c.requires.0 c.requires.1).1,
      sym (ap not (eq-eqb _ _ (over_up a.n.digits a.n.shift a.d c.if-d-g.true).0)),
    )

pub returns : goal.returns
returns c =
    let down = le_of_lt c.if-d-g.false in (
      elim c.if-t-gt63.branch [
        | then-t-gt63 w ↦ w.result-is ∙ shift_out c.args.n.digits c.args.n.shift c.args.d down (search rules) w.if-t-gt63.true
        | else-t-gt63 w ↦ w.result-is ∙ sym (over_down c.args.n.digits c.args.n.shift c.args.d down).1
      ],
      c.has_fraction.ensures ∙ sym (ap not (over_down c.args.n.digits c.args.n.shift c.args.d down).0),
    )
