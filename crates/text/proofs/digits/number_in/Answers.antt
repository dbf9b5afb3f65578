-- The loop keeps the number read so far and what is left: together they give the whole.
use Rattle.std.proofs.Common.{◌∙◌, sym}
use Rattle.text.proofs.Numbers.{number_ends, number_stops, number_large, number_more}
use Rattle.text.proofs.digits.number_in.Goals as goal

pub returns-in_err-digit_in : goal.returns-in_err-digit_in
returns-in_err-digit_in c =
    c.from_residual.ensures ∙ number_stops _ _ _ _ c.loop-b.invariant c.loop-b-test.true (sym c.in_err-digit_in.was ∙ c.digit_in.ensures)

pub returns-in_err-n : goal.returns-in_err-n
returns-in_err-n c =
    c.from_residual-in_err-n.ensures
    ∙ number_large _ _ _ _ c.loop-b.invariant _ c.loop-b-test.true (sym c.in_ok-digit_in.was ∙ c.digit_in.ensures) c.in_err-n.ensures

pub loop-b-preserved : goal.loop-b-preserved
loop-b-preserved c =
    number_more _ _ _ _ c.loop-b.invariant _ c.loop-b-test.true (sym c.in_ok-digit_in.was ∙ c.digit_in.ensures) c.in_ok-n.ensures

pub returns : goal.returns
returns c = number_ends _ _ _ _ c.loop-b.invariant c.loop-b-test.false
