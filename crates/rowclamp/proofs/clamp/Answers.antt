-- Bounds out of order, a NaN, or a row that was clamped whole: each is one law of the row.
use Rattle.std.proofs.Common.{◌≢◌, ◌<◌, ◌∙◌, ap, length, arith, get_or-set_other, get_or-set_same, below_more}
use Rattle.std.specs.Float.{float_clamp}
use borrow.Author.Rules.{rules}
use Rattle.rowclamp.proofs.ClampRow.{clamp_row_bounds, clamp_row_refused, clamp_row_done}
use Rattle.rowclamp.proofs.clamp.Goals as goal

pub returns-in-Some : goal.returns-in-Some
returns-in-Some c =
    let both = clamp_row_refused c.args.range (search rules) (search rules) c.if-not-lower-upper.false c.args.row.now (λ i h. search rules) c.in-Some.place
    (search rules) in
    record { answer = both.0; exit = both.1 }

pub loop-x-preserved : goal.loop-x-preserved
loop-x-preserved c =
    let i = c.loop-x.x-index in
    let before = c.loop-x.invariant in
    let inside : i < length c.loop-x.row = omega arith in (
      below_more _ _
          (λ k h. let other : k ≢ i = omega arith in rw get_or-set_other (before.0 k h))
          (rw get_or-set_same (c.clamp.ensures.value ∙ ap (λ y. float_clamp y c.args.range.lower c.args.range.upper) (before.1 i (omega arith)))),
      λ k h. let other : k ≢ i = omega arith in rw get_or-set_other (before.1 k (omega arith)),
    )

pub returns : goal.returns
returns c =
    let both = clamp_row_done c.args.range (search rules) (search rules) c.if-not-lower-upper.false c.args.row.now (λ i h. search rules) c.loop-x.row
    (omega arith) (search rules) (λ k l. c.loop-x.invariant.0 k (omega arith)) in
    record { answer = both.0; exit = both.1 }

pub returns-then-not-lower-upper : goal.returns-then-not-lower-upper
returns-then-not-lower-upper c =
    let both = clamp_row_bounds c.args.range (search rules) (search rules) c.args.row.now c.if-not-lower-upper.true in
    record { answer = both.0; exit = both.1 }
