-- Bytes left over; then an earlier refusal; then the room; then the block.
use Rattle.std.proofs.Common.{◌≡◌, length, sym, ap, ◌∙◌, rules}
use Rattle.sample.specs.Samples.{left_of}
use Rattle.row.specs.Row.{rowed_outcome}
use Rattle.block.proofs.Blocks.{passed_row, placed_is, step_stays, step_accepted, step_short, step_block, shorter, enough}
use Rattle.block.proofs.steps.step.Goals as goal

pub returns-in_err-earlier : goal.returns-in_err-earlier
returns-in_err-earlier c =
    let a = c.args in
    let none : left_of a.from a.src.now ≡ 0 = cc in
    let was = ap rowed_outcome c.in_err-earlier.was in
    let r = step_stays a.from a.to a.s.samples (rowed_outcome a.s.answer) a.src.now a.dst.now none was in
    record { answer = passed_row _ _ c.from_residual.ensures.1 ∙ sym was ∙ r.0; exit = r.1 }

pub returns-then-dst-bytes_of : goal.returns-then-dst-bytes_of
returns-then-dst-bytes_of c =
    let a = c.args in
    let none : left_of a.from a.src.now ≡ 0 = cc in
    let short = shorter (length a.dst.now) c.count.ensures c.bytes_of-2.ensures.0 c.if-dst-bytes_of.true in
    let r = step_accepted a.from a.to a.s.samples (rowed_outcome a.s.answer) a.src.now a.dst.now (ap rowed_outcome c.in_ok-earlier.was)
    (step_short a.from a.to a.s.samples a.src.now a.dst.now none short) in
    record { answer = r.0; exit = r.1 }

pub returns : goal.returns
returns c =
    let a = c.args in
    let none : left_of a.from a.src.now ≡ 0 = cc in
    let fits = enough (length a.dst.now) c.count.result c.bytes_of-2.ensures.0 c.if-dst-bytes_of.false in
    let placed = placed_is a.s.samples c.by_pair-moved.result c.map_err.result (λ e f p. search rules) c.map_err.ensures.cases in
    let r = step_accepted a.from a.to a.s.samples (rowed_outcome a.s.answer) a.src.now a.dst.now (ap rowed_outcome c.in_ok-earlier.was)
    (step_block a.from a.to a.s.samples a.src.now a.dst.now none (rw (← c.count.ensures) fits)
    (c.by_pair-moved.ensures.answer, c.by_pair-moved.ensures.exit) placed) in
    record { answer = r.0; exit = r.1 }
