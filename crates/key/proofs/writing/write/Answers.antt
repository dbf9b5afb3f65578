-- Each way out is one law of what writing answers and leaves.
use native.Mathlib.Omega.{arith}
use Rattle.key.proofs.WriteSteps.{write_bad_count, length_is, write_short, write_nan, write_done}
use Rattle.key.proofs.writing.write.Goals as goal

pub returns-then-bad_count : goal.returns-then-bad_count
returns-then-bad_count c =
    let both = write_bad_count c.args.r c.args.buffer.now c.bad_count.ensures c.if-bad_count.true in
    record { answer = both.0; exit = both.1 }

pub returns-then-buffer-n : goal.returns-then-buffer-n
returns-then-buffer-n c =
    let both =
    write_short c.args.r c.args.buffer.now c.bad_count.ensures c.if-bad_count.false c.key_length-n.ensures c.if-buffer-n.true in
    record { answer = both.0; exit = both.1 }

pub returns-in-Some : goal.returns-in-Some
returns-in-Some c =
    let both =
    write_nan c.args.r c.args.buffer.now c.bad_count.ensures c.if-bad_count.false c.key_length-n.ensures c.if-buffer-n.false
    c.first_nan.ensures c.in-Some.is in
    record { answer = both.0; exit = both.1 }

pub write_fields-requires : goal.write_fields-requires
write_fields-requires c =
    omega (arith, length_is c.args.r c.args.buffer.now c.bad_count.ensures c.if-bad_count.false c.key_length-n.ensures)

pub returns : goal.returns
returns c =
    let both =
    write_done c.args.r c.args.buffer.now c.bad_count.ensures c.if-bad_count.false c.key_length-n.ensures c.if-buffer-n.false
    c.first_nan.ensures c.in_default.is c.write_fields.ensures in
    record { answer = both.0; exit = both.1 }
