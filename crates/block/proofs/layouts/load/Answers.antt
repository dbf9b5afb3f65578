-- Each turn makes one more number of the sample's bytes.
use Rattle.std.proofs.Common.{◌<◌, length, refl, sym, ap, ◌∙◌, arith}
use Rattle.row.proofs.Written.{write_step, write_end}
use Rattle.sample.specs.Samples.{numbers_in}
use Rattle.sample.proofs.Samplings.{length_numbers, number_here}
use Rattle.block.proofs.layouts.load.Goals as goal

pub loop-i-init : goal.loop-i-init
loop-i-init g c = (omega arith, refl, refl)

pub loop-i-preserved : goal.loop-i-preserved
loop-i-preserved g c =
    let a = c.args in
    let w = g.T.Sample.WIDTH in
    let n = length_numbers w (length a.row.now) a.src.now in
    let here : c.loop-i.i < length a.row.now = c.loop-i-test.true in
    write_step g.T.Sample.of_bits (numbers_in w (length a.row.now) a.src.now) a.row.now c.loop-i.row c.loop-i.i 0 c.at.result
    (omega (arith, n, here)) n c.loop-i.invariant
    (c.at.ensures ∙ ap g.T.Sample.of_bits (sym (number_here w (length a.row.now) a.src.now c.loop-i.i 0 here)))

pub returns : goal.returns
returns g c =
    let a = c.args in
    let w = g.T.Sample.WIDTH in
    let n = length_numbers w (length a.row.now) a.src.now in
    write_end g.T.Sample.of_bits (numbers_in w (length a.row.now) a.src.now) a.row.now c.loop-i.row c.loop-i.i
    (omega (arith, n, c.loop-i-test.false)) n c.loop-i.invariant
