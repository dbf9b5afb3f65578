-- Up to i, the flag is whether a sample is a NaN.
use Rattle.std.proofs.Common.{length, ◌/◌, ◌∙◌, arith}
use Rattle.float.specs.Format.{f16, nan_in}
use Rattle.row.proofs.Scan.{none_yet, any_step, any_end}
use Rattle.sample.specs.Samples.{numbers_in}
use Rattle.sample.proofs.Samplings.{length_numbers, number_here}
use Rattle.block.proofs.halves.holds_nan.Goals as goal

pub loop-i-init : goal.loop-i-init
loop-i-init c = none_yet (nan_in f16) (numbers_in 2 (length c.args.src.now / 2) c.args.src.now)

pub loop-i-preserved : goal.loop-i-preserved
loop-i-preserved c =
    let src = c.args.src.now in
    let n = length src / 2 in
    let here = number_here 2 n src c.loop-i.i 0 c.loop-i-test.true in
    cc (c.loop-i.invariant, c.is_nan-found.ensures, c.at.ensures, here)
    ∙ any_step (nan_in f16) (numbers_in 2 n src) c.loop-i.i 0 (omega (arith, length_numbers 2 n src, c.loop-i-test.true))

pub returns : goal.returns
returns c =
    let src = c.args.src.now in
    let n = length src / 2 in
    c.loop-i.invariant ∙ any_end (nan_in f16) (numbers_in 2 n src) c.loop-i.i (omega (arith, length_numbers 2 n src, c.loop-i-test.false))
