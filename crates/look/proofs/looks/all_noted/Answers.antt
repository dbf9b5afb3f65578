-- The first i samples were noted.
use Rattle.std.proofs.Common.{◌<◌, length, sym, ap, ◌∙◌, arith, take_all}
use Rattle.value.specs.Meaning.{value_of}
use Rattle.sample.specs.Samples.{count_of, samples_of}
use Rattle.sample.proofs.Samplings.{length_samples}
use Rattle.look.specs.Report.{all_noted}
use Rattle.look.proofs.Looking.{noted_none, noted_more}
use Rattle.look.proofs.looks.all_noted.Goals as goal

pub loop-i-init : goal.loop-i-init
loop-i-init c = let a = c.args in noted_none a.to a.s

pub loop-i-preserved : goal.loop-i-preserved
loop-i-preserved c =
    let a = c.args in
    let l = samples_of a.from a.src.now in
    let below : c.loop-i.i < length l =
    omega (arith, length_samples a.from (count_of a.from a.src.now) a.src.now, c.count-i-end.ensures, c.loop-i-test.true) in
    c.noted-seen.ensures ∙ noted_more a.to a.s l c.loop-i.i (value_of a.from 0) below (sym c.sample_at.ensures) c.loop-i.invariant

pub returns : goal.returns
returns c =
    let a = c.args in
    let l = samples_of a.from a.src.now in
    c.loop-i.invariant ∙ ap (all_noted a.to a.s)
    (take_all c.loop-i.i l
    (omega (arith, length_samples a.from (count_of a.from a.src.now) a.src.now, c.count-i-end.ensures, c.loop-i-test.false)))
