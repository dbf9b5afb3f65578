-- Up to i no sample is refused.
use Rattle.std.proofs.Common.{◌≡◌, ◌<◌, length, sym, ap, ◌∙◌, arith}
use Rattle.value.specs.Meaning.{value_of}
use Rattle.value.specs.Outcome.{refusal_of}
use Rattle.row.proofs.Scan.{reach_step, reach_stop, reach_end, reach_start}
use Rattle.sample.specs.Samples.{count_of, samples_of, sample_at}
use Rattle.sample.specs.Refusals.{bits_to, is_refused, refusal_number, refused_to}
use Rattle.sample.proofs.Samplings.{length_samples}
use Rattle.block.proofs.Blocks.{refused_here, given_here, sample_bad, samples_good}
use Rattle.block.proofs.passes.check_samples.Goals as goal
use Rattle.block.proofs.passes.check_samples.Goals.{In-loop-i}

below : (c : In-loop-i) → (let a = c.args in c.loop-i.i < length (samples_of a.from a.src.now))
below c =
    let a = c.args in
    omega (arith, length_samples a.from (count_of a.from a.src.now) a.src.now, c.count-n.ensures, c.loop-i-test.true)

pub returns-in-Err : goal.returns-in-Err
returns-in-Err c =
    let a = c.args in
    let s = samples_of a.from a.src.now in
    let told : bits_to a.to (sample_at a.from a.src.now c.loop-i.i) ≡ refusal_of c.in-Err.f =
    ap (bits_to a.to) (sym c.sample_at.ensures) ∙ refused_here a.to c.sample_at.result c.convert.ensures c.in-Err.is in
    let at = reach_stop (refused_to a.to) 0 s c.loop-i.i (value_of a.from 0) (below ((goal.at.returns-in-Err c).In-loop-i)) c.loop-i.invariant
    (ap is_refused told) ∙ reach_start (refused_to a.to) s in
    sample_bad a.from a.to a.src.now at (omega (arith, c.count-n.ensures, c.loop-i-test.true)) (sym (ap refusal_number told))

pub loop-i-preserved : goal.loop-i-preserved
loop-i-preserved c =
    let a = c.args in
    let given = given_here a.to c.sample_at.result c.convert.ensures c.in_default.is in
    reach_step (refused_to a.to) 0 (samples_of a.from a.src.now) c.loop-i.i (value_of a.from 0) (below ((goal.at.loop-i-preserved c).In-loop-i))
    c.loop-i.invariant (ap (refused_to a.to) (sym c.sample_at.ensures) ∙ ap is_refused given)

pub returns : goal.returns
returns c =
    let a = c.args in
    let s = samples_of a.from a.src.now in
    let at = reach_end (refused_to a.to) 0 s c.loop-i.i
    (omega (arith, length_samples a.from (count_of a.from a.src.now) a.src.now, c.count-n.ensures, c.loop-i-test.false)) c.loop-i.invariant
    ∙ reach_start (refused_to a.to) s in
    samples_good a.from a.to a.src.now at (omega (arith, c.count-n.ensures, c.loop-i-test.false))
