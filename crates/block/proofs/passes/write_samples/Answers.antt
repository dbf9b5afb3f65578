-- The first conversions are laid down.
use Rattle.std.proofs.Common.{◌≡◌, ◌+◌, ◌*◌, ◌<◌, length, sym, zero-add, arith}
use Rattle.value.specs.Meaning.{value_of}
use Rattle.value.specs.Kinds.{bytes_of}
use Rattle.sample.specs.Samples.{count_of, samples_of}
use Rattle.sample.proofs.Samplings.{length_samples}
use Rattle.block.specs.Inner.{moved_bits}
use Rattle.block.proofs.Samplings.{fill_none, fill_step, fill_end}
use Rattle.block.proofs.passes.write_samples.Goals as goal

pub loop-at-init : goal.loop-at-init
loop-at-init c = let a = c.args in fill_none a.to (moved_bits a.to) (samples_of a.from a.src.now) a.dst.now 0

pub loop-at-preserved : goal.loop-at-preserved
loop-at-preserved c =
    let a = c.args in
    let s = samples_of a.from a.src.now in
    let i = c.loop-at.at in
    let below : i < length s = omega (arith, length_samples a.from (count_of a.from a.src.now) a.src.now, c.count-n.ensures, c.loop-at-test.true) in
    let place : i * c.bytes_of-width.result ≡ 0 + i * bytes_of a.to = rw (c.bytes_of-width.ensures.0) (sym (zero-add (i * bytes_of a.to))) in
    fill_step a.to (moved_bits a.to) s a.dst.now 0 i (value_of a.from 0) below (sym c.sample_at.ensures) c.bits_to.ensures c.loop-at.dst
    (i * c.bytes_of-width.result) c.bytes_of-width.result place c.bytes_of-width.ensures.0 c.loop-at.invariant c.store.ensures

pub returns : goal.returns
returns c =
    let a = c.args in
    let s = samples_of a.from a.src.now in
    fill_end a.to (moved_bits a.to) s a.dst.now 0 c.loop-at.dst c.loop-at.at
    (omega (arith, length_samples a.from (count_of a.from a.src.now) a.src.now, c.count-n.ensures, c.loop-at-test.false)) c.loop-at.invariant
