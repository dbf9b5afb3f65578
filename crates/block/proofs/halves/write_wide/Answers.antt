-- Each turn lays one more pattern down.
use Rattle.std.proofs.Common.{◌≡◌, ◌*◌, ◌/◌, ◌<◌, length, get_or, sym, refl, ◌∙◌, arith}
use Rattle.float.specs.Format.{f16, nan_in}
use Rattle.value.specs.declared.Kind.TheVariants as kind
use Rattle.sample.specs.Samples.{numbers_in}
use Rattle.sample.proofs.Samplings.{length_numbers, number_here}
use Rattle.block.specs.Inner.{half_bits}
use Rattle.block.proofs.Samplings.{fill_none, fill_step, fill_end}
use Rattle.block.proofs.Pieces.{place_of}
use Rattle.block.proofs.Pairs.{fails_here}
use Rattle.block.proofs.halves.write_wide.Goals as goal
use Rattle.block.proofs.halves.write_wide.Goals.{After-at, In-loop-i}

pub loop-i-init : goal.loop-i-init
loop-i-init c = let a = c.args in fill_none kind.F32 half_bits (numbers_in 2 (length a.src.now / 2) a.src.now) a.dst.now 0

sample : (c : After-at) → (let a = c.args in get_or (numbers_in 2 (length a.src.now / 2) a.src.now) c.loop-i.i 0 ≡ c.at.result)
sample c = number_here 2 (length c.args.src.now / 2) c.args.src.now c.loop-i.i 0 c.loop-i-test.true ∙ sym c.at.ensures

below : (c : In-loop-i) → (let a = c.args in c.loop-i.i < length (numbers_in 2 (length a.src.now / 2) a.src.now))
below c = let a = c.args in omega (arith, length_numbers 2 (length a.src.now / 2) a.src.now, c.loop-i-test.true)

pub wide_bits-wide-requires : goal.wide_bits-wide-requires
wide_bits-wide-requires c =
    let a = c.args in (
      c.requires.0,
      rw (← sample c)
          (fails_here (nan_in f16) (numbers_in 2 (length a.src.now / 2) a.src.now) c.loop-i.i 0 c.requires.1
          (below ((goal.at.wide_bits-wide-requires c).In-loop-i))),
    )

pub loop-i-preserved : goal.loop-i-preserved
loop-i-preserved c =
    let a = c.args in
    fill_step kind.F32 half_bits (numbers_in 2 (length a.src.now / 2) a.src.now) a.dst.now 0 c.loop-i.i 0
    (below ((goal.at.loop-i-preserved c).In-loop-i)) (sample ((goal.at.loop-i-preserved c).After-at))
    (c.from.ensures ∙ c.wide_bits-wide.ensures) c.loop-i.dst (4 * c.loop-i.i) 4 (place_of c.loop-i.i 4) refl c.loop-i.invariant c.store.ensures

pub returns : goal.returns
returns c =
    let a = c.args in
    fill_end kind.F32 half_bits (numbers_in 2 (length a.src.now / 2) a.src.now) a.dst.now 0 c.loop-i.dst c.loop-i.i
    (omega (arith, length_numbers 2 (length a.src.now / 2) a.src.now, c.loop-i-test.false)) c.loop-i.invariant
