-- The bytes taken so far, from the high one down, make the number.
use Rattle.std.proofs.Common.{◌≡◌, ◌<◌, ◌^◌, arith, rules}
use Rattle.sample.proofs.Gathering.{gather_none, gather_more, gather_room, gather_end}
use Rattle.sample.proofs.bytes.load.Goals as goal
use Rattle.sample.proofs.bytes.load.Goals.{In-Some}

pub loop-x-init : goal.loop-x-init
loop-x-init c =
    let e : c.into_iter-x-iterator.result.iter.rest.now ≡ c.args.bytes.now = search rules in
    (tt, tt, rw e (gather_none c.args.bytes.now))

room : (c : In-Some) → c.loop-x.n < 256 ^ 7
room c = gather_room _ c.loop-x.invariant.2 _ _ c.in-Some.ensures.steps c.requires

pub overflow_mul-n : goal.overflow_mul-n
overflow_mul-n c = let r = room c in record { fits = omega arith }

pub overflow_add-n : goal.overflow_add-n
overflow_add-n c = let r = room ((goal.at.overflow_add-n c).In-Some) in record { fits = omega arith }

pub loop-x-preserved : goal.loop-x-preserved
loop-x-preserved c = (tt, tt, gather_more _ c.loop-x.invariant.2 c.in-Some.ensures.steps (omega arith))

pub returns : goal.returns
returns c = gather_end _ c.loop-x.invariant.2 c.in-None.ensures.steps.0
