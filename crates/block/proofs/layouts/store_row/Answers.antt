-- Each turn lays one more sample down.
use Rattle.std.proofs.Common.{◌≡◌, ◌+◌, ◌*◌, sym, ◌∙◌, mul_comm, ap, ℕ}
use Rattle.value.specs.Kinds.{bytes_of}
use Rattle.block.proofs.Samplings.{fill_none, fill_step, fill_end}
use Rattle.block.proofs.Pairs.{fails_here}
use Rattle.block.proofs.layouts.store_row.Goals as goal

pub loop-i-init : goal.loop-i-init
loop-i-init g c = fill_none g.T.Sample.kind g.T.Sample.bits c.args.row.now c.args.dst.now c.args.at

pub bits-requires : goal.bits-requires
bits-requires g c =
    let x = c.index-row-i.result in
    ap g.T.Sample.is_none c.index-row-i.is ∙ fails_here g.T.Sample.is_none c.args.row.now c.loop-i.i x c.requires.0 c.loop-i-test.true

pub loop-i-preserved : goal.loop-i-preserved
loop-i-preserved g c =
    let a = c.args in
    let i = c.loop-i.i in
    let width : c.WIDTH.result ≡ bytes_of g.T.Sample.kind = c.WIDTH.ensures ∙ g.met.T.Sample.of_kind in
    let place : a.at + c.WIDTH.result * i ≡ a.at + i * bytes_of g.T.Sample.kind =
    ap (λ (w : ℕ). a.at + w * i) width ∙ ap (λ (m : ℕ). a.at + m) (mul_comm (bytes_of g.T.Sample.kind) i) in
    fill_step g.T.Sample.kind g.T.Sample.bits a.row.now a.dst.now a.at i c.index-row-i.result c.loop-i-test.true (sym c.index-row-i.is) c.bits.ensures
    c.loop-i.dst (a.at + c.WIDTH.result * i) c.WIDTH-in-loop-i.result place (c.WIDTH-in-loop-i.ensures ∙ g.met.T.Sample.of_kind)
    c.loop-i.invariant c.store.ensures

pub returns : goal.returns
returns g c =
    let a = c.args in
    fill_end g.T.Sample.kind g.T.Sample.bits a.row.now a.dst.now a.at c.loop-i.dst c.loop-i.i c.loop-i-test.false c.loop-i.invariant
