-- The rows, and the samples behind them.
use Rattle.std.proofs.Common.{◌≡◌, ℕ, ◌+◌, ◌*◌, ◌/◌, ◌%◌, refl, subst, arith}
use Rattle.sample.specs.Samples.{numbers_in}
use Rattle.sample.proofs.Samplings.{length_numbers}
use Rattle.block.proofs.Samplings.{Filled, fill_none, fill_end}
use Rattle.block.proofs.Pieces.{fill_numbers}
use Rattle.block.proofs.rows.by_rows.Goals as goal

pub loop-r-init : goal.loop-r-init
loop-r-init g c =
    let f : ℕ → ℕ = λ b. g.P.To.Sample.bits (g.P.Pair.moved (g.P.From.Sample.of_bits b)) in
    fill_none g.P.To.Sample.kind f (numbers_in g.P.From.Sample.WIDTH c.args.n c.args.src.now) c.args.dst.now 0

pub loop-r-preserved : goal.loop-r-preserved
loop-r-preserved g c =
    let a = c.args in
    let k = g.P.To.Sample.kind in
    let f : ℕ → ℕ = λ b. g.P.To.Sample.bits (g.P.Pair.moved (g.P.From.Sample.of_bits b)) in
    let r = c.loop-r.r in
    fill_numbers k f g.P.From.Sample.WIDTH a.n a.src.now a.dst.now (16 * r) 16 (16 * (r + 1)) (omega arith) (omega (arith, c.loop-r-test.true))
    g.met.P.To.Sample.of_kind c.loop-r.dst c.loop-r.invariant refl c.one_row.ensures

pub returns : goal.returns
returns g c =
    let a = c.args in
    let k = g.P.To.Sample.kind in
    let f : ℕ → ℕ = λ b. g.P.To.Sample.bits (g.P.Pair.moved (g.P.From.Sample.of_bits b)) in
    let w = g.P.From.Sample.WIDTH in
    let ended : c.loop-r.r ≡ a.n / 16 = omega (arith, c.loop-r-test.false, c.loop-r.auto.r-end) in
    let begun = subst (λ (r : ℕ). Filled k f (numbers_in w a.n a.src.now) a.dst.now 0 c.loop-r.dst (16 * r)) ended c.loop-r.invariant in
    let whole : 16 * (a.n / 16) + a.n % 16 ≡ a.n = omega arith in
    let all = fill_numbers k f w a.n a.src.now a.dst.now (16 * (a.n / 16)) (a.n % 16) a.n whole (omega arith) g.met.P.To.Sample.of_kind c.loop-r.dst
    begun refl c.one_row-2.ensures in
    fill_end k f (numbers_in w a.n a.src.now) a.dst.now 0 c.one_row-2.new.dst a.n (omega (arith, length_numbers w a.n a.src.now)) all
