-- The value of the bits that the sample's bytes make, or of none behind the last.
use mathlib.Core.Path.{◌≡◌, ◌∙◌, ap}
use Prim.Native.Nat.{ℕ, ◌+◌, ◌-◌, ◌*◌}
use native.Mathlib.Omega.{arith}
use lib.ListN.{take, drop}
use Rattle.value.specs.Meaning.{value_of}
use Rattle.bytewise.specs.Numbers.{from_little_endian}
use Rattle.sample.proofs.Samplings.{at_here, at_behind}
use Rattle.sample.proofs.samples.sample_at.Goals as goal

pub returns-then-i-count : goal.returns-then-i-count
returns-then-i-count c =
    let a = c.args in
    c.value_of.ensures ∙ at_behind a.k a.src.now a.i (rw (← c.count.ensures) (omega arith))

pub returns : goal.returns
returns c =
    let a = c.args in
    let width = c.bytes_of-width.result in
    let whole : (a.i * width + width) - a.i * width ≡ width = omega arith in
    c.value_of-2.ensures
    ∙ ap (value_of a.k)
    (c.load.ensures
    ∙ ap (λ (w : ℕ). from_little_endian (take w (drop (a.i * width) a.src.now))) whole
    ∙ ap (λ (w : ℕ). from_little_endian (take w (drop (a.i * w) a.src.now))) c.bytes_of-width.ensures.0)
    ∙ at_here a.k a.src.now a.i (rw (← c.count.ensures) (omega arith))
