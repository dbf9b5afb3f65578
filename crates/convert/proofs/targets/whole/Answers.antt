-- Of a zero the sign decides. By the number of digits the quotient is known to fit or to be too large, and one that is too large has no fraction.
use mathlib.Core.Path.{◌≡◌, sym, ◌∙◌, ap, subst}
use mathlib.Core.Bool.{not, cond}
use Prim.Native.Nat.{ℕ, ◌*◌, ◌/◌, ◌%◌, ◌^◌, ◌≤◌, ◌<◌}
use native.Mathlib.Nat.{mul-pos}
use native.Mathlib.Omega.{arith}
use lib.Dec.{eqb}
use lib.Pow.{pow_pos}
use Rattle.value.specs.Meaning.{unit}
use Rattle.value.specs.Outcome.{gives}
use Rattle.convert.proofs.Wholes.{quotient_large, quotient_fits, whole_large}
use Rattle.convert.proofs.Wholes.{whole_fraction, whole_outside, whole_inside}
use Rattle.convert.specs.Inner.{found}
use Rattle.convert.proofs.targets.whole.Goals as goal
use Rattle.convert.proofs.targets.whole.Goals.{After-over-ratio, Else-n-eq0, Joined-n-2, then-n-2, else-n-2}

some_digit : (c : Else-n-eq0) → 0 < c.args.n.digits
some_digit c = omega (arith, c.if-n-eq0.false)

some : (c : Else-n-eq0) → let a = c.args in 0 < a.n.digits * 2 ^ a.n.shift
some c = mul-pos (some_digit c) (pow_pos c.args.n.shift)

pub returns-then-size_of-n-gt1138 : goal.returns-then-size_of-n-gt1138
unfolding unit
returns-then-size_of-n-gt1138 c =
    let q = quotient_large c.args.n.digits c.args.n.shift 1074 (some_digit ((goal.at.returns-then-size_of-n-gt1138 c).Else-n-eq0))
    (omega (arith, c.size_of.ensures))
    (omega (arith, c.if-size_of-n-gt1138.true, c.size_of.ensures.0)) in
    whole_large c.args.low c.args.high c.args.n.negative (c.args.n.digits * 2 ^ c.args.n.shift)
    (some ((goal.at.returns-then-size_of-n-gt1138 c).Else-n-eq0)) c.ranges.low.fits c.ranges.high.fits
    q.0 q.1

pub over-ratio-requires : goal.over-ratio-requires
over-ratio-requires c =
    let z = some_digit ((goal.at.over-ratio-requires c).Else-n-eq0) in
    (z, quotient_fits c.args.n.digits c.args.n.shift 1074 z 64 (omega (arith, c.if-size_of-n-gt1138.false, c.size_of.ensures.0)))

fraction_is : (c : After-over-ratio) → let a = c.args in c.over-ratio.result.rest ≡ not (eqb (a.n.digits * 2 ^ a.n.shift % unit) 0)
unfolding unit
fraction_is c = c.over-ratio.ensures.1

quotient_is : (c : After-over-ratio) → let a = c.args in c.over-ratio.result.quotient ≡ a.n.digits * 2 ^ a.n.shift / unit
unfolding unit
quotient_is c = c.over-ratio.ensures.0

pub returns-then-ratio : goal.returns-then-ratio
returns-then-ratio c =
    let a = c.args in
    whole_fraction a.low a.high a.n.negative (a.n.digits * 2 ^ a.n.shift) (some ((goal.at.returns-then-ratio c).Else-n-eq0))
    (sym (fraction_is ((goal.at.returns-then-ratio c).After-over-ratio))
    ∙ c.if-ratio.true)

limit_is : (c : Joined-n-2) → let a = c.args in c.if-n-2.limit ≡ cond a.n.negative a.low a.high
limit_is c =
    elim c.if-n-2.branch [
      | then-n-2 w ↦ w.limit-is ∙ sym (rw w.if-n-2.true)
      | else-n-2 w ↦ w.limit-is ∙ sym (rw w.if-n-2.false)
    ]

pub returns-then-ratio-limit : goal.returns-then-ratio-limit
returns-then-ratio-limit c =
    let a = c.args in
    let l : cond a.n.negative a.low a.high < a.n.digits * 2 ^ a.n.shift / unit =
    subst (λ (n : ℕ). cond a.n.negative a.low a.high < n) (quotient_is ((goal.at.returns-then-ratio-limit c).After-over-ratio))
    (subst (λ (n : ℕ). n < c.over-ratio.result.quotient) (limit_is ((goal.at.returns-then-ratio-limit c).Joined-n-2)) c.if-ratio-limit.true) in
    whole_outside a.low a.high a.n.negative (a.n.digits * 2 ^ a.n.shift) (some ((goal.at.returns-then-ratio-limit c).Else-n-eq0))
    (sym (fraction_is ((goal.at.returns-then-ratio-limit c).After-over-ratio))
    ∙ c.if-ratio.false) l

pub returns : goal.returns
returns c =
    let a = c.args in
    let l : a.n.digits * 2 ^ a.n.shift / unit ≤ cond a.n.negative a.low a.high =
    subst (λ (n : ℕ). n ≤ cond a.n.negative a.low a.high) (quotient_is ((goal.at.returns c).After-over-ratio))
    (subst (λ (n : ℕ). c.over-ratio.result.quotient ≤ n) (limit_is ((goal.at.returns c).Joined-n-2)) c.if-ratio-limit.false) in
    ap (λ (n : ℕ). gives (found a.n.negative n)) (quotient_is ((goal.at.returns c).After-over-ratio))
    ∙ whole_inside a.low a.high a.n.negative (a.n.digits * 2 ^ a.n.shift) (some ((goal.at.returns c).Else-n-eq0))
    (sym (fraction_is ((goal.at.returns c).After-over-ratio)) ∙ c.if-ratio.false) l
