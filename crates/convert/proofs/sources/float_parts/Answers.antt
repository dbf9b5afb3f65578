-- By abs: a NaN, an infinity, a number without an exponent field or with one.
use mathlib.Core.Path.{◌≡◌}
use Prim.Native.Nat.{ℕ, ◌*◌, ◌+◌, ◌^◌, ◌≤◌}
use Rattle.convert.proofs.Taken.{taken_low, taken_high}
use Rattle.convert.proofs.sources.float_parts.Goals as goal
use Rattle.convert.proofs.sources.float_parts.Goals.{After-hidden-hidden}

-- below the infinity's abs
module _ (c : After-hidden-hidden) where
  abbrev top : ℕ
  top = (c.args.format.last + 2) * 2 ^ c.args.format.fraction

  at_most : c.args.a ≤ top
  at_most = rw c.infinity-inf.ensures at c.if-a-inf.false

  other : c.args.a ≡ top → ⊥
  other = rw c.infinity-inf.ensures at c.if-a-inf-2.false

pub returns-then-field-eq0 : goal.returns-then-field-eq0
returns-then-field-eq0 c =
    let a = c.args in
    let h = (goal.at.returns-then-field-eq0 c).After-hidden-hidden in
    rw c.hidden-hidden.ensures
    (taken_low a.format.fraction (top h) a.negative a.a a.format.step (at_most h) (other h) (rw c.hidden-hidden.ensures at c.if-field-eq0.true))

pub returns-else-field-eq0 : goal.returns-else-field-eq0
returns-else-field-eq0 c =
    let a = c.args in
    let h = (goal.at.returns-else-field-eq0 c).After-hidden-hidden in
    rw c.hidden-hidden.ensures
    (taken_high a.format.fraction (top h) a.negative a.a a.format.step (at_most h) (other h) (rw c.hidden-hidden.ensures at c.if-field-eq0.false))
