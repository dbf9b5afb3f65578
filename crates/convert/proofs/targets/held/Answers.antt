-- The digits that are dropped are counted first; then the rest of the division and, at the highest exponent, the leading digits decide.
use mathlib.Core.Path.{◌≡◌, sym, ◌∙◌, ap}
use mathlib.Core.Bool.{true, false}
use mathlib.Core.Logic.{inr}
use Prim.Native.Nat.{ℕ, suc, ◌+◌, ◌-◌, ◌*◌, ◌/◌, ◌%◌, ◌^◌, ◌≤◌, ◌<◌}
use native.Mathlib.Nat.{mod-eq_of_lt}
use native.Mathlib.Omega.{arith}
use borrow.Author.Tests.{not-true, not-false, eqb-true, eqb-false}
use lib.Ieee.{size}
use Rattle.value.specs.Outcome.{gives}
use Rattle.convert.proofs.Holds.{kept_small, held_is, held_none, held_over, held_zero, dropped_is, low_refused, all_ones, ones_left, field_small, digits_few}
use Rattle.convert.proofs.targets.held.Goals as goal
use Rattle.convert.specs.Inner.{found, magnitude}
use Rattle.convert.proofs.targets.held.Goals.{After-over-ratio, After-saturating_sub-k}
use Rattle.convert.proofs.targets.held.Goals.{else-k-format-2-via-then-k-format-2+else-ratio-format, else-k-format-2-via-else-k-format-2}

positive : (c : After-saturating_sub-k) → 0 < c.args.n.digits
positive c = omega (arith, c.if-n-eq0.false)

k_is : (c : After-saturating_sub-k) → c.saturating_sub-k.result ≡ size (magnitude c.args.n) - suc c.args.format.fraction - c.args.format.step
k_is c =
    let a = c.args in
    dropped_is a.format.fraction a.format.step a.n.digits a.n.shift c.size_of.result c.saturating_sub-k.result (positive c) c.size_of.ensures.0
    c.saturating_sub-k.ensures

few : (c : After-saturating_sub-k) → magnitude c.args.n / 2 ^ (c.saturating_sub-k.result + c.args.format.step) < 2 ^ suc c.args.format.fraction
few c = let a = c.args in kept_small a.format.fraction a.format.step (magnitude c.args.n) c.saturating_sub-k.result (k_is c)

pub returns-then-n-eq0 : goal.returns-then-n-eq0
returns-then-n-eq0 c = let a = c.args in held_zero a.format.fraction a.format.step a.format.last a.n.negative a.n.digits a.n.shift c.if-n-eq0.true

pub over-ratio-requires : goal.over-ratio-requires
over-ratio-requires c =
    let f : magnitude c.args.n / 2 ^ (c.saturating_sub-k.result + c.args.format.step) < 2 ^ 53 =
    digits_few c.args.format.fraction _ c.args.format.narrow (few ((goal.at.over-ratio-requires c).After-saturating_sub-k)) in
    (positive ((goal.at.over-ratio-requires c).After-saturating_sub-k), omega arith)

near : (c : After-over-ratio) → c.saturating_sub-k.result ≤ c.args.format.last
near c = omega arith

rest_left : (c : After-over-ratio) → c.over-ratio.result.rest ≡ true → magnitude c.args.n % 2 ^ (c.saturating_sub-k.result + c.args.format.step) ≡ 0 → ⊥
rest_left c t = eqb-false _ _ (not-true _ (sym c.over-ratio.ensures.1 ∙ t))

nothing_left : (c : After-over-ratio) → c.over-ratio.result.rest ≡ false → magnitude c.args.n % 2 ^ (c.saturating_sub-k.result + c.args.format.step) ≡ 0
nothing_left c t = eqb-true _ _ (not-false _ (sym c.over-ratio.ensures.1 ∙ t))

ones : (c : After-over-ratio) → 2 * 2 ^ c.args.format.fraction % 2 ^ 64 ≡ 2 ^ suc c.args.format.fraction
ones c = all_ones c.args.format.fraction c.args.format.narrow

pub overflow_sub-format : goal.overflow_sub-format
overflow_sub-format c = ones_left _ c.args.format.fraction (omega arith) (omega arith) c.args.format.narrow

pub returns-then-ratio-format : goal.returns-then-ratio-format
returns-then-ratio-format c =
    let j = (goal.at.returns-then-ratio-format c).After-saturating_sub-k in
    let a = c.args in
    held_over a.format.fraction a.format.step (magnitude c.args.n) c.saturating_sub-k.result (k_is j) a.format.last a.n.negative (omega arith)
    (rest_left ((goal.at.returns-then-ratio-format c).After-over-ratio) c.if-ratio.true)
    (sym c.over-ratio.ensures.0 ∙ c.if-ratio-format.true ∙ ap (λ (x : ℕ). x - 1) (ones ((goal.at.returns-then-ratio-format c).After-over-ratio)))

pub returns-then-ratio : goal.returns-then-ratio
returns-then-ratio c =
    let j = (goal.at.returns-then-ratio c).After-saturating_sub-k in
    let r = (goal.at.returns-then-ratio c).After-over-ratio in
    let a = c.args in
    elim c.else-k-format-2.branch [
      | else-k-format-2-via-then-k-format-2+else-ratio-format w ↦
          let d : magnitude a.n / 2 ^ (c.saturating_sub-k.result + a.format.step) ≡ 2 ^ suc a.format.fraction - 1 → ⊥ =
          λ e. w.if-ratio-format.false (c.over-ratio.ensures.0 ∙ e ∙ sym (ap (λ (x : ℕ). x - 1) (ones r))) in
          held_none a.format.fraction a.format.step (magnitude a.n) c.saturating_sub-k.result (k_is j) a.format.last a.n.negative (near r)
          (rest_left r c.if-ratio.true) (inr (let f = few j in omega arith))
      | else-k-format-2-via-else-k-format-2 w ↦
          low_refused a.format.fraction a.format.step a.format.last a.n.negative a.n.digits a.n.shift _ _ _ c.over-ratio.ensures.1 c.if-ratio.true
          (near r) w.if-k-format-2.false c.size_of.ensures.0 c.if-n-eq0.false c.saturating_sub-k.ensures
    ]

field : (c : After-over-ratio) → c.saturating_sub-k.result * 2 ^ c.args.format.fraction ≤ 2047 * 2 ^ 52
field c = field_small c.saturating_sub-k.result c.args.format.fraction c.args.format.last (near c) (omega (arith, c.args.format.low)) c.args.format.narrow

pub overflow_add-result : goal.overflow_add-result
overflow_add-result c =
    let j = (goal.at.overflow_add-result c).After-saturating_sub-k in
    let d : magnitude c.args.n / 2 ^ (c.saturating_sub-k.result + c.args.format.step) < 2 ^ 53 =
    digits_few c.args.format.fraction _ c.args.format.narrow (few j) in
    let f = field ((goal.at.overflow_add-result c).After-over-ratio) in
    record { fits = omega (arith, c.over-ratio.ensures.0) }

pub returns : goal.returns
returns c =
    let j = (goal.at.returns c).After-saturating_sub-k in
    let a = c.args in
    let f = field ((goal.at.returns c).After-over-ratio) in
    let m : c.saturating_sub-k.result * 2 ^ a.format.fraction % 2 ^ 64 ≡ c.saturating_sub-k.result * 2 ^ a.format.fraction = mod-eq_of_lt (omega arith) in
    ap (λ (n : ℕ). gives (found a.n.negative (n + c.over-ratio.result.quotient))) m
    ∙ ap (λ (n : ℕ). gives (found a.n.negative (c.saturating_sub-k.result * 2 ^ a.format.fraction + n))) c.over-ratio.ensures.0
    ∙ held_is a.format.fraction a.format.step (magnitude c.args.n) c.saturating_sub-k.result (k_is j) a.format.last a.n.negative
    (near ((goal.at.returns c).After-over-ratio)) (nothing_left ((goal.at.returns c).After-over-ratio) c.if-ratio.false)
