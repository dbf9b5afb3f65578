-- The comparisons give the orders, or one of them the refusal; that of the bounds can't refuse, as both have v's kind. Each arm knows its orders.
use mathlib.Core.Path.{◌≡◌, refl, ◌∙◌, ap}
use mathlib.Core.Bool.{false, not}
use Rattle.float.specs.declared.Order.{Order}
use Rattle.float.specs.declared.Order.TheVariants.{Less, Equal, Greater, Unordered}
use Rattle.float.specs.Order.{is_less, is_greater, is_unordered}
use Rattle.value.proofs.Outcomes.{passed_on}
use Rattle.choose.proofs.Choice.{clamped_bounds, clamped_nan, clamped_lower, clamped_upper, clamped_self}
use Rattle.choose.proofs.Choice.{clamp_refused_lower, clamp_refused_upper, clamp_never, clamp_clamped}
use Rattle.choose.proofs.choosing.clamp.Goals as goal

-- ---- an order that isn't one of two

ordered : (o : Order) → (o ≡ Unordered → ⊥) → is_unordered o ≡ false
ordered Less u = refl
ordered Equal u = refl
ordered Greater u = refl
ordered Unordered u = absurd (u refl)

not_below : (o : Order) → (o ≡ Less → ⊥) → is_less o ≡ false
not_below Less l = absurd (l refl)
not_below Equal l = refl
not_below Greater l = refl
not_below Unordered l = refl

not_above : (o : Order) → (o ≡ Greater → ⊥) → is_greater o ≡ false
not_above Less g = refl
not_above Equal g = refl
not_above Greater g = absurd (g refl)
not_above Unordered g = refl

-- ---- the refusals passed on

pub returns-in_err-low : goal.returns-in_err-low
returns-in_err-low c = passed_on _ _ c.from_residual.ensures.1 ∙ clamp_refused_lower _ _ _ _ c.in_err-low.ensures

pub returns-in_err-high : goal.returns-in_err-high
returns-in_err-high c =
    passed_on _ _ c.from_residual-in_err-high.ensures.1 ∙ clamp_refused_upper _ _ _ c.in_ok-low.ensures _ c.in_err-high.ensures

pub returns-in_err-in_order : goal.returns-in_err-in_order
returns-in_err-in_order c =
    passed_on _ _ c.from_residual-in_err-in_order.ensures.1
    ∙ clamp_never _ _ _ c.in_ok-low.ensures c.in_ok-high.ensures _ c.in_err-in_order.ensures

-- ---- the arms

pub returns-then-not-in_order : goal.returns-then-not-in_order
returns-then-not-in_order c =
    clamp_clamped _ _ _ c.in_ok-low.ensures c.in_ok-high.ensures c.in_ok-in_order.ensures
    (λ bounds b. clamped_bounds _ _ _ bounds _ _ (ap not (b ∙ c.if-not-in_order.true)))

pub returns-in-Unordered-default : goal.returns-in-Unordered-default
returns-in-Unordered-default c =
    clamp_clamped _ _ _ c.in_ok-low.ensures c.in_ok-high.ensures c.in_ok-in_order.ensures
    (λ bounds b. clamped_nan _ _ _ bounds _ _ (b ∙ c.if-not-in_order.false) (ap is_unordered c.in-Unordered-default.is-0))

pub returns-in-Less-default : goal.returns-in-Less-default
returns-in-Less-default c =
    let low = c.in-Less-default.is-0 in
    clamp_clamped _ _ _ c.in_ok-low.ensures c.in_ok-high.ensures c.in_ok-in_order.ensures
    (λ bounds b. clamped_lower _ _ _ bounds _ _ (b ∙ c.if-not-in_order.false) (ap is_unordered low) (ap is_less low))

pub returns-in_default-Greater : goal.returns-in_default-Greater
returns-in_default-Greater c =
    let arm = c.in_default-Greater in
    clamp_clamped _ _ _ c.in_ok-low.ensures c.in_ok-high.ensures c.in_ok-in_order.ensures
    (λ bounds b. clamped_upper _ _ _ bounds _ _ (b ∙ c.if-not-in_order.false) (ordered _ arm.not-Unordered-0)
    (not_below _ arm.not-Less-0) (ap is_greater arm.is-1))

pub returns-in_default : goal.returns-in_default
returns-in_default c =
    let arm = c.in_default in
    clamp_clamped _ _ _ c.in_ok-low.ensures c.in_ok-high.ensures c.in_ok-in_order.ensures
    (λ bounds b. clamped_self _ _ _ bounds _ _ (b ∙ c.if-not-in_order.false) (ordered _ arm.not-Unordered-0)
    (not_below _ arm.not-Less-0) (not_above _ arm.not-Greater-1))
