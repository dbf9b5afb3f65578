-- Each arm knows the order.
use mathlib.Core.Path.{◌≡◌, refl}
use mathlib.Core.Bool.{true, not, ◌||◌}
use Rattle.float.specs.Order.{is_greater, is_unordered}
use Rattle.float.specs.declared.Order.{Order}
use Rattle.float.specs.declared.Order.TheVariants.{Less, Equal, Greater, Unordered}
use Rattle.cmp.proofs.ByOrder.{chosen_unordered, chosen_greater, chosen_other}
use Rattle.choose.proofs.choosing.chosen.Goals as goal

first_stays : (o : Order) → (o ≡ Unordered → ⊥) → (o ≡ Greater → ⊥) → not (is_greater o || is_unordered o) ≡ true
first_stays Less u g = refl
first_stays Equal u g = refl
first_stays Greater u g = absurd (g refl)
first_stays Unordered u g = absurd (u refl)

pub returns-in-Unordered : goal.returns-in-Unordered
returns-in-Unordered c = chosen_unordered 0 _ _ _ c.in-Unordered.is

pub returns-in-Greater : goal.returns-in-Greater
returns-in-Greater c = chosen_greater 0 _ _ _ c.in-Greater.is

pub returns-in_default : goal.returns-in_default
returns-in_default c = chosen_other 0 _ _ _ (first_stays _ c.in_default.not-Unordered c.in_default.not-Greater)
