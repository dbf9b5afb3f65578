-- Nothing in this file has to be believed: it says what private functions compute, and no public contract or theorem reaches it.
use Rattle.std.specs.Prelude.{[], ◌∷◌}
use Rattle.float.specs.declared.Order.{Order}
use Rattle.value.specs.Outcome.{Outcome, gives}
use Rattle.value.specs.Rules.{chain}
use Rattle.cmp.specs.ByOrder.{unordered}
use Rattle.choose.specs.Choose.{bad_bounds, between}

-- the clamp by the orders of the bounds, of x and lower, and of x and upper
unfoldable pub clamped_by : {A : Type 0} → Order → Order → Order → A → A → A → Outcome A
clamped_by bounds low high x lower upper = chain (bad_bounds bounds ∷ unordered 0 low ∷ []) (gives (between low high x lower upper))
