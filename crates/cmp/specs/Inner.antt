-- Nothing in this file has to be believed: it says what private functions compute, and no public contract or theorem reaches it.
use Rattle.std.specs.Prelude.{ℕ, [], ◌∷◌}
use Rattle.float.specs.declared.Order.{Order}
use Rattle.value.specs.Outcome.{Outcome, gives}
use Rattle.value.specs.Rules.{chain}
use Rattle.cmp.specs.ByOrder.{other_if_greater, unordered}

-- what is chosen by an order, or 8 with the place
unfoldable pub chosen_by : {A : Type 0} → ℕ → A → A → Order → Outcome A
chosen_by place one other o = chain (unordered place o ∷ []) (gives (other_if_greater one other o))
