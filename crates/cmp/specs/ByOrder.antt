-- What an order decides between two: which of them is chosen, and refusal 8. RULES.md: Choosing and clamping, Refusals.
use Rattle.std.specs.Prelude.{ℕ, cond}
use Rattle.float.specs.declared.Order.{Order}
use Rattle.float.specs.Order.{is_greater, is_unordered}
use Rattle.value.specs.Rules.{Rule, rule}

-- 8, with its place, for an order that is Unordered
abbrev pub unordered : ℕ → Order → Rule
unordered place o = rule 8 place (is_unordered o)

-- the other one when the order is Greater, else the first
abbrev pub other_if_greater : {A : Type 0} → A → A → Order → A
other_if_greater one other o = cond (is_greater o) other one
