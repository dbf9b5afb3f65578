-- The order of byte strings. RULES.md: Keys, Choice between lent rows.
use Rattle.std.specs.Prelude.{ℕ, List, [], ◌∷◌}
use Rattle.float.specs.declared.Order.{Order}
use Rattle.float.specs.declared.Order.TheVariants.{Less, Equal, Greater}
use Rattle.float.specs.Order.{order_n, or_else}

-- byte strings compare at the first differing byte, a proper prefix being lower
unfoldable pub bytes_order : List ℕ → List ℕ → Order
bytes_order [] [] = Equal
bytes_order [] (y ∷ ys) = Less
bytes_order (x ∷ xs) [] = Greater
bytes_order (x ∷ xs) (y ∷ ys) = or_else (order_n x y) (bytes_order xs ys)
