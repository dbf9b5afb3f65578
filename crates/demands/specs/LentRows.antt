-- The choice between two lent rows of bytes, and the order of byte strings that it goes by. RULES.md: Choice between lent rows.
use Rattle.std.specs.Prelude.{ℕ, ◌≤◌, ◌<◌, ◌≡◌, List, ◌∷◌, ◌++◌, length, take, get_or}
use Rattle.std.specs.Borrow.{Bor}
use Rattle.float.specs.declared.Order.{Order}
use Rattle.float.specs.declared.Order.TheVariants.{Less}
use Rattle.float.specs.Order.{order_n}
use Rattle.value.specs.Outcome.{gives}
use Rattle.bytewise.specs.Order.{bytes_order}
use Rattle.bytewise.specs.Prefix.{min_row, max_row}
use Rattle.laws_cmp.specs.Laws.{LinearOrder}
use Rattle.demands.specs.Choosing.{Chooses}

-- the order of the keys of two rows: "the key of a row is its first k bytes, or all of it when shorter"
abbrev pub keys_order : ℕ → Bor (List ℕ) → Bor (List ℕ) → Order
keys_order k a b = bytes_order (take k a.now) (take k b.now)

-- of every two rows
pub record LentRows : Type 0 where
  -- byte strings are in a linear order, and Equal only when they are the same
  pub order : LinearOrder (λ k l. gives (bytes_order k l)) (λ k l. Unit) (λ k l. k ≡ l)
  -- "byte strings compare at the first differing byte, a proper prefix being lower"
  pub first_byte : (i : ℕ) (k l : List ℕ) → i < length k → i < length l → take i k ≡ take i l → (get_or k i 0 ≡ get_or l i 0 → ⊥)
      → bytes_order k l ≡ order_n (get_or k i 0) (get_or l i 0)
  pub prefix_lower : (k : List ℕ) (x : ℕ) (l : List ℕ) → bytes_order k (k ++ (x ∷ l)) ≡ Less
  -- "The answer is the winning lent row itself, whole, rest included; on equal keys max gives the second and min the first"
  pub chooses : (k : ℕ) → Chooses (λ a b. gives (keys_order k a b)) (λ a b. gives (min_row k a b)) (λ a b. gives (max_row k a b))
  -- "k = 0 is a tie"
  pub none_tie : (a b : Bor (List ℕ)) → (min_row 0 a b ≡ a) × (max_row 0 a b ≡ b)
  -- the key of a row that is shorter than k is all of it
  pub whole_key : (k : ℕ) (row : List ℕ) → length row ≤ k → take k row ≡ row
