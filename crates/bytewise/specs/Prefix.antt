-- The choice between two lent rows of bytes by their first k bytes. RULES.md: Choice between lent rows.
use Rattle.std.specs.Prelude.{ℕ, cond, List, take}
use Rattle.std.specs.Borrow.{Bor}
use Rattle.float.specs.Order.{is_less}
use Rattle.bytewise.specs.Order.{bytes_order}

-- the lent row itself, whole: min gives the second when its key is lower, else the first; max gives the first then, else the second
abbrev pub min_row : ℕ → Bor (List ℕ) → Bor (List ℕ) → Bor (List ℕ)
min_row k a b = cond (is_less (bytes_order (take k b.now) (take k a.now))) b a

abbrev pub max_row : ℕ → Bor (List ℕ) → Bor (List ℕ) → Bor (List ℕ)
max_row k a b = cond (is_less (bytes_order (take k b.now) (take k a.now))) a b
