-- Bytes laid down behind bytes are all of them laid down at once.
use mathlib.Core.Path.{◌≡◌, refl}
use mathlib.Core.List.{List, [], ◌∷◌, ◌++◌}
use Prim.Native.Nat.{ℕ, suc, ◌+◌}
use native.Mathlib.Nat.{suc-add, add-suc, add-zero}
use lib.ListN.{length, set}
use lib.Seq.{sets}

pub sets_append : (a b l : List ℕ) (i : ℕ) → sets (sets l i a) (i + length a) b ≡ sets l i (a ++ b)
sets_append [] b l i = rw (add-zero i) refl
sets_append (x ∷ a) b l i = rw (add-suc i (length a), ← suc-add i (length a)) (sets_append a b (set l i x) (suc i))
