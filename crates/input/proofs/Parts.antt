-- The front of a buffer.
use Prim.Native.Nat.{ℕ, ◌≤◌}
use native.Mathlib.Nat.{min-le_left}
use mathlib.Core.List.{List}
use mathlib.Core.Path.{sym, subst}
use lib.ListN.{length, take, length-take}

pub part_length : (i : ℕ) (l : List ℕ) → length (take i l) ≤ i
part_length i l = subst (λ (n : ℕ). n ≤ i) (sym (length-take i l)) (min-le_left i (length l))
