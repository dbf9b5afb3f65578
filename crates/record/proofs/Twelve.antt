-- The twelve places: a record has them, and a count that was tested is at most twelve.
use Prim.Native.Nat.{ℕ, ◌≤◌}
use mathlib.Core.Path.{◌≡◌}
use mathlib.Core.Bool.{false}
use lib.Dec.{eqb, ltb}
use lib.ListN.{length}
use borrow.Author.Tests.{ltb-false}
use Rattle.float.proofs.Tests.{neither}
use Rattle.record.specs.declared.Record.{Record}
use Rattle.record.specs.Record.{bad_count}

-- a record's fields are twelve
abbrev pub Twelve : Record → Type 0
Twelve r = length r.fields ≡ 12

pub good_count : (n : ℕ) → bad_count n ≡ false → n ≤ 12
good_count n h = ltb-false 12 n (neither (eqb n 0) (ltb 12 n) h).1
