-- The table's rule at the place that is read.
use Prim.Native.Nat.{◌%◌, ◌<◌}
use native.Mathlib.Omega.{arith}
use borrow.Author.Rules.{rules}
use Rattle.half.proofs.Entries.{entries, over_at}
use Rattle.half.proofs.small_f32.Goals as goal

pub returns : goal.returns
unfolding entries
returns c = let h : c.args.m % 1024 < 1024 = omega arith in over_at (c.args.m % 1024) h
