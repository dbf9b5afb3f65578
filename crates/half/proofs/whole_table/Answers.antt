-- The rule of every entry.
use mathlib.Core.Path.{refl}
use Rattle.half.specs.Small.{Small}
use Rattle.half.proofs.Entries.{entries, over_at}
use Rattle.half.proofs.whole_table.Goals as goal

pub returns : goal.returns
unfolding entries Small
returns c = (refl, over_at)
