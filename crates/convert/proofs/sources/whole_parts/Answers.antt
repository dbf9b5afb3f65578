-- The unit is 2^1074.
use mathlib.Core.Path.{refl}
use Rattle.value.specs.Meaning.{unit}
use Rattle.convert.proofs.sources.whole_parts.Goals as goal

pub returns : goal.returns
unfolding unit
returns c = refl
