-- A NaN is told by its bits.
use mathlib.Core.Path.{◌∙◌}
use Rattle.key.proofs.KeyNumbers.{value_none}
use Rattle.key.proofs.writing.is_nan.Goals as goal

pub returns : goal.returns
returns c = c.is_nan.ensures ∙ value_none c.args.v c.kind_of.ensures c.bits_of.ensures c.of.ensures
