-- The weights of the value's own kind make the number of its key from its bits; what a program holds has no more bits than its kind.
use mathlib.Core.Path.{◌∙◌}
use Rattle.value.proofs.Ranges.{value_held}
use Rattle.key.proofs.KeyNumbers.{value_room, value_number}
use Rattle.key.proofs.numbers.number_of.Goals as goal

pub number-requires : goal.number-requires
number-requires c = value_room c.args.v c.kind_of.ensures c.bits_of.ensures c.of.ensures (value_held c.args.v _ c.well_formed.0)

pub returns : goal.returns
returns c =
    c.number.ensures ∙ value_number c.args.v c.kind_of.ensures c.bits_of.ensures c.of.ensures (value_held c.args.v _ c.well_formed.0)
