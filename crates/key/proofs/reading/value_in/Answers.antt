-- The bits of the number by the weights of the kind, and whether they are those of a key.
use Rattle.key.proofs.KeyNumbers.{no_value, some_value}
use Rattle.key.proofs.reading.value_in.Goals as goal

pub returns-then-is_foreign : goal.returns-then-is_foreign
returns-then-is_foreign c =
    no_value c.args.k c.of-weights.ensures c.read_number.ensures.0 c.bits-bits.ensures c.is_foreign.ensures c.if-is_foreign.true

pub returns-else-is_foreign : goal.returns-else-is_foreign
returns-else-is_foreign c =
    some_value c.args.k c.of-weights.ensures c.read_number.ensures.0 c.bits-bits.ensures c.is_foreign.ensures c.if-is_foreign.false c.value_of.ensures
