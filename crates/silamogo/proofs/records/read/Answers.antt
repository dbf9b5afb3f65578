-- What was read has as many fields as the row of bits has places.
use Rattle.silamogo.proofs.Reading.{read_room}
use Rattle.silamogo.proofs.records.read.Goals as goal

pub put_bits-requires : goal.put_bits-requires
put_bits-requires c =
    read_room c.args.kinds.now _ c.check_kinds.ensures c.in_ok-check_kinds.was c.args.key.now c.shape_for.ensures c.read-x.ensures c.in_ok-x.was
