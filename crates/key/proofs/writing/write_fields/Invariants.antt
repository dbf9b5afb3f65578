-- The keys of the fields so far stand at the start of the buffer, and what stood behind them stands there still.
use Rattle.key.proofs.WriteSteps.{Laid}
use Rattle.key.proofs.writing.write_fields.Given as goal

abbrev pub invariant-loop-field : goal.invariant-loop-field
invariant-loop-field l = Laid l.fields l.initial.buffer l.buffer l.to l.field-index
