-- The keys of the fields so far stand at the start of the buffer, and what stood behind them stands there still.
use Prim.Native.Nat.{◌+◌, ◌≤◌}
use mathlib.Core.Path.{◌≡◌, ◌∙◌, ap}
use native.Mathlib.Omega.{arith}
use lib.ListN.{length, get_or}
use Rattle.value.specs.Kinds.{kind_of, bytes_of}
use Rattle.value.specs.declared.Value.TheVariants.{U8}
use Rattle.key.proofs.WriteSteps.{laid_none, laid_room, laid_step}
use Rattle.key.proofs.NumberBytes.{part_length}
use Rattle.key.proofs.writing.write_fields.Goals as goal
use Rattle.key.proofs.writing.write_fields.Goals.{After-number_of}

width : (c : After-number_of) → c.bytes_of-width.result ≡ bytes_of (kind_of (get_or c.args.fields.now c.loop-field.field-index (record { value = U8 0 })).value)
width c = c.bytes_of-width.ensures.0 ∙ ap bytes_of c.kind_of.ensures

room : (c : After-number_of) → c.loop-field.to + c.bytes_of-width.result ≤ length c.loop-field.buffer
room c =
    laid_room c.args.fields.now c.args.buffer.now c.requires c.loop-field.buffer c.loop-field.to c.loop-field.field-index
    c.loop-field.invariant (record { value = U8 0 }) c.loop-field-test.true (width c)

pub loop-field-init : goal.loop-field-init
loop-field-init c = laid_none c.args.fields.now c.args.buffer.now

pub overflow_add-to : goal.overflow_add-to
overflow_add-to c = let h = room c in record { fits = omega arith }

pub slice_bounds-write_number-end : goal.slice_bounds-write_number-end
slice_bounds-write_number-end c = room c

pub loop-field-preserved : goal.loop-field-preserved
loop-field-preserved c =
    let at = (goal.at.loop-field-preserved c).After-number_of in
    let r = room at in
    laid_step c.args.fields.now c.args.buffer.now c.requires c.loop-field.buffer c.loop-field.to c.loop-field.field-index
    c.loop-field.invariant (record { value = U8 0 }) c.loop-field-test.true (width at) c.number_of.ensures
    (part_length c.loop-field.to c.bytes_of-width.result c.loop-field.buffer r) c.write_number.ensures
