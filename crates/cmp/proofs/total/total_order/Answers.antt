-- Two floats of one kind lie as their positions do; what is left lies as it compares: two integers, or two kinds.
use mathlib.Core.Path.{refl, ◌∙◌, ap}
use Rattle.float.specs.Format.{position_of}
use Rattle.cmp.proofs.Answers.{both_refused, total_given, total_integers, order_at_lem}
use Rattle.cmp.proofs.total.total_order.Goals as goal
use Rattle.cmp.proofs.total.total_order.Goals.{in_default-via-in-F32+in_default, in_default-via-in-F64+in_default, in_default-via-in-F16+in_default}
use Rattle.cmp.proofs.total.total_order.Goals.{in_default-via-in_default}

pub returns-in-F32-F32 : goal.returns-in-F32-F32
returns-in-F32-F32 c =
    total_given c.in-F32-F32.is-0 c.in-F32-F32.is-1 refl
    (order_at_lem c.by_position.ensures (ap (position_of 23 8) c.bits_f32.ensures) (ap (position_of 23 8) c.bits_f32-in-F32-F32.ensures))

pub returns-in-F64-F64 : goal.returns-in-F64-F64
returns-in-F64-F64 c =
    total_given c.in-F64-F64.is-0 c.in-F64-F64.is-1 refl
    (order_at_lem c.by_position-in-F64-F64.ensures (ap (position_of 52 11) c.bits_f64.ensures) (ap (position_of 52 11) c.bits_f64-in-F64-F64.ensures))

pub returns-in-F16-F16 : goal.returns-in-F16-F16
returns-in-F16-F16 c = total_given c.in-F16-F16.is-0 c.in-F16-F16.is-1 refl c.by_position-in-F16-F16.ensures

pub returns-in_default : goal.returns-in_default
returns-in_default c =
    c.compare.ensures
    ∙ elim c.in_default.branch [
      | in_default-via-in-F32+in_default w ↦ both_refused _ w.in_default.is-0 w.in_default.not-F32-1
      | in_default-via-in-F64+in_default w ↦ both_refused _ w.in_default.is-0 w.in_default.not-F64-1
      | in_default-via-in-F16+in_default w ↦ both_refused _ w.in_default.is-0 w.in_default.not-F16-1
      | in_default-via-in_default w ↦ total_integers _ _ w.in_default.not-F32-0 w.in_default.not-F64-0 w.in_default.not-F16-0
    ]
