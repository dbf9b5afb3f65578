-- A float's bits tell it; an integer is none.
use Rattle.std.proofs.Common.{sym, refl, ap, ◌∙◌}
use Rattle.float.specs.Format.{f16, f32, f64}
use Rattle.look.specs.Report.{infinite}
use Rattle.look.proofs.ByBits.{infinite_float}
use Rattle.look.proofs.looks.is_infinite.Goals as goal

pub returns-in-F32 : goal.returns-in-F32
returns-in-F32 c =
    c.is_infinite.ensures ∙ infinite_float f32 c.bits_f32.ensures ∙ sym (ap infinite c.in-F32.is)

pub returns-in-F64 : goal.returns-in-F64
returns-in-F64 c =
    c.is_infinite-in-F64.ensures ∙ infinite_float f64 c.bits_f64.ensures ∙ sym (ap infinite c.in-F64.is)

pub returns-in-F16 : goal.returns-in-F16
returns-in-F16 c = c.is_infinite-in-F16.ensures ∙ infinite_float f16 refl ∙ sym (ap infinite c.in-F16.is)
