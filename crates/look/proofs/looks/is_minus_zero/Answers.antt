-- A float's bits are tested; an integer is none.
use Rattle.std.proofs.Common.{sym, refl, ap, ◌∙◌}
use Rattle.float.specs.Format.{f16, f32, f64}
use Rattle.look.specs.Report.{minus_zero}
use Rattle.look.proofs.ByBits.{minus_zero_told, minus_zero_integer}
use Rattle.look.proofs.looks.is_minus_zero.Goals as goal

pub returns-in-F32 : goal.returns-in-F32
returns-in-F32 c =
    minus_zero_told f32 c.bits_f32.ensures ∙ sym (ap minus_zero c.in-F32.is)

pub returns-in-F64 : goal.returns-in-F64
returns-in-F64 c =
    minus_zero_told f64 c.bits_f64.ensures ∙ sym (ap minus_zero c.in-F64.is)

pub returns-in-F16 : goal.returns-in-F16
returns-in-F16 c = minus_zero_told f16 refl ∙ sym (ap minus_zero c.in-F16.is)

pub returns-in_default : goal.returns-in_default
returns-in_default c = minus_zero_integer c.args.v c.in_default.not-F32 c.in_default.not-F64 c.in_default.not-F16
