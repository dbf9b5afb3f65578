-- Each arm knows its case; a narrow signed number is read back from its bits at the wider type.
use mathlib.Core.Path.{refl, sym, ◌∙◌, ap}
use Rattle.float.specs.Format.{f16, f32, f64}
use Rattle.float.specs.Number.{times}
use Rattle.value.specs.Meaning.{step_of, exact_of}
use Rattle.convert.proofs.Taken.{taken_pattern}
use Rattle.convert.proofs.sources.parts_of.Goals as goal

pub returns-in-F32 : goal.returns-in-F32
unfolding step_of
returns-in-F32 c =
    c.float_parts.ensures
    ∙ ap (times (step_of f32))
    (taken_pattern f32 c.bits_f32-b.ensures c.is_sign_negative.ensures c.abs.ensures)
    ∙ sym (ap exact_of c.in-F32.is)

pub returns-in-F64 : goal.returns-in-F64
unfolding step_of
returns-in-F64 c =
    c.float_parts-in-F64.ensures
    ∙ ap (times (step_of f64))
    (taken_pattern f64 c.bits_f64-b.ensures c.is_sign_negative-in-F64.ensures c.abs-in-F64.ensures)
    ∙ sym (ap exact_of c.in-F64.is)

pub returns-in-F16 : goal.returns-in-F16
unfolding step_of
returns-in-F16 c =
    c.float_parts-in-F16.ensures
    ∙ ap (times (step_of f16)) (taken_pattern f16 {b = c.in-F16.b} refl c.is_sign_negative-in-F16.ensures c.abs-in-F16.ensures)
    ∙ sym (ap exact_of c.in-F16.is)
