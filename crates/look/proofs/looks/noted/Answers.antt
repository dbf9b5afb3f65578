-- Field by field.
use Rattle.std.proofs.Common.{◌≡◌, Bool, ap, ◌∙◌, rules}
use Rattle.value.specs.Meaning.{bits_of}
use Rattle.value.specs.Outcome.{outcome_of, mapped}
use Rattle.cmp.specs.Compare.{lt_of, gt_of}
use Rattle.sample.specs.Refusals.{bits_to}
use Rattle.sample.proofs.Refusals.{refused_told}
use Rattle.look.specs.Report.{count_if, first_of}
use Rattle.look.proofs.Looking.{noted_is}
use Rattle.look.proofs.looks.noted.Goals as goal
use Rattle.look.proofs.looks.noted.Goals.{After-first_refusal}

bits_told : (c : After-first_refusal) → mapped bits_of (outcome_of c.convert-converted.result) ≡ bits_to c.args.to c.args.v
unfolding bits_to
bits_told c = ap (mapped bits_of) c.convert-converted.ensures

pub returns : goal.returns
returns c =
    let a = c.args in
    noted_is a.to a.s a.v
    c.count_if.ensures
    (c.count_if-2.ensures ∙ ap (λ (t : Bool). count_if t a.s.nans) c.is_nan.ensures)
    (c.count_if-3.ensures ∙ ap (λ (t : Bool). count_if t a.s.infinities) c.is_infinite.ensures)
    (c.count_if-4.ensures ∙ ap (λ (t : Bool). count_if t a.s.minus_zeros) c.is_minus_zero.ensures)
    (c.better.ensures lt_of (λ x y r told. search rules))
    (c.better-2.ensures gt_of (λ x y r told. search rules))
    (c.count_if-5.ensures
    ∙ ap (λ (t : Bool). count_if t a.s.refusable) (c.is_err.ensures.value ∙ refused_told a.to a.v _ c.convert-converted.ensures))
    (c.first_refusal.ensures ∙ ap (first_of a.s.answer a.s.samples) (bits_told c))
