-- The word counts only beside a NaN.
use mathlib.Core.Path.{sym, ◌∙◌}
use lib.Ieee.{binary32}
use Rattle.float.specs.Format.{f32}
use Rattle.value.proofs.FloatBits.{bits_not_nan, bits_nan, word_nan, word_other}
use Rattle.value.proofs.patterns.bits_f32.Goals as goal

pub returns-then-not-is_nan : goal.returns-then-not-is_nan
returns-then-not-is_nan c = bits_not_nan binary32 _ _ (sym c.is_nan.ensures.value ∙ c.if-not-is_nan.true)

pub returns-then-is_nan : goal.returns-then-is_nan
returns-then-is_nan c =
    word_nan f32 _ (sym c.if-is_nan.true ∙ c.is_nan-else-not-is_nan.ensures) ∙ bits_nan binary32 _ _ (sym c.is_nan.ensures.value ∙ c.if-not-is_nan.false)

pub returns-else-is_nan : goal.returns-else-is_nan
returns-else-is_nan c =
    word_other f32 _ (sym c.if-is_nan.false ∙ c.is_nan-else-not-is_nan.ensures) ∙ bits_nan binary32 _ _ (sym c.is_nan.ensures.value ∙ c.if-not-is_nan.false)
