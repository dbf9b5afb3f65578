-- A NaN's pattern goes beside the one NaN there is; any other pattern is its float's own.
use mathlib.Core.Path.{sym, ◌∙◌}
use borrow.Author.Rules.{rules}
use lib.Ieee.{binary64}
use Rattle.float.specs.Format.{f64}
use Rattle.value.proofs.FloatBits.{from_bits, quiet_made, word_beside}
use Rattle.value.proofs.patterns.f64_value.Goals as goal

pub float_from_bits-result : goal.float_from_bits-result
float_from_bits-result c = from_bits binary64 _ (search rules) (sym c.if-is_nan.false ∙ c.is_nan.ensures)

pub returns-then-is_nan : goal.returns-then-is_nan
returns-then-is_nan c =
    let h = sym c.if-is_nan.true ∙ c.is_nan.ensures in
    cc (quiet_made binary64 _ (search rules) h, word_beside f64 _ h)
