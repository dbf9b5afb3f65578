-- A NaN's pattern is made the one NaN; any other pattern is its float's own.
use Rattle.std.proofs.Common.{sym, ◌∙◌, rules}
use lib.Ieee.{binary32}
use Rattle.value.proofs.FloatBits.{from_bits, quiet_made}
use Rattle.block.proofs.layouts.float_of.Goals as goal

pub float_from_bits-result : goal.float_from_bits-result
float_from_bits-result c = from_bits binary32 _ (search rules) (sym c.if-is_nan.false ∙ c.is_nan.ensures)

pub returns-then-is_nan : goal.returns-then-is_nan
returns-then-is_nan c = quiet_made binary32 _ (search rules) (sym c.if-is_nan.true ∙ c.is_nan.ensures)
