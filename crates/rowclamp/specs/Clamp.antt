-- The clamp of a row in place. RULES.md: Choosing and clamping.
use Rattle.std.specs.Prelude.{List, Float}
use Rattle.value.specs.Outcome.{Outcome, Success, lent_after}
use Rattle.value.specs.Rules.{chain}
use Rattle.choose.specs.Choose.{bounds_rules, sample_of}
use Rattle.choose.specs.declared.Range.{Range}
use Rattle.row.specs.Row.{row_answer, row_results}

-- bounds out of order are 6; then the first sample that is refused decides
unfoldable pub clamp_answer : Range → List Float → Outcome Success
clamp_answer range row = chain (bounds_rules range.lower range.upper) (row_answer (sample_of range) 0 row)

-- the row at the end
unfoldable pub clamp_exit : Range → List Float → List Float
clamp_exit range row = lent_after (λ d. row_results (sample_of range) row) (clamp_answer range row) row
