-- Demand 2: classes, comparison, total order, conversion, records and choosing are what the rules say. RULES.md: Bits and classes to Records.
use Rattle.float.specs.Format.{Format}
use Rattle.demands.specs.Floats.{Floats, Values}
use Rattle.demands.specs.Conversion.{Conversion}
use Rattle.demands.specs.WhichRefusal.{WhichRefusal, TowardsF16}
use Rattle.demands.specs.Choosing.{Records, Choosing}
use Rattle.demands.specs.Rows.{Rows}
use Rattle.demands.specs.DefaultRange.{DefaultRange}
use Rattle.demands.specs.LentRows.{LentRows}

-- the demand, sentence by sentence
pub record Demand2 : Type 1 where
  pub floats : (f : Format) → Floats f
  pub values : Values
  pub conversion : Conversion
  pub which_refusal : WhichRefusal
  pub towards_f16 : TowardsF16
  pub records : Records
  pub choosing : Choosing
  pub rows : Rows
  pub default_range_lem : DefaultRange
  pub lent_rows : LentRows
