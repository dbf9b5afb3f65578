-- Demand 2, from its sentences.
use Rattle.demands.specs.Demand2.{Demand2}
use Rattle.demands.proofs.Floats.{of_format, of_values}
use Rattle.demands.proofs.Conversion.{of_conversion}
use Rattle.demands.proofs.WhichRefusal.{which_refusal, towards_f16}
use Rattle.demands.proofs.Choosing.{of_records, of_choosing}
use Rattle.demands.proofs.Rows.{of_rows}
use Rattle.demands.proofs.DefaultRange.{of_default_range}
use Rattle.demands.proofs.LentRows.{of_lent_rows}

pub demand_2 : Demand2
demand_2 = record {
  floats = of_format;
  values = of_values;
  conversion = of_conversion;
  which_refusal = which_refusal;
  towards_f16 = towards_f16;
  records = of_records;
  choosing = of_choosing;
  rows = of_rows;
  default_range_lem = of_default_range;
  lent_rows = of_lent_rows;
}
