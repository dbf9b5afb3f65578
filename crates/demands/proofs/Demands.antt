-- The three demands hold.
use Rattle.demands.specs.Demands.{Demands}
use Rattle.demands.proofs.Demand1.{demand_1}
use Rattle.demands.proofs.Boundary.{at_the_boundary}
use Rattle.demands.proofs.Blocks.{of_blocks}
use Rattle.demands.proofs.Demand2.{demand_2}
use Rattle.demands.proofs.Demand3.{demand_3}
use Rattle.demands.proofs.BoundaryKeys.{boundary_keys}
use Rattle.demands.proofs.Determined.{determined}
use Rattle.demands.proofs.Marked.{all_answered}

pub the_demands : Demands
the_demands = record {
  first = demand_1;
  first_at_the_boundary = at_the_boundary;
  first_of_blocks = of_blocks;
  second = demand_2;
  third = demand_3;
  third_at_the_boundary = boundary_keys;
  determined = determined;
  marked_cases = all_answered;
}
