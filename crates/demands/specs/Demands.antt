-- The three demands, as one claim. RULES.md: What a contract has to say.
use Rattle.demands.specs.Demand1.{Demand1}
use Rattle.demands.specs.Boundary.{AtTheBoundary}
use Rattle.demands.specs.Blocks.{OfBlocks}
use Rattle.demands.specs.Demand2.{Demand2}
use Rattle.demands.specs.Demand3.{Demand3}
use Rattle.demands.specs.BoundaryKeys.{BoundaryKeys}
use Rattle.demands.specs.Determined.{Determined}
use Rattle.demands.specs.Marked.{marked, AllAnswered}

-- what is proved of Silamogo as a whole
pub record Demands : Type 1 where
  pub first : Demand1
  pub first_at_the_boundary : AtTheBoundary
  pub first_of_blocks : OfBlocks
  pub second : Demand2
  pub third : Demand3
  pub third_at_the_boundary : BoundaryKeys
  -- the contracts that give these definitions leave no two answers
  pub determined : Determined
  -- the marked cases have the answers that they owe
  pub marked_cases : AllAnswered marked
