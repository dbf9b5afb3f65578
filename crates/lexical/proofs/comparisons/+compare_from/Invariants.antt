-- The number of fields left falls.
use Rattle.lexical.proofs.comparisons.+compare_from.Given as goal

abbrev pub decreases-compare_from : goal.decreases-compare_from
decreases-compare_from l = l.left
