-- The difference is what the trait says of `-`.
use borrow.Author.Rules.{rules}
use Rattle.float.proofs.Magnitude.{abs_reached}
use Rattle.float.proofs.bits.abs.Goals as goal

pub returns-else-lt : goal.returns-else-lt
returns-else-lt g c = abs_reached _ _ _ _ (g.met.P.Pattern.subtracted _ _ _ c.sub.ensures) (search rules) (search rules)
