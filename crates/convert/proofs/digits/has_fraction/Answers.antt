-- 0 has no digit set; any other number has one below the place exactly when fewer zeros stand at its end.
use native.Mathlib.Omega.{arith}
use borrow.Author.Rules.{rules}
use Rattle.convert.proofs.Binary.{trailing_fraction}
use Rattle.convert.proofs.digits.has_fraction.Goals as goal

pub returns-then-m-ne0 : goal.returns-then-m-ne0
returns-then-m-ne0 c = trailing_fraction 64 _ _ (omega (arith, c.if-m-ne0.true)) (search rules)
