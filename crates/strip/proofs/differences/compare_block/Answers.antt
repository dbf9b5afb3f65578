-- The places that both blocks have are gone over, and what was seen goes on by what they have.
use Rattle.std.proofs.Common.{refl, rules}
use Rattle.strip.proofs.Compared.{found_or, all_same, some_differ}
use Rattle.strip.proofs.differences.compare_block.Goals as goal

pub returns-then-different-eq0 : goal.returns-then-different-eq0
returns-then-different-eq0 c =
    let a = c.args in
    all_same a.s a.left.now a.right.now c.taken-l.result.now c.taken-r.result.now c.taken-l.ensures.samples c.taken-r.ensures.samples
    c.count_different-different.ensures c.if-different-eq0.true (search rules)

pub returns : goal.returns
returns c =
    let a = c.args in
    some_differ a.s a.left.now a.right.now c.taken-l.result.now c.taken-r.result.now c.taken-l.ensures.samples c.taken-r.ensures.samples
    c.count_different-different.ensures refl (found_or a.s.first (λ p. search rules) c.or_else.ensures) (search rules)
