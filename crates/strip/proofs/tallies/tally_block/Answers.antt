-- The samples that are taken are gone over once, from what was found before.
use Rattle.std.proofs.Common.{refl, ap, w32, SFits, rules}
use Rattle.strip.specs.declared.tallies.Tally.{Tally}
use Rattle.strip.specs.Inner.{all_bits, tally_of}
use Rattle.strip.proofs.Farthest.{top_end_lem, bottom_end_lem, found_from}
use Rattle.strip.proofs.Tallying.{tallied}
use Rattle.strip.proofs.tallies.tally_block.Goals as goal
use Rattle.strip.proofs.tallies.tally_block.Goals.{After-go_over-c}

low_fits : (c : After-go_over-c) → SFits w32 c.go_over-c.result.low
low_fits c = search rules

high_fits : (c : After-go_over-c) → SFits w32 c.go_over-c.result.high
high_fits c = search rules

pub returns : goal.returns
unfolding tally_of
returns c =
    let a = c.args in
    let bs = all_bits c.taken-told.result.now in
    let all = c.go_over-c.ensures in
    tallied a.s a.src.now c.taken-told.result.now _ _ c.taken-told.ensures.samples all refl refl refl refl refl
    (found_from top_end_lem a.s.lowest bs c.start_at.ensures (search rules) (low_fits ((goal.at.returns c).After-go_over-c))
    (ap (λ (t : Tally). t.low) all) c.found_at.ensures)
    (found_from bottom_end_lem a.s.highest bs c.start_at-2.ensures (search rules) (high_fits ((goal.at.returns c).After-go_over-c))
    (ap (λ (t : Tally). t.high) all) c.found_at-2.ensures) c.left_over.ensures
