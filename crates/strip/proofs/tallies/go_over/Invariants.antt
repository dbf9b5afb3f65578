-- Each count is that of its class among the first samples, which are fewer than 2^32, and each place is the farthest of these.
use Rattle.std.proofs.Common.{◌≡◌}
use lib.Signed.{lt_z}
use Rattle.float.specs.Format.{zero_of, subnormal_of, normal_of, infinite_of, nan_of}
use Rattle.strip.specs.Inner.{top_end, bottom_end, gt_z}
use Rattle.strip.proofs.Counting.{among}
use Rattle.strip.proofs.Farthest.{SoFar}
use Rattle.strip.proofs.tallies.go_over.Given as goal

abbrev pub invariant-loop-sample : goal.invariant-loop-sample
invariant-loop-sample l =
    (l.zero ≡ among (zero_of 23 8) l.samples l.sample-index)
    × (l.subnormal ≡ among (subnormal_of 23 8) l.samples l.sample-index)
    × (l.normal ≡ among (normal_of 23 8) l.samples l.sample-index)
    × (l.infinite ≡ among (infinite_of 23 8) l.samples l.sample-index)
    × (l.nan ≡ among (nan_of 23 8) l.samples l.sample-index)
    × SoFar lt_z top_end l.lowest l.samples l.low l.sample-index
    × SoFar gt_z bottom_end l.highest l.samples l.high l.sample-index
