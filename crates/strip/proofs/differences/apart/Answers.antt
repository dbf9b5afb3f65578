-- The difference of two positions that are counted from the lowest is the distance.
use Rattle.std.proofs.Common.{◌∙◌}
use Rattle.strip.proofs.Apart.{samples_apart, gap_is}
use Rattle.strip.proofs.differences.apart.Goals as goal

pub returns : goal.returns
returns c =
    rw (c.abs_diff.ensures, c.shifted.ensures, c.shifted-2.ensures)
    (gap_is _ _ ∙ samples_apart c.args.a c.args.b c.ranges.a.fits c.ranges.b.fits)
