-- A block behind what was told before it: its samples are taken, gone over once, and the record has what was found.
use Rattle.std.specs.Prelude.{Option}
use Rattle.std.proofs.Common.{◌≡◌, ℕ, ◌+◌, ◌≤◌, List, length, take_all, ℤ, w32, SFits, to_z, of_z}
use lib.Signed.{lt_z}
use mir.ValLaws.{to_z-of_z}
use Rattle.float.specs.Format.{zero_of, subnormal_of, normal_of, infinite_of, nan_of}
use Rattle.sample.specs.Samples.{counted}
use Rattle.strip.specs.declared.Sheet.{Sheet}
use Rattle.strip.specs.declared.tallies.Tally.{Tally}
use Rattle.strip.specs.Sheet.{is_before, is_behind, extreme_of, taken_in, tail_of, sheet_after}
use Rattle.strip.specs.Inner.{all_bits, top_end, bottom_end, gt_z, tally_of}
use Rattle.strip.proofs.Counting.{among, length_bits}
use Rattle.strip.proofs.Farthest.{SoFar}

-- the counts of all samples and their farthest places, together
pub tally_is : (samples : List (List ℕ)) (start stop : ℤ) → SFits w32 start → SFits w32 stop → {i z s m f q : ℕ} {low high : ℤ} → length (all_bits samples) ≤ i
    → z ≡ among (zero_of 23 8) samples i → s ≡ among (subnormal_of 23 8) samples i → m ≡ among (normal_of 23 8) samples i
    → f ≡ among (infinite_of 23 8) samples i → q ≡ among (nan_of 23 8) samples i
    → SoFar lt_z top_end (to_z w32 (of_z w32 start)) samples low i → SoFar gt_z bottom_end (to_z w32 (of_z w32 stop)) samples high i
    → record { zero = z; subnormal = s; normal = m; infinite = f; nan = q; low = low; high = high } ≡ tally_of start stop (all_bits samples)
unfolding tally_of
tally_is samples start stop g k {i} all zeros subnormals normals infinites nans lowest highest =
    rw (zeros, subnormals, normals, infinites, nans, lowest, highest, to_z-of_z w32 start g, to_z-of_z w32 stop k, take_all i (all_bits samples) all)

pub tallied : (s : Sheet) (src : List ℕ) (samples : List (List ℕ)) (low high : ℤ) {z b m f q t : ℕ} {c : Tally} {l h : Option ℕ}
    → all_bits samples ≡ taken_in s.samples src → c ≡ tally_of low high (all_bits samples)
    → z ≡ counted (s.zero + c.zero) → b ≡ counted (s.subnormal + c.subnormal) → m ≡ counted (s.normal + c.normal)
    → f ≡ counted (s.infinite + c.infinite) → q ≡ counted (s.nan + c.nan)
    → l ≡ extreme_of is_before s.lowest (all_bits samples) → h ≡ extreme_of is_behind s.highest (all_bits samples)
    → t ≡ tail_of (s.samples + length samples) src
    → record { samples = s.samples + length samples; zero = z; subnormal = b; normal = m; infinite = f; nan = q; lowest = l; highest = h; tail = t }
    ≡ sheet_after s src
unfolding sheet_after tally_of
tallied s src samples low high taken counts zeros subnormals normals infinites nans lowest highest tail =
    rw (zeros, subnormals, normals, infinites, nans, lowest, highest, tail, counts, ← length_bits samples, taken)
