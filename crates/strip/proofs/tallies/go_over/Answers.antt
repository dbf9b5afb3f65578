-- Each count goes on by the sample that was read, and fits; each place goes on by the sample's place.
use Rattle.std.specs.Int.{from_bool}
use Rattle.std.proofs.Common.{◌≡◌, ℕ, ◌+◌, ◌<◌, ◌≤◌, Bool, List, length, [], get_or, arith, w32, Fits, rules}
use lib.Signed.{lt_z}
use Rattle.float.specs.Format.{zero_of, subnormal_of, normal_of, infinite_of, nan_of}
use Rattle.bytewise.specs.Numbers.{from_little_endian}
use Rattle.strip.specs.Sheet.{most}
use Rattle.strip.specs.Inner.{all_bits, top_end, bottom_end, gt_z}
use Rattle.strip.proofs.Counting.{among, none_among, next_among, few_among, length_bits}
use Rattle.strip.proofs.Farthest.{so_far_start, lowest_next, highest_next}
use Rattle.strip.proofs.Tallying.{tally_is}
use Rattle.strip.proofs.tallies.go_over.Goals as goal

pub loop-sample-init : goal.loop-sample-init
loop-sample-init c =
    let s = c.args.samples.now in (
      none_among (zero_of 23 8) s,
      none_among (subnormal_of 23 8) s,
      none_among (normal_of 23 8) s,
      none_among (infinite_of 23 8) s,
      none_among (nan_of 23 8) s,
      so_far_start lt_z top_end _ s,
      so_far_start gt_z bottom_end _ s,
    )

next_fits : (test : ℕ → Bool) (samples : List (List ℕ)) (i : ℕ) {m b k : ℕ} {t : Bool} → i < length samples → length samples ≤ most
    → m ≡ among test samples i → b ≡ from_little_endian (get_or samples i []) → t ≡ test b → k ≡ from_bool t → Fits w32 (m + k)
next_fits test samples i turn few counted read tested one =
    let here : i < length (all_bits samples) = omega (arith, length_bits samples) in
    let sum = next_among test samples i here counted read tested one in
    let within = few_among test samples (i + 1) (omega (arith, here)) sum in
    record { fits = omega (arith, within, turn, few) }

pub overflow_add-zero : goal.overflow_add-zero
overflow_add-zero c =
    next_fits (zero_of 23 8) c.args.samples.now c.loop-sample.sample-index c.loop-sample-test.true c.requires
    c.loop-sample.invariant.0 c.bits_of-bits.ensures c.is_zero.ensures c.from-zero.ensures

pub overflow_add-subnormal : goal.overflow_add-subnormal
overflow_add-subnormal c =
    next_fits (subnormal_of 23 8) c.args.samples.now c.loop-sample.sample-index c.loop-sample-test.true c.requires
    c.loop-sample.invariant.1 c.bits_of-bits.ensures c.is_subnormal.ensures c.from-subnormal.ensures

pub overflow_add-normal : goal.overflow_add-normal
overflow_add-normal c =
    next_fits (normal_of 23 8) c.args.samples.now c.loop-sample.sample-index c.loop-sample-test.true c.requires
    c.loop-sample.invariant.2 c.bits_of-bits.ensures c.is_normal.ensures c.from-normal.ensures

pub overflow_add-infinite : goal.overflow_add-infinite
overflow_add-infinite c =
    next_fits (infinite_of 23 8) c.args.samples.now c.loop-sample.sample-index c.loop-sample-test.true c.requires
    c.loop-sample.invariant.3 c.bits_of-bits.ensures c.is_infinite.ensures c.from-infinite.ensures

pub overflow_add-nan : goal.overflow_add-nan
overflow_add-nan c =
    next_fits (nan_of 23 8) c.args.samples.now c.loop-sample.sample-index c.loop-sample-test.true c.requires
    c.loop-sample.invariant.4 c.bits_of-bits.ensures c.is_nan.ensures c.from-nan.ensures

pub loop-sample-preserved : goal.loop-sample-preserved
loop-sample-preserved c =
    let s = c.args.samples.now in
    let i = c.loop-sample.sample-index in
    let inv = c.loop-sample.invariant in
    let here : i < length (all_bits s) = omega (arith, length_bits s, c.loop-sample-test.true) in
    let word = c.bits_of-bits.ensures in (
      next_among (zero_of 23 8) s i here inv.0 word c.is_zero.ensures c.from-zero.ensures,
      next_among (subnormal_of 23 8) s i here inv.1 word c.is_subnormal.ensures c.from-subnormal.ensures,
      next_among (normal_of 23 8) s i here inv.2 word c.is_normal.ensures c.from-normal.ensures,
      next_among (infinite_of 23 8) s i here inv.3 word c.is_infinite.ensures c.from-infinite.ensures,
      next_among (nan_of 23 8) s i here inv.4 word c.is_nan.ensures c.from-nan.ensures,
      lowest_next _ s here word (search rules) (search rules) inv.5 c.place_of.ensures c.min-low.ensures.value,
      highest_next _ s here word (search rules) (search rules) inv.6 c.place_of-in-loop-sample.ensures c.max-high.ensures.value,
    )

pub returns : goal.returns
returns c =
    let s = c.args.samples.now in
    let inv = c.loop-sample.invariant in
    tally_is s c.args.lowest c.args.highest c.ranges.lowest c.ranges.highest (omega (arith, length_bits s, c.loop-sample-test.false))
    inv.0 inv.1 inv.2 inv.3 inv.4 inv.5 inv.6
