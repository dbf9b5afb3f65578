-- All blocks are told as one, so a sheet tells the whole as one block behind a blank sheet. No count wraps, for none is above `most`.
use Rattle.std.proofs.Common.{◌≡◌, ℕ, ◌+◌, ◌*◌, ◌/◌, ◌%◌, ◌<◌, ◌≤◌, min, Bool, List, length, refl, mod-lt, mod-eq_of_lt, zero-add, arith, lit<, le-leb}
use native.Mathlib.Nat.{div-add-mod}
use borrow.Author.Tests.{lt-leb}
use Rattle.float.specs.Format.{zero_of, subnormal_of, normal_of, infinite_of, nan_of}
use Rattle.row.specs.Row.{how_many}
use Rattle.row.proofs.HowMany.{many_few}
use Rattle.sample.specs.Samples.{counted, joined}
use Rattle.sample.proofs.Samplings.{length_numbers}
use Rattle.strip.specs.Sheet.{most, tail_of, sheet_after}
use Rattle.strip.specs.SheetTheorem.{blank, strip_of, SheetTells, SheetsTell}
use Rattle.strip.proofs.Extremes.{lowest_of, highest_of}
use Rattle.strip.proofs.Blocks.{sheet_of_joined}
use Rattle.strip.proofs.Classes.{class_sum}

module _ (bytes : List ℕ) where
  abbrev samples : ℕ
  samples = length (strip_of bytes)

  abbrev tail : ℕ
  tail = tail_of samples bytes

  -- whole samples, and no more than can be told
  told : samples ≡ min (length bytes / 4) most
  told = length_numbers 4 (min (length bytes / 4) most) bytes

  whole : 4 * (length bytes / 4) + length bytes % 4 ≡ length bytes
  whole = div-add-mod (length bytes) 4

  rest : length bytes % 4 < 4
  rest = mod-lt (length bytes) (lit< tt)

  every_byte : length bytes < 4 * most → (4 * samples + tail ≡ length bytes) × (tail < 4)
  every_byte h =
      let few : samples < most = omega (arith, told, whole) in
      rw (lt-leb most samples few) (omega (arith, told, whole), rest)

  no_byte : 4 * most ≤ length bytes → (samples ≡ most) × (tail ≡ 0)
  no_byte h =
      let all : samples ≡ most = omega (arith, told, whole, rest) in
      (all, rw (le-leb most samples (omega arith)) refl)

  none_wraps : (test : ℕ → Bool) → counted (0 + how_many test (strip_of bytes)) ≡ how_many test (strip_of bytes)
  none_wraps test = rw (zero-add (how_many test (strip_of bytes))) (mod-eq_of_lt (omega (arith, told, many_few test (strip_of bytes))))

  sheet_tells : SheetTells bytes (sheet_after blank bytes)
  unfolding sheet_after
  sheet_tells =
      rw (
        zero-add samples,
        none_wraps (zero_of 23 8),
        none_wraps (subnormal_of 23 8),
        none_wraps (normal_of 23 8),
        none_wraps (infinite_of 23 8),
        none_wraps (nan_of 23 8),
      )
      (record {
        samples = refl;
        zero = refl;
        subnormal = refl;
        normal = refl;
        infinite = refl;
        nan = refl;
        sum = class_sum (strip_of bytes);
        lowest = lowest_of (strip_of bytes);
        highest = highest_of (strip_of bytes);
        all_told = every_byte;
        no_more = no_byte;
      })

pub sheets_tell : SheetsTell
sheets_tell bs parts = rw (sheet_of_joined bs parts) (sheet_tells (joined bs))
