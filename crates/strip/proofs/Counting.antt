-- How many of the first samples pass a test: each turn counts one or none, and there are never more than samples.
use Rattle.std.specs.Int.{from_bool}
use Rattle.std.proofs.Common.{◌≡◌, ℕ, ◌+◌, ◌<◌, ◌≤◌, Bool, true, false, cond, List, ◌++◌, [], ◌∷◌, take, length, get_or, refl, add-one, arith, length-take-le}
use Rattle.std.proofs.Math.Seq.{take-suc}
use Rattle.row.specs.Row.{how_many}
use Rattle.row.proofs.HowMany.{many_few, many_last}
use Rattle.bytewise.specs.Numbers.{from_little_endian}
use lib.ListN.{get_or-map, length-map}
use Rattle.strip.specs.Inner.{all_bits}

pub length_bits : (samples : List (List ℕ)) → length (all_bits samples) ≡ length samples
length_bits samples = length-map samples from_little_endian

-- the bits of one sample more
pub bits_last : (samples : List (List ℕ)) (i : ℕ) → i < length (all_bits samples)
    → take (i + 1) (all_bits samples) ≡ take i (all_bits samples) ++ (from_little_endian (get_or samples i []) ∷ [])
bits_last samples i h = rw (add-one i, take-suc (all_bits samples) i (from_little_endian []) h, get_or-map from_little_endian samples i []) refl

one_of : (t : Bool) → from_bool t ≡ cond t 1 0
one_of true = refl
one_of false = refl

module _ (test : ℕ → Bool) (samples : List (List ℕ)) where
  -- how many of the first i
  abbrev pub among : ℕ → ℕ
  among i = how_many test (take i (all_bits samples))

  pub none_among : 0 ≡ among 0
  unfolding how_many
  none_among = refl

  -- a turn: the sample at i is tested, and one or none is counted
  pub next_among : (i : ℕ) → i < length (all_bits samples) → {m b k : ℕ} {t : Bool} → m ≡ among i → b ≡ from_little_endian (get_or samples i []) → t ≡ test b
      → k ≡ from_bool t → m + k ≡ among (i + 1)
  next_among i h counted read tested one = rw (counted, one, tested, read, bits_last samples i h, many_last, one_of) refl

  pub few_among : (i : ℕ) {m : ℕ} → i ≤ length (all_bits samples) → m ≡ among i → m ≤ i
  few_among i h counted = omega (arith, many_few test (take i (all_bits samples)), length-take-le i (all_bits samples) h)
