-- Nothing in this file has to be believed: it says what private functions compute, and no public contract or theorem reaches it.
use Rattle.std.specs.Prelude.{ℕ, List, Float}
use Rattle.std.specs.Float.{binary32}
use Rattle.value.specs.declared.Kind.{Kind}
use Rattle.value.specs.declared.Kind.TheVariants as kind
use Rattle.value.specs.declared.Value.{Value}
use Rattle.value.specs.declared.Value.TheVariants.{F16}
use Rattle.value.specs.Meaning.{float_bits}
use Rattle.value.specs.Outcome.{Outcome, gives, refuses, lent_after}
use Rattle.row.specs.Inner.{as_f32}
use Rattle.sample.specs.Refusals.{bits_to}
use Rattle.block.specs.Migrate.{block_answer, output_of}

-- the bits of a result
abbrev pub given_bits : Outcome ℕ → ℕ
given_bits (gives b) = b
given_bits (refuses number place) = 0

-- of a sample: the bits of its conversion
abbrev pub moved_bits : Kind → Value → ℕ
moved_bits to v = given_bits (bits_to to v)

-- ---- a block as a row

-- the bits of a float in a row of f32, which holds no NaN's pattern
abbrev pub plain_bits : Float → ℕ
plain_bits x = float_bits binary32 x 0

-- the bits of the f32 that a u16 is cast to
abbrev pub floated_bits : ℕ → ℕ
floated_bits n = plain_bits (as_f32 n)

-- the bits of the f32 that an f16 pattern is moved to
abbrev pub half_bits : ℕ → ℕ
half_bits b = moved_bits kind.F32 (F16 b)

-- the lent buffer after the block alone
unfoldable pub block_exit : Kind → Kind → List ℕ → List ℕ → List ℕ
block_exit from to src old = lent_after (λ d. output_of from to src) (block_answer from to src) old
