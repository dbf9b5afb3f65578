-- Every pattern of every kind is the bits of the value made from it, NaN patterns included; and that value is of the kind.
use mathlib.Core.Path.{◌≡◌, refl, ◌∙◌}
use Prim.Native.Nat.{ℕ, ◌%◌, ◌^◌, ◌<◌}
use native.Mathlib.Nat.{mod-lt, mod-eq_of_lt}
use lib.Pow.{pow_pos}
use lib.Ieee.{binary32, binary64}
use Rattle.value.specs.declared.Kind.{Kind}
use Rattle.value.specs.declared.Kind.TheVariants as kind
use Rattle.value.specs.Kinds.{kind_of, width_of}
use Rattle.value.specs.Meaning.{bits_of, value_of}
use Rattle.value.proofs.TwosComplement.{twos_from}
use Rattle.value.proofs.FloatBits.{bits_pattern}

pub low_bits : (b n : ℕ) → b % 2 ^ n < 2 ^ n
low_bits b n = mod-lt b (pow_pos n)

pub bits_made : (k : Kind) (b : ℕ) → bits_of (value_of k b) ≡ b % 2 ^ width_of k
unfolding value_of
bits_made kind.U8 b = refl
bits_made kind.U16 b = refl
bits_made kind.U32 b = refl
bits_made kind.U64 b = refl
bits_made kind.I8 b = twos_from (2 ^ 7) (b % 2 ^ 8) (low_bits b 8)
bits_made kind.I16 b = twos_from (2 ^ 15) (b % 2 ^ 16) (low_bits b 16)
bits_made kind.I32 b = twos_from (2 ^ 31) (b % 2 ^ 32) (low_bits b 32)
bits_made kind.I64 b = twos_from (2 ^ 63) (b % 2 ^ 64) (low_bits b 64)
bits_made kind.F32 b = bits_pattern binary32 (b % 2 ^ 32) (low_bits b 32)
bits_made kind.F64 b = bits_pattern binary64 (b % 2 ^ 64) (low_bits b 64)
bits_made kind.F16 b = refl

pub value_bits : (k : Kind) (b : ℕ) → b < 2 ^ width_of k → bits_of (value_of k b) ≡ b
value_bits k b h = bits_made k b ∙ mod-eq_of_lt h

pub value_kind : (k : Kind) (b : ℕ) → kind_of (value_of k b) ≡ k
unfolding value_of
value_kind kind.U8 b = refl
value_kind kind.U16 b = refl
value_kind kind.U32 b = refl
value_kind kind.U64 b = refl
value_kind kind.I8 b = refl
value_kind kind.I16 b = refl
value_kind kind.I32 b = refl
value_kind kind.I64 b = refl
value_kind kind.F32 b = refl
value_kind kind.F64 b = refl
value_kind kind.F16 b = refl
