-- What a value holds, its bits and the number that it stands for. RULES.md: The kinds, Scaled numbers, Total order.
-- Eleven kinds, three forms: each definition below goes by the form, so that what is said of it is said once.
use Rattle.std.specs.Prelude.{ℕ, suc, ◌+◌, ◌-◌, ◌*◌, ◌%◌, ◌^◌, ◌<◌, false, true, cond, T, ltb, ℤ, pos, negsuc, Float}
use Rattle.std.specs.Float.Ieee.{is_nan, fits, to_bits, of_bits}
use Rattle.std.specs.Float.Ieee as language
use Rattle.float.specs.Format.{Format, f16, f32, f64, fraction_of, inf_in, nan_in, position_in}
use Rattle.float.specs.Language.{own_of}
use Rattle.float.specs.Number.{Exact, finite, times, Number}
use Rattle.float.specs.Number as float-number
use Rattle.float.specs.Order.{pattern_in}
use Rattle.value.specs.declared.Kind.{Kind}
use Rattle.value.specs.declared.Kind.TheVariants as kind
use Rattle.value.specs.declared.Value.{Value}
use Rattle.value.specs.declared.Value.TheVariants.{U8, U16, U32, U64, I8, I16, I32, I64, F32, F64, F16}

-- ---- the pattern of a float that the language holds as a float

-- the word beside a NaN when it is a NaN's pattern, else the quiet NaN: 7fc00000 for f32
abbrev pub nan_word : Format → ℕ → ℕ
nan_word f w = cond (nan_in f w) w (inf_in f + 2 ^ (fraction_of f - 1))

-- the word is looked at only when the float is a NaN
unfoldable pub float_bits : language.Format → Float → ℕ → ℕ
float_bits f x w = cond (is_nan x) (nan_word (own_of f) w) (to_bits f x)

-- ---- what a value holds

-- a number of some bits, unsigned or signed, or a pattern of a float format
pub data Content : Type 0 where
  natural : ℕ → ℕ → Content
  integer : ℕ → ℤ → Content
  real : Format → ℕ → Content

-- of each kind
abbrev pub content_of : Value → Content
content_of (U8 n) = natural 8 n
content_of (U16 n) = natural 16 n
content_of (U32 n) = natural 32 n
content_of (U64 n) = natural 64 n
content_of (I8 z) = integer 8 z
content_of (I16 z) = integer 16 z
content_of (I32 z) = integer 32 z
content_of (I64 z) = integer 64 z
content_of (F32 x w) = real f32 (float_bits language.binary32 x w)
content_of (F64 x w) = real f64 (float_bits language.binary64 x w)
content_of (F16 b) = real f16 b

-- -half ≤ z < half: the range of a signed kind
abbrev pub FitsSigned : ℕ → ℤ → Type 0
FitsSigned half (pos n) = n < half
FitsSigned half (negsuc n) = n < half

-- in the range of its kind, as every value that a program holds; the word beside a float has the float's width
abbrev pub InRange : Value → Type 0
InRange (U8 n) = n < 2 ^ 8
InRange (U16 n) = n < 2 ^ 16
InRange (U32 n) = n < 2 ^ 32
InRange (U64 n) = n < 2 ^ 64
InRange (I8 z) = FitsSigned (2 ^ 7) z
InRange (I16 z) = FitsSigned (2 ^ 15) z
InRange (I32 z) = FitsSigned (2 ^ 31) z
InRange (I64 z) = FitsSigned (2 ^ 63) z
InRange (F32 x w) = T (fits language.binary32 x) × (w < 2 ^ 32)
InRange (F64 x w) = T (fits language.binary64 x) × (w < 2 ^ 64)
InRange (F16 b) = b < 2 ^ 16

-- ---- bits

-- z in two's complement: minus one is all ones
abbrev pub twos_of : ℕ → ℤ → ℕ
twos_of ones (pos n) = n
twos_of ones (negsuc n) = ones - n

-- the bits of what it holds
abbrev pub bits_in : Content → ℕ
bits_in (natural k n) = n
bits_in (integer k z) = twos_of (2 ^ k - 1) z
bits_in (real f b) = b

-- the bits of a value
abbrev pub bits_of : Value → ℕ
bits_of v = bits_in (content_of v)

-- ---- the one meaning: no number, an infinity, or a sign and a magnitude in units of 2^-1074

-- an integer has a sign and a magnitude
abbrev pub whole_of : ℤ → Exact
whole_of (pos n) = finite false n
whole_of (negsuc n) = finite true (suc n)

-- how many units an integer's 1 is, and a float format's smallest step
unfoldable pub unit : ℕ
unit = 2 ^ 1074

-- a step of f16 is 2^-24, one of f32 is 2^-149, one of f64 is the unit
unfoldable pub step_of : Format → ℕ
step_of f16 = 2 ^ 1050
step_of f32 = 2 ^ 925
step_of f64 = 1

-- what a content stands for
abbrev pub exact_in : Content → Exact
exact_in (natural k n) = times unit (whole_of (pos n))
exact_in (integer k z) = times unit (whole_of z)
exact_in (real f b) = times (step_of f) (pattern_in f b)

-- what a value stands for
abbrev pub exact_of : Value → Exact
exact_of v = exact_in (content_of v)

-- the number alone: the two zeros are one
abbrev pub number_of : Value → Number
number_of v = float-number.number_of (exact_of v)

-- ---- the place in the total order: an integer's number, a float's position

-- of what it holds
abbrev pub content_position : Content → ℤ
content_position (natural k n) = pos n
content_position (integer k z) = z
content_position (real f b) = position_in f b

-- of a value
abbrev pub position_of : Value → ℤ
position_of v = content_position (content_of v)

-- ---- the value of a bit pattern

-- a pattern read as two's complement: from half on it is negative
abbrev pub from_twos : ℕ → ℕ → ℤ
from_twos half n = cond (ltb n half) (pos n) (negsuc (2 * half - 1 - n))

-- the pattern stands beside a NaN, and 0 beside any other float
abbrev pub word_for : Format → ℕ → ℕ
word_for f b = cond (nan_in f b) b 0

-- the value of an f32 pattern
abbrev pub f32_value : ℕ → Value
f32_value b = F32 (of_bits language.binary32 b) (word_for f32 b)

-- and of an f64 pattern
abbrev pub f64_value : ℕ → Value
f64_value b = F64 (of_bits language.binary64 b) (word_for f64 b)

-- the value of a kind with these bits; bits above the kind's width are not looked at
unfoldable pub value_of : Kind → ℕ → Value
value_of kind.U8 b = U8 (b % 2 ^ 8)
value_of kind.U16 b = U16 (b % 2 ^ 16)
value_of kind.U32 b = U32 (b % 2 ^ 32)
value_of kind.U64 b = U64 (b % 2 ^ 64)
value_of kind.I8 b = I8 (from_twos (2 ^ 7) (b % 2 ^ 8))
value_of kind.I16 b = I16 (from_twos (2 ^ 15) (b % 2 ^ 16))
value_of kind.I32 b = I32 (from_twos (2 ^ 31) (b % 2 ^ 32))
value_of kind.I64 b = I64 (from_twos (2 ^ 63) (b % 2 ^ 64))
value_of kind.F32 b = f32_value (b % 2 ^ 32)
value_of kind.F64 b = f64_value (b % 2 ^ 64)
value_of kind.F16 b = F16 (b % 2 ^ 16)
