-- Nothing in this file has to be believed: it says what private functions compute, and no public contract or theorem reaches it.
use Rattle.std.specs.Prelude.{Bool, true, false, not, ◌&&◌, Float, ℕ, leb, ltb, pos}
use Rattle.std.specs.Float.{binary32}
use Rattle.value.specs.Outcome.{Outcome, gives, refuses}
use Rattle.std.specs.Float.Ieee.{to_bits, of_bits, of_int, to_unsigned, add, sub, eq}

-- a u16 that no u8 has the number of
abbrev pub is_wide : ℕ → Bool
is_wide n = ltb 255 n

-- the cast `n as f32`
abbrev pub as_f32 : ℕ → Float
as_f32 n = of_int binary32 (pos n)

-- 2^23 as f32
abbrev pub shift : Float
shift = of_bits binary32 0x4b00_0000

-- for a float from 0 up to 2^23: between 2^23 and 2^24 there are only whole numbers, so a fraction is lost on the way
abbrev pub is_whole : Float → Bool
is_whole x = eq (sub binary32 (add binary32 x shift) shift) x

-- an f32 that doesn't go to u16: its bits are above those of 65535, or it has a fraction
abbrev pub is_misfit : Float → Bool
is_misfit x = not (leb (to_bits binary32 x) 0x477f_ff00 && is_whole x)

-- the cast `x as u16`
abbrev pub as_u16 : Float → ℕ
as_u16 x = to_unsigned 16 x

-- whether a sample is refused
abbrev pub is_refused : {A : Type 0} → Outcome A → Bool
is_refused (gives x) = false
is_refused (refuses number place) = true
