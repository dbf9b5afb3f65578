-- A float format by its number p of fraction bits and e of exponent bits: what a bit pattern b of it says, in whole numbers.
-- RULES.md: Bits and classes, Scaled numbers, Total order. The formats themselves, and each definition for a format, stand at the end.
use Rattle.std.specs.Prelude.{ℕ, zero, suc, ◌+◌, ◌-◌, ◌*◌, ◌/◌, ◌%◌, ◌^◌, Bool, ◌&&◌, cond, ltb, leb, eqb, ℤ, pos, negsuc}
use Rattle.float.specs.declared.Class.{Class}
use Rattle.float.specs.declared.Class.TheVariants.{Zero, Subnormal, Normal, Infinite, Nan}
use Rattle.float.specs.Number.{signed_of}

-- the weight of the sign bit: 0x8000_0000 for f32
abbrev pub sign_of : ℕ → ℕ → ℕ
sign_of p e = 2 ^ (p + e)

-- the bits of plus infinity: 0x7f80_0000 for f32
abbrev pub inf_of : ℕ → ℕ → ℕ
inf_of p e = 2 ^ (p + e) - 2 ^ p

-- the sign bit is set
abbrev pub negative_of : ℕ → ℕ → ℕ → Bool
negative_of p e b = leb (sign_of p e) b

-- the bits, less the weight of the sign bit when that bit is set
unfoldable pub abs_of : ℕ → ℕ → ℕ → ℕ
abs_of p e b = cond (negative_of p e b) (b - sign_of p e) b

-- abs below the infinity's bits is finite, equal is infinite, above is NaN
abbrev pub finite_of : ℕ → ℕ → ℕ → Bool
finite_of p e b = ltb (abs_of p e b) (inf_of p e)

abbrev pub infinite_of : ℕ → ℕ → ℕ → Bool
infinite_of p e b = eqb (abs_of p e b) (inf_of p e)

abbrev pub nan_of : ℕ → ℕ → ℕ → Bool
nan_of p e b = ltb (inf_of p e) (abs_of p e b)

-- of the finite patterns: abs is 0; above 0 and below 2^p; from 2^p up to the infinity's bits
abbrev pub zero_of : ℕ → ℕ → ℕ → Bool
zero_of p e b = eqb (abs_of p e b) 0

abbrev pub subnormal_of : ℕ → ℕ → ℕ → Bool
subnormal_of p e b = ltb 0 (abs_of p e b) && ltb (abs_of p e b) (2 ^ p)

abbrev pub normal_of : ℕ → ℕ → ℕ → Bool
normal_of p e b = leb (2 ^ p) (abs_of p e b) && ltb (abs_of p e b) (inf_of p e)

-- a finite pattern is zero when abs is 0, subnormal below 2^p, else normal
abbrev pub class_at : ℕ → ℕ → ℕ → Class
class_at p e x =
    cond (ltb (inf_of p e) x) Nan
    (cond (eqb x (inf_of p e)) Infinite
    (cond (eqb x 0) Zero
    (cond (ltb x (2 ^ p)) Subnormal Normal)))

-- the class of a pattern
unfoldable pub class_of : ℕ → ℕ → ℕ → Class
class_of p e b = class_at p e (abs_of p e b)

-- the scaled magnitude of an exponent field E and a fraction field f: f when E is 0, else (2^p + f) * 2^(E - 1)
abbrev pub mag_at : ℕ → ℕ → ℕ → ℕ
mag_at p zero f = f
mag_at p (suc k) f = (2 ^ p + f) * 2 ^ k

-- the scaled magnitude of an abs
unfoldable pub mag_of : ℕ → ℕ → ℕ
mag_of p x = mag_at p (x / 2 ^ p) (x % 2 ^ p)

-- the scaled number: negative when the sign bit is set
unfoldable pub scaled_of : ℕ → ℕ → ℕ → ℤ
scaled_of p e b = signed_of (negative_of p e b) (mag_of p (abs_of p e b))

-- the position: abs for a clear sign bit, -1 - abs for a set one
unfoldable pub position_of : ℕ → ℕ → ℕ → ℤ
position_of p e b = cond (negative_of p e b) (negsuc (abs_of p e b)) (pos (abs_of p e b))

-- ---- the formats, and what is said above of one of them

-- a format is one value
pub data Format : Type 0 where
  f16 f32 f64 : Format

-- its p
abbrev pub fraction_of : Format → ℕ
fraction_of f16 = 10
fraction_of f32 = 23
fraction_of f64 = 52

-- its e
abbrev pub exponent_of : Format → ℕ
exponent_of f16 = 5
exponent_of f32 = 8
exponent_of f64 = 11

-- the weight of its sign bit
abbrev pub sign_in : Format → ℕ
sign_in f = sign_of (fraction_of f) (exponent_of f)

-- the bits of its plus infinity
abbrev pub inf_in : Format → ℕ
inf_in f = inf_of (fraction_of f) (exponent_of f)

-- of a pattern of it: the sign bit, and the bits without it
abbrev pub negative_in : Format → ℕ → Bool
negative_in f b = negative_of (fraction_of f) (exponent_of f) b

abbrev pub abs_in : Format → ℕ → ℕ
abs_in f b = abs_of (fraction_of f) (exponent_of f) b

-- the tests
abbrev pub finite_in : Format → ℕ → Bool
finite_in f b = finite_of (fraction_of f) (exponent_of f) b

abbrev pub infinite_in : Format → ℕ → Bool
infinite_in f b = infinite_of (fraction_of f) (exponent_of f) b

abbrev pub nan_in : Format → ℕ → Bool
nan_in f b = nan_of (fraction_of f) (exponent_of f) b

abbrev pub zero_in : Format → ℕ → Bool
zero_in f b = zero_of (fraction_of f) (exponent_of f) b

abbrev pub subnormal_in : Format → ℕ → Bool
subnormal_in f b = subnormal_of (fraction_of f) (exponent_of f) b

abbrev pub normal_in : Format → ℕ → Bool
normal_in f b = normal_of (fraction_of f) (exponent_of f) b

-- the class
abbrev pub class_in : Format → ℕ → Class
class_in f b = class_of (fraction_of f) (exponent_of f) b

-- the scaled magnitude of an abs, the scaled number and the position of a pattern
abbrev pub mag_in : Format → ℕ → ℕ
mag_in f x = mag_of (fraction_of f) x

abbrev pub scaled_in : Format → ℕ → ℤ
scaled_in f b = scaled_of (fraction_of f) (exponent_of f) b

abbrev pub position_in : Format → ℕ → ℤ
position_in f b = position_of (fraction_of f) (exponent_of f) b
