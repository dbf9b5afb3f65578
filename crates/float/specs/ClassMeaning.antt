-- What a pattern of each class stands for. RULES.md: Bits and classes, Scaled numbers.
use Rattle.std.specs.Prelude.{ℕ, suc, ◌-◌, ◌*◌, ◌^◌, ◌≤◌, ◌<◌, ◌≡◌, pos}
use Rattle.float.specs.declared.Class.{Class}
use Rattle.float.specs.declared.Class.TheVariants.{Zero, Subnormal, Normal, Infinite, Nan}
use Rattle.float.specs.Format.{negative_of, abs_of, mag_of, scaled_of, Format, fraction_of, exponent_of}
use Rattle.float.specs.Number.{not_number, infinite}
use Rattle.float.specs.Order.{pattern_of}

-- the largest scaled magnitude of a format: (2^24 - 1) * 2^253 for f32
abbrev pub largest_of : ℕ → ℕ → ℕ
largest_of p e = (2 ^ suc p - 1) * 2 ^ (2 ^ e - 3)

-- of a format
abbrev pub largest_in : Format → ℕ
largest_in f = largest_of (fraction_of f) (exponent_of f)

-- zero is 0; a subnormal's magnitude is its abs; a normal one lies from 2^p up to the largest
abbrev pub ClassMeans : ℕ → ℕ → ℕ → Class → Type 0
ClassMeans p e b Zero = scaled_of p e b ≡ pos 0
ClassMeans p e b Subnormal = (mag_of p (abs_of p e b) ≡ abs_of p e b) × (0 < abs_of p e b) × (abs_of p e b < 2 ^ p)
ClassMeans p e b Normal = (2 ^ p ≤ mag_of p (abs_of p e b)) × (mag_of p (abs_of p e b) ≤ largest_of p e)
ClassMeans p e b Infinite = pattern_of p e b ≡ infinite (negative_of p e b)
ClassMeans p e b Nan = pattern_of p e b ≡ not_number

-- of a format
abbrev pub MeansIn : Format → ℕ → Class → Type 0
MeansIn f b c = ClassMeans (fraction_of f) (exponent_of f) b c
