-- Nothing in this file has to be believed: it says what private functions compute, and no public contract or theorem reaches it.
use Rattle.std.specs.Prelude.{ℕ}
use Rattle.float.specs.Format.{Format, f16, f32, f64}
use Rattle.silamogo.specs.declared.floats.FloatBits.{FloatBits}
use Rattle.silamogo.specs.declared.floats.FloatBits.TheVariants as pattern

-- the bits of a float, as the code has them
abbrev pub pattern_in : Format → ℕ → FloatBits
pattern_in f16 bits = pattern.F16 bits
pattern_in f32 bits = pattern.F32 bits
pattern_in f64 bits = pattern.F64 bits
