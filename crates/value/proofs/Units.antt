-- The common unit and the steps of the float formats are not 0.
use Prim.Native.Nat.{◌<◌}
use native.Mathlib.Omega.{arith}
use lib.Pow.{pow_pos}
use Rattle.float.specs.Format.{Format, f16, f32, f64}
use Rattle.value.specs.Meaning.{unit, step_of}

pub unit_pos : 0 < unit
unfolding unit
unit_pos = pow_pos 1074

pub step_pos : (f : Format) → 0 < step_of f
unfolding step_of
step_pos f16 = pow_pos 1050
step_pos f32 = pow_pos 925
step_pos f64 = omega arith
