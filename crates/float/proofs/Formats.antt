-- What every format here has: a law over (p, e) that asks for it holds of all of them.
use Prim.Native.Nat.{◌+◌, ◌^◌, ◌≤◌, ◌<◌}
use native.Mathlib.Omega.{arith}
use lib.Pow.{pow_pos, pow-lt}
use Rattle.float.specs.Format.{Format, f16, f32, f64, fraction_of, exponent_of, inf_in, sign_in}

pub two_or_more : (f : Format) → 2 ≤ exponent_of f
two_or_more f16 = omega arith
two_or_more f32 = omega arith
two_or_more f64 = omega arith

pub inf_range : (f : Format) → (0 < inf_in f) × (inf_in f < sign_in f)
inf_range f =
    let e = two_or_more f in
    let l : 2 ^ fraction_of f < 2 ^ (fraction_of f + exponent_of f) = pow-lt (omega arith) in
    let z : 0 < 2 ^ fraction_of f = pow_pos (fraction_of f) in
    (omega arith, omega arith)
