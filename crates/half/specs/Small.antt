-- The f32 patterns of the f16 magnitudes with exponent field 0. RULES.md: Exact conversion, Scaled numbers.
use Rattle.std.specs.Prelude.{ℕ, ◌*◌, ◌^◌, ◌<◌, ◌≡◌, List, length, get_or}
use Rattle.float.specs.Format.{f32, mag_in}

-- an f32 pattern is m over 2^24, its sign bit clear: m * 2^125 steps of 2^-149
abbrev pub IsOver : ℕ → ℕ → Type 0
IsOver m b = mag_in f32 b ≡ m * 2 ^ 125

-- a table of 1,024 patterns, in which the one at place m is m over 2^24
unfoldable pub Small : List ℕ → Type 0
Small t = (length t ≡ 1024) × ((m : ℕ) → m < 1024 → IsOver m (get_or t m 0))
