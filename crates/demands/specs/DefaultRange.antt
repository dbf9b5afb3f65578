-- The default range of f32 samples, by the greys of 16 bits. RULES.md: Choosing and clamping.
use Rattle.std.specs.Prelude.{ℕ, ◌<◌, ◌≡◌, List, Float}
use Rattle.value.specs.Outcome.{gives, done}
use Rattle.choose.specs.Choose.{default_range, sample_of}
use Rattle.row.specs.Convert.{u16_to_f32, f32_to_u16, convert_answer}
use Rattle.rowclamp.specs.Clamp.{clamp_answer, clamp_exit}

-- "The default range is 0 to 65535"
pub record DefaultRange : Type 0 where
  -- its ends are the lowest grey and the highest, and the lower one is not minus zero, which no grey is
  pub default_ends : (f32_to_u16 default_range.lower ≡ gives 0) × (f32_to_u16 default_range.upper ≡ gives 65535)
  -- no grey is flattened: the f32 that a u16 becomes is clamped to itself
  pub default_keeps : (n : ℕ) (x : Float) → n < 65536 → u16_to_f32 n ≡ gives x → sample_of default_range x ≡ gives x
  -- nor one of a row: a row of f32 that goes to u16 is accepted by the clamp, and is then what it was
  pub default_keeps_row : (row : List Float) (dst : List ℕ) → convert_answer f32_to_u16 row dst ≡ gives done
      → (clamp_answer default_range row ≡ gives done) × (clamp_exit default_range row ≡ row)
