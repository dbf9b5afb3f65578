-- The conversion of a row into a second row. RULES.md: Rows, Exact conversion.
use Rattle.std.specs.Prelude.{ℕ, not, List, [], ◌∷◌, eqb, length, Float}
use Rattle.std.specs.Float.{nan}
use Rattle.value.specs.declared.Kind.TheVariants as kind
use Rattle.value.specs.declared.Value.{Value}
use Rattle.value.specs.declared.Value.TheVariants.{U8, U16, U32, U64, I8, I16, I32, I64, F32, F64, F16}
use Rattle.value.specs.Meaning.{bits_of}
use Rattle.value.specs.Outcome.{Outcome, mapped, Success, lent_after}
use Rattle.value.specs.Rules.{Rule, rule, chain}
use Rattle.convert.specs.Convert.{convert_of}
use Rattle.row.specs.Row.{row_answer, row_results}

-- ---- one sample

-- the float that a value carries; the other kinds carry none
abbrev pub float_of : Value → Float
float_of (U8 n) = nan
float_of (U16 n) = nan
float_of (U32 n) = nan
float_of (U64 n) = nan
float_of (I8 z) = nan
float_of (I16 z) = nan
float_of (I32 z) = nan
float_of (I64 z) = nan
float_of (F32 x w) = x
float_of (F64 x w) = x
float_of (F16 b) = nan

-- a sample of an unsigned kind is its bits, one of f32 its float
unfoldable pub u8_to_u16 : ℕ → Outcome ℕ
u8_to_u16 n = mapped bits_of (convert_of (U8 n) kind.U16)

unfoldable pub u16_to_u8 : ℕ → Outcome ℕ
u16_to_u8 n = mapped bits_of (convert_of (U16 n) kind.U8)

unfoldable pub u16_to_f32 : ℕ → Outcome Float
u16_to_f32 n = mapped float_of (convert_of (U16 n) kind.F32)

unfoldable pub f32_to_u16 : Float → Outcome ℕ
f32_to_u16 x = mapped bits_of (convert_of (F32 x 0) kind.U16)

-- ---- the row

-- rows of two lengths are 9
abbrev pub length_rules : {A B : Type 0} → List A → List B → List Rule
length_rules src dst = rule 9 0 (not (eqb (length src) (length dst))) ∷ []

-- and then the first sample that is refused decides
unfoldable pub convert_answer : {A B : Type 0} → (A → Outcome B) → List A → List B → Outcome Success
convert_answer conv src dst = chain (length_rules src dst) (row_answer conv 0 src)

-- the second row at the end
unfoldable pub convert_exit : {A B : Type 0} → (A → Outcome B) → List A → List B → List B
convert_exit conv src dst = lent_after (λ d. row_results conv src) (convert_answer conv src dst) dst
