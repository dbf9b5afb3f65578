-- The names of the kinds and their hex digits.
use Rattle.std.specs.Prelude.{ℕ, ◌/◌, List, [], ◌∷◌, Option}
use Rattle.value.specs.declared.Kind.{Kind}
use Rattle.value.specs.Kinds.{kind_at, width_of}
use Rattle.text.specs.Words.{number_among}

-- u8 u16 u32 u64 i8 i16 i32 i64 f32 f64 f16, in the order of the kinds
abbrev pub kind_names : List (List ℕ)
kind_names =
    (117 ∷ 56 ∷ [])
    ∷ (117 ∷ 49 ∷ 54 ∷ [])
    ∷ (117 ∷ 51 ∷ 50 ∷ [])
    ∷ (117 ∷ 54 ∷ 52 ∷ [])
    ∷ (105 ∷ 56 ∷ [])
    ∷ (105 ∷ 49 ∷ 54 ∷ [])
    ∷ (105 ∷ 51 ∷ 50 ∷ [])
    ∷ (105 ∷ 54 ∷ 52 ∷ [])
    ∷ (102 ∷ 51 ∷ 50 ∷ [])
    ∷ (102 ∷ 54 ∷ 52 ∷ [])
    ∷ (102 ∷ 49 ∷ 54 ∷ [])
    ∷ []

-- the kind at the place that the name has
unfoldable pub kind_named : List ℕ → Option Kind
kind_named s = kind_at (number_among s kind_names)

-- four bits to a digit
abbrev pub digits_of : Kind → ℕ
digits_of k = width_of k / 4
