-- The kinds: their list, their numbers, their forms. RULES.md: The kinds.
use Rattle.std.specs.Prelude.{ℕ, zero, suc, ◌+◌, ◌/◌, Bool, true, false, List, [], ◌∷◌, Option, None, Some}
use Rattle.float.specs.Format.{Format, f16, f32, f64, fraction_of, exponent_of}
use Rattle.value.specs.declared.Kind.{Kind}
use Rattle.value.specs.declared.Kind.TheVariants as kind
use Rattle.value.specs.declared.Value.{Value}
use Rattle.value.specs.declared.Value.TheVariants.{U8, U16, U32, U64, I8, I16, I32, I64, F32, F64, F16}
use Rattle.value.specs.declared.Layout.{Layout}
use Rattle.value.specs.declared.Layout.TheVariants as layout

-- the kind of a value is its case
abbrev pub kind_of : Value → Kind
kind_of (U8 n) = kind.U8
kind_of (U16 n) = kind.U16
kind_of (U32 n) = kind.U32
kind_of (U64 n) = kind.U64
kind_of (I8 z) = kind.I8
kind_of (I16 z) = kind.I16
kind_of (I32 z) = kind.I32
kind_of (I64 z) = kind.I64
kind_of (F32 x w) = kind.F32
kind_of (F64 x w) = kind.F64
kind_of (F16 b) = kind.F16

-- a kind's place in the list of kinds
abbrev pub kind_number : Kind → ℕ
kind_number kind.U8 = 0
kind_number kind.U16 = 1
kind_number kind.U32 = 2
kind_number kind.U64 = 3
kind_number kind.I8 = 4
kind_number kind.I16 = 5
kind_number kind.I32 = 6
kind_number kind.I64 = 7
kind_number kind.F32 = 8
kind_number kind.F64 = 9
kind_number kind.F16 = 10

-- in the order of their numbers
abbrev pub all_kinds : List Kind
all_kinds = kind.U8 ∷ kind.U16 ∷ kind.U32 ∷ kind.U64 ∷ kind.I8 ∷ kind.I16 ∷ kind.I32 ∷ kind.I64 ∷ kind.F32 ∷ kind.F64 ∷ kind.F16 ∷ []

-- the kind at a place of a list, if there is one
abbrev pub kind_in : List Kind → ℕ → Option Kind
kind_in [] n = None
kind_in (k ∷ ks) zero = Some k
kind_in (k ∷ ks) (suc n) = kind_in ks n

-- the kind with a number
abbrev pub kind_at : ℕ → Option Kind
kind_at n = kind_in all_kinds n

-- the three forms: unsigned and signed of a number of bits, and a float format
pub data Form : Type 0 where
  unsigned signed : ℕ → Form
  floating : Format → Form

-- the form of a kind
abbrev pub form_of : Kind → Form
form_of kind.U8 = unsigned 8
form_of kind.U16 = unsigned 16
form_of kind.U32 = unsigned 32
form_of kind.U64 = unsigned 64
form_of kind.I8 = signed 8
form_of kind.I16 = signed 16
form_of kind.I32 = signed 32
form_of kind.I64 = signed 64
form_of kind.F32 = floating f32
form_of kind.F64 = floating f64
form_of kind.F16 = floating f16

-- the form of an integer kind
abbrev pub is_integer : Form → Bool
is_integer (unsigned n) = true
is_integer (signed n) = true
is_integer (floating f) = false

-- how many bits a form has
abbrev pub width_in : Form → ℕ
width_in (unsigned n) = n
width_in (signed n) = n
width_in (floating f) = suc (fraction_of f + exponent_of f)

-- a form as the code has it: how many bits, and of a float how many of them are the fraction
abbrev pub layout_for : Form → Layout
layout_for (unsigned n) = layout.Unsigned n
layout_for (signed n) = layout.Signed n
layout_for (floating f) = layout.Float (width_in (floating f)) (fraction_of f)

-- how many bits a kind has
abbrev pub width_of : Kind → ℕ
width_of k = width_in (form_of k)

-- how many bytes a sample has
abbrev pub bytes_of : Kind → ℕ
bytes_of k = width_of k / 8
