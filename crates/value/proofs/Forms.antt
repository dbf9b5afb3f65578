-- A value is of an integer kind or holds a float; an integer kind's value is told by its kind and its number.
use mathlib.Core.Path.{◌≡◌, refl, sym, ◌∙◌}
use mathlib.Core.Logic.{◌⊎◌, inl, inr}
use Prim.Native.Nat.{ℕ}
use lib.Dec.{T}
use lib.IntN.{ℤ, nat_abs}
use Rattle.float.specs.Format.{Format, f16, f32, f64}
use Rattle.value.specs.declared.Kind.{Kind}
use Rattle.value.specs.declared.Kind.TheVariants as kind
use Rattle.value.specs.declared.Value.{Value}
use Rattle.value.specs.declared.Value.TheVariants.{U8, U16, U32, U64, I8, I16, I32, I64, F32, F64, F16}
use Rattle.value.specs.Kinds.{kind_of, floating, form_of, is_integer}
use Rattle.value.specs.Meaning.{real, content_of, position_of}

-- the kind is an integer kind
abbrev pub Whole : Value → Type 0
Whole v = T (is_integer (form_of (kind_of v)))

pub record Floating (v : Value) : Type 0 where
  pub format : Format
  pub pattern : ℕ
  pub content : content_of v ≡ real format pattern
  pub form : form_of (kind_of v) ≡ floating format
  pub not_whole : Whole v → ⊥

pub whole_or_floating : (v : Value) → Whole v ⊎ Floating v
whole_or_floating (U8 n) = inl tt
whole_or_floating (U16 n) = inl tt
whole_or_floating (U32 n) = inl tt
whole_or_floating (U64 n) = inl tt
whole_or_floating (I8 z) = inl tt
whole_or_floating (I16 z) = inl tt
whole_or_floating (I32 z) = inl tt
whole_or_floating (I64 z) = inl tt
whole_or_floating (F32 x w) = inr (record { format = f32; pattern = _; content = refl; form = refl; not_whole = λ t. t })
whole_or_floating (F64 x w) = inr (record { format = f64; pattern = _; content = refl; form = refl; not_whole = λ t. t })
whole_or_floating (F16 b) = inr (record { format = f16; pattern = b; content = refl; form = refl; not_whole = λ t. t })

-- the value of an integer kind with a number
remade : Kind → ℤ → Value
remade kind.U8 z = U8 (nat_abs z)
remade kind.U16 z = U16 (nat_abs z)
remade kind.U32 z = U32 (nat_abs z)
remade kind.U64 z = U64 (nat_abs z)
remade kind.I8 z = I8 z
remade kind.I16 z = I16 z
remade kind.I32 z = I32 z
remade kind.I64 z = I64 z
remade kind.F32 z = I64 z
remade kind.F64 z = I64 z
remade kind.F16 z = I64 z

remade_same : (v : Value) → Whole v → remade (kind_of v) (position_of v) ≡ v
unfolding remade
remade_same (U8 n) t = refl
remade_same (U16 n) t = refl
remade_same (U32 n) t = refl
remade_same (U64 n) t = refl
remade_same (I8 z) t = refl
remade_same (I16 z) t = refl
remade_same (I32 z) t = refl
remade_same (I64 z) t = refl
remade_same (F32 x w) t = absurd t
remade_same (F64 x w) t = absurd t
remade_same (F16 b) t = absurd t

pub whole_same : (a b : Value) → Whole a → Whole b → kind_of a ≡ kind_of b → position_of a ≡ position_of b → a ≡ b
whole_same a b s t k p = sym (remade_same a s) ∙ cc (k, p) ∙ remade_same b t
