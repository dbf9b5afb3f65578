-- Each arm knows the kind; a signed number is below half, so the cast to the narrow width keeps it.
use mathlib.Core.Path.{◌≡◌, refl, sym, ◌∙◌, ap}
use Prim.Native.Nat.{ℕ, ◌%◌, ◌^◌, ◌<◌}
use native.Mathlib.Nat.{mod-eq_of_lt}
use borrow.Author.Rules.{rules}
use mir.Syntax.{w8, w16, w32, w64}
use mir.ValLaws.{to_z-of_z}
use Rattle.value.specs.declared.Kind.{Kind}
use Rattle.value.specs.declared.Value.TheVariants.{U64, I8, I16, I32, I64}
use Rattle.value.specs.Meaning.{from_twos, f64_value, value_of}
use Rattle.value.proofs.TwosComplement.{reading}
use Rattle.value.proofs.patterns.value_of.Goals as goal

of_kind : (b : ℕ) {j k : Kind} → j ≡ k → value_of k b ≡ value_of j b
of_kind b q = sym (ap (λ (k : Kind). value_of k b) q)

whole : (b : ℕ) → b < 2 ^ 64 → b % 2 ^ 64 ≡ b
whole b h = mod-eq_of_lt h

pub returns-in-U8 : goal.returns-in-U8
unfolding value_of
returns-in-U8 c = of_kind c.args.bits c.in-U8.is

pub returns-in-U16 : goal.returns-in-U16
unfolding value_of
returns-in-U16 c = of_kind c.args.bits c.in-U16.is

pub returns-in-U32 : goal.returns-in-U32
unfolding value_of
returns-in-U32 c = of_kind c.args.bits c.in-U32.is

pub returns-in-U64 : goal.returns-in-U64
unfolding value_of
returns-in-U64 c =
    let b = c.args.bits in
    ap U64 (sym (whole b (search rules))) ∙ of_kind b c.in-U64.is

pub returns-in-I8 : goal.returns-in-I8
unfolding value_of
returns-in-I8 c =
    ap I8 (to_z-of_z w8 _ (record { sfits = search rules }) ∙ c.cast_signed.ensures ∙ reading w8 _ refl)
    ∙ of_kind c.args.bits c.in-I8.is

pub returns-in-I16 : goal.returns-in-I16
unfolding value_of
returns-in-I16 c =
    ap I16 (to_z-of_z w16 _ (record { sfits = search rules }) ∙ c.cast_signed-in-I16.ensures ∙ reading w16 _ refl)
    ∙ of_kind c.args.bits c.in-I16.is

pub returns-in-I32 : goal.returns-in-I32
unfolding value_of
returns-in-I32 c =
    ap I32 (to_z-of_z w32 _ (record { sfits = search rules }) ∙ c.cast_signed-in-I32.ensures ∙ reading w32 _ refl)
    ∙ of_kind c.args.bits c.in-I32.is

pub returns-in-I64 : goal.returns-in-I64
unfolding value_of
returns-in-I64 c =
    ap I64 (to_z-of_z w64 _ (record { sfits = search rules }) ∙ c.cast_signed-in-I64.ensures ∙ reading w64 _ refl
    ∙ ap (from_twos (2 ^ 63)) (sym (whole c.args.bits (search rules))))
    ∙ of_kind c.args.bits c.in-I64.is

pub returns-in-F32 : goal.returns-in-F32
unfolding value_of
returns-in-F32 c = c.f32_value.ensures ∙ of_kind c.args.bits c.in-F32.is

pub returns-in-F64 : goal.returns-in-F64
unfolding value_of
returns-in-F64 c =
    let b = c.args.bits in
    c.f64_value.ensures ∙ ap f64_value (sym (whole b (search rules))) ∙ of_kind b c.in-F64.is

pub returns-in-F16 : goal.returns-in-F16
unfolding value_of
returns-in-F16 c = of_kind c.args.bits c.in-F16.is
