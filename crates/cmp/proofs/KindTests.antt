-- The kinds of two values in a match on both: an arm that names a case of each knows whether they are one.
use mathlib.Core.Path.{◌≡◌, refl, sym, ◌∙◌, ap, subst}
use mathlib.Core.Bool.{Bool, true, false, not}
use Prim.Native.Nat.{ℕ}
use lib.Dec.{T, eqb}
use lib.IntN.{ℤ}
use lib.Ieee.{Float}
use borrow.Author.Tests.{eq-eqb, ne_eqb, eqb-true, not-false}
use Rattle.value.specs.declared.Kind.{Kind}
use Rattle.value.specs.declared.Kind.TheVariants as kind
use Rattle.value.specs.declared.Value.{Value}
use Rattle.value.specs.declared.Value.TheVariants.{U8, U16, U32, U64, I8, I16, I32, I64, F32, F64, F16}
use Rattle.value.specs.Kinds.{kind_of, kind_number}
use Rattle.value.proofs.Forms.{Whole}
use Rattle.value.proofs.KindNumbers.{number_injective}
use Rattle.cmp.specs.Compare.{kinds_differ}

-- the value is no case of the kind: what an arm `_` behind that case knows
abbrev pub NotOf : Kind → Value → Type 0
NotOf kind.U8 v = (n : ℕ) → v ≡ U8 n → ⊥
NotOf kind.U16 v = (n : ℕ) → v ≡ U16 n → ⊥
NotOf kind.U32 v = (n : ℕ) → v ≡ U32 n → ⊥
NotOf kind.U64 v = (n : ℕ) → v ≡ U64 n → ⊥
NotOf kind.I8 v = (z : ℤ) → v ≡ I8 z → ⊥
NotOf kind.I16 v = (z : ℤ) → v ≡ I16 z → ⊥
NotOf kind.I32 v = (z : ℤ) → v ≡ I32 z → ⊥
NotOf kind.I64 v = (z : ℤ) → v ≡ I64 z → ⊥
NotOf kind.F32 v = (x : Float) (w : ℕ) → v ≡ F32 x w → ⊥
NotOf kind.F64 v = (x : Float) (w : ℕ) → v ≡ F64 x w → ⊥
NotOf kind.F16 v = (b : ℕ) → v ≡ F16 b → ⊥

own_case : (v : Value) → NotOf (kind_of v) v → ⊥
own_case (U8 n) h = h n refl
own_case (U16 n) h = h n refl
own_case (U32 n) h = h n refl
own_case (U64 n) h = h n refl
own_case (I8 z) h = h z refl
own_case (I16 z) h = h z refl
own_case (I32 z) h = h z refl
own_case (I64 z) h = h z refl
own_case (F32 x w) h = h x w refl
own_case (F64 x w) h = h x w refl
own_case (F16 b) h = h b refl

pub other_kind : (k : Kind) (v : Value) → NotOf k v → k ≡ kind_of v → ⊥
other_kind k v h q = let P : Kind → Type 0 = λ j. NotOf j v in own_case v (subst P q h)

-- behind the arms for the three float kinds, the kind is an integer kind
pub whole_left : (v : Value) → NotOf kind.F32 v → NotOf kind.F64 v → NotOf kind.F16 v → Whole v
whole_left (U8 n) f g h = tt
whole_left (U16 n) f g h = tt
whole_left (U32 n) f g h = tt
whole_left (U64 n) f g h = tt
whole_left (I8 z) f g h = tt
whole_left (I16 z) f g h = tt
whole_left (I32 z) f g h = tt
whole_left (I64 z) f g h = tt
whole_left (F32 x w) f g h = absurd (f x w refl)
whole_left (F64 x w) f g h = absurd (g x w refl)
whole_left (F16 b) f g h = absurd (h b refl)

pub is_true : (b : Bool) → T b → b ≡ true
is_true true t = refl
is_true false t = absurd t

-- a is a', and b no case of its kind
pub differ : {a a' : Value} (b : Value) → a ≡ a' → NotOf (kind_of a') b → kinds_differ a b ≡ true
differ {a} {a'} b q n =
    let other : eqb (kind_number (kind_of a')) (kind_number (kind_of b)) ≡ false =
    ne_eqb _ _ (λ e. other_kind (kind_of a') b n (number_injective (kind_of a') (kind_of b) e)) in
    ap (λ (v : Value). kinds_differ v b) q ∙ ap not other

pub alike : {a a' b b' : Value} → a ≡ a' → b ≡ b' → kind_of a' ≡ kind_of b' → kinds_differ a b ≡ false
alike q u k = ap not (eq-eqb _ _ (ap kind_number (ap kind_of q ∙ k ∙ sym (ap kind_of u))))

pub one_kind : (a b : Value) → kinds_differ a b ≡ false → kind_number (kind_of a) ≡ kind_number (kind_of b)
one_kind a b h = eqb-true _ _ (not-false (eqb (kind_number (kind_of a)) (kind_number (kind_of b))) h)
