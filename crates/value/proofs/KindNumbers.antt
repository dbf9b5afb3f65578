-- A kind's number is its place in the list of kinds: each is read back from the other.
use Rattle.std.specs.Prelude.{None, Some}
use mathlib.Core.Path.{◌≡◌, refl, sym, ◌∙◌, ap}
use mathlib.Core.List.{List, [], ◌∷◌}
use Prim.Native.Nat.{ℕ, zero, suc, ◌≤◌}
use native.Mathlib.Omega.{arith}
use lib.ListN.{length}
use Rattle.value.specs.Kinds.{kind_number, all_kinds, kind_in, kind_at}
use Rattle.value.specs.declared.Kind.{Kind}
use Rattle.value.specs.declared.Kind.TheVariants as kind

kind_past : (ks : List Kind) (n : ℕ) → length ks ≤ n → None ≡ kind_in ks n
kind_past [] n h = refl
kind_past (k ∷ ks) zero h = absurd (omega arith)
kind_past (k ∷ ks) (suc n) h = kind_past ks n (omega arith)

pub past_all : (n : ℕ) → 11 ≤ n → None ≡ kind_at n
past_all n h = kind_past all_kinds n h

pub kind_back : (k : Kind) → kind_at (kind_number k) ≡ Some k
kind_back kind.U8 = refl
kind_back kind.U16 = refl
kind_back kind.U32 = refl
kind_back kind.U64 = refl
kind_back kind.I8 = refl
kind_back kind.I16 = refl
kind_back kind.I32 = refl
kind_back kind.I64 = refl
kind_back kind.F32 = refl
kind_back kind.F64 = refl
kind_back kind.F16 = refl

-- kinds with one number are one kind
pub number_injective : (j k : Kind) → kind_number j ≡ kind_number k → j ≡ k
number_injective j k q = is_same (sym (kind_back j) ∙ ap kind_at q ∙ kind_back k)
  where
    is_same : Some j ≡ Some k → j ≡ k
    is_same h = cc
