-- Whether fields have one shape: their number, then the kinds field by field.
use Prim.Native.Nat.{suc, ◌≤◌}
use mathlib.Core.Path.{◌≡◌, refl, sym, ◌∙◌, ap}
use mathlib.Core.Bool.{Bool, true, false, not, ◌||◌}
use mathlib.Core.List.{List, [], ◌∷◌}
use native.Mathlib.Omega.{arith}
use lib.Dec.{eqb}
use lib.ListN.{length}
use lib.Seq.{length-take-le}
use borrow.Author.Tests.{ne_eqb}
use Rattle.std.specs.List.{list_any, zip}
use Rattle.float.proofs.Tests.{neither}
use Rattle.cmp.specs.Compare.{kinds_differ}
use Rattle.record.specs.declared.Field.{Field}
use Rattle.record.specs.declared.Record.{Record}
use Rattle.record.specs.Record.{fields_of}
use Rattle.record.proofs.Twelve.{Twelve}
use Rattle.lexical.specs.Lexical.{shapes_differ}

pub same_lengths : (xs ys : List Field) → shapes_differ xs ys ≡ false → length xs ≡ length ys
unfolding shapes_differ
same_lengths [] [] h = refl
same_lengths [] (y ∷ ys) h = cc
same_lengths (x ∷ xs) [] h = cc
same_lengths (x ∷ xs) (y ∷ ys) h = ap suc (same_lengths xs ys (neither (kinds_differ x.value y.value) _ h).1)

otherwise_true : (t : Bool) → (t ≡ false → ⊥) → true ≡ t
otherwise_true true h = refl
otherwise_true false h = absurd (h refl)

pub by_length : (xs ys : List Field) → (length xs ≡ length ys → ⊥) → not (eqb (length xs) (length ys)) ≡ shapes_differ xs ys
by_length xs ys n =
    rw (ne_eqb (length xs) (length ys) n) (otherwise_true (shapes_differ xs ys) (λ s. n (same_lengths xs ys s)))

pub by_kinds : (xs ys : List Field) → length xs ≡ length ys
    → list_any (λ (p : Field × Field). kinds_differ p.0.value p.1.value) (zip xs ys) ≡ shapes_differ xs ys
unfolding shapes_differ
by_kinds [] [] e = refl
by_kinds [] (y ∷ ys) e = absurd (omega arith)
by_kinds (x ∷ xs) [] e = absurd (omega arith)
by_kinds (x ∷ xs) (y ∷ ys) e = ap (λ t. kinds_differ x.value y.value || t) (by_kinds xs ys (omega arith))

-- two records of one shape count the same
pub one_count : (a b : Record) → Twelve a → Twelve b → a.count ≤ 12 → b.count ≤ 12 → shapes_differ (fields_of a) (fields_of b) ≡ false → a.count ≡ b.count
one_count a b ta tb ha hb s =
    sym (length-take-le a.count a.fields (omega arith)) ∙ same_lengths (fields_of a) (fields_of b) s ∙ length-take-le b.count b.fields (omega arith)
