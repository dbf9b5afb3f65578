-- The first field that is not Equal decides. Going along both lists, each field that is Equal leaves the question to the ones behind it; so two lists of
-- the same kinds have one that decides, or none and every field is Equal.
use Prim.Native.Nat.{ℕ, zero, suc, ◌<◌}
use mathlib.Core.Path.{◌≡◌, refl, ap}
use mathlib.Core.Bool.{false}
use mathlib.Core.Logic.{◌⊎◌, inl, inr}
use mathlib.Core.List.{List, [], ◌∷◌}
use native.Mathlib.Omega.{arith}
use Rattle.float.specs.declared.Order.{Order}
use Rattle.float.specs.declared.Order.TheVariants.{Less, Equal, Greater, Unordered}
use Rattle.float.specs.Order.{or_else, is_equal}
use Rattle.float.proofs.Tests.{clash}
use Rattle.value.specs.Outcome.{gives}
use Rattle.cmp.specs.Compare.{value_order, compare_of}
use Rattle.cmp.proofs.Given.{compared_order, order_compared}
use Rattle.record.specs.declared.Field.{Field}
use Rattle.record.specs.Record.{kinds_of}
use Rattle.lexical.specs.Lexical.{lexical_of, deciding_of}
use Rattle.laws_cmp.specs.Laws.{field_order, AllEqual, DecidesAt}

-- an order that is not Equal is the first such
first_else : (o p : Order) → (o ≡ Equal → ⊥) → or_else o p ≡ o
first_else Less p h = refl
first_else Equal p h = absurd (h refl)
first_else Greater p h = refl
first_else Unordered p h = refl

not_equal_test : (o : Order) → (o ≡ Equal → ⊥) → is_equal o ≡ false
not_equal_test Less h = refl
not_equal_test Equal h = absurd (h refl)
not_equal_test Greater h = refl
not_equal_test Unordered h = refl

-- every field is Equal, or one decides
abbrev Decided : List Field → List Field → Type 0
Decided xs ys = (AllEqual xs ys) ⊎ ((i : ℕ) × (o : Order) × DecidesAt i xs ys o)

-- ---- one more field in front

module _ (x y : Field) (xs ys : List Field) where
  equal_front : {n : ℕ} → compare_of x.value y.value ≡ gives Equal → ((j : ℕ) → j < n → field_order xs ys j ≡ gives Equal)
      → (j : ℕ) → j < suc n → field_order (x ∷ xs) (y ∷ ys) j ≡ gives Equal
  equal_front e f zero l = e
  equal_front e f (suc j) l = f j (omega arith)

  -- the field that decides, counted from the second field on, and from the first
  behind : {i : ℕ} {o : Order} → DecidesAt (suc i) (x ∷ xs) (y ∷ ys) o → DecidesAt i xs ys o
  behind d = record {
    in_first = omega (arith, d.in_first);
    in_second = omega (arith, d.in_second);
    equal_before = λ j l. d.equal_before (suc j) (omega arith);
    decides = d.decides;
    not_equal = d.not_equal;
  }

  further : {i : ℕ} {o : Order} → compare_of x.value y.value ≡ gives Equal → DecidesAt i xs ys o → DecidesAt (suc i) (x ∷ xs) (y ∷ ys) o
  further e d = record {
    in_first = omega (arith, d.in_first);
    in_second = omega (arith, d.in_second);
    equal_before = equal_front e d.equal_before;
    decides = d.decides;
    not_equal = d.not_equal;
  }

  first_decides : (o : Order) → (o ≡ Equal → ⊥) → compare_of x.value y.value ≡ gives o → Decided (x ∷ xs) (y ∷ ys)
  first_decides o n h = inr (
    0,
    o,
    record {
      in_first = omega arith;
      in_second = omega arith;
      equal_before = λ j l. absurd (omega arith);
      decides = h;
      not_equal = n;
    },
  )

  one_more : (o : Order) → compare_of x.value y.value ≡ gives o → Decided xs ys → Decided (x ∷ xs) (y ∷ ys)
  one_more Less h rest = first_decides Less (λ q. clash cc) h
  one_more Equal h (inl e) = inl (equal_front h e)
  one_more Equal h (inr d) = inr (suc d.0, d.1, further h d.2)
  one_more Greater h rest = first_decides Greater (λ q. clash cc) h
  one_more Unordered h rest = first_decides Unordered (λ q. clash cc) h

-- ---- the order and the index are those of the field that decides

pub decides_order : (xs ys : List Field) (i : ℕ) (o : Order) → DecidesAt i xs ys o → lexical_of xs ys ≡ o
unfolding lexical_of
decides_order [] ys i o d = absurd (omega (arith, d.in_first))
decides_order (x ∷ xs) [] i o d = absurd (omega (arith, d.in_second))
decides_order (x ∷ xs) (y ∷ ys) zero o d = rw (compared_order x.value y.value o d.decides).1 (first_else o (lexical_of xs ys) d.not_equal)
decides_order (x ∷ xs) (y ∷ ys) (suc i) o d =
    rw (compared_order x.value y.value Equal (d.equal_before 0 (omega arith))).1 (decides_order xs ys i o (behind x y xs ys d))

pub decides_index : (xs ys : List Field) (i : ℕ) (o : Order) → DecidesAt i xs ys o → deciding_of xs ys ≡ i
unfolding deciding_of
decides_index [] ys i o d = absurd (omega (arith, d.in_first))
decides_index (x ∷ xs) [] i o d = absurd (omega (arith, d.in_second))
decides_index (x ∷ xs) (y ∷ ys) zero o d = rw ((compared_order x.value y.value o d.decides).1, not_equal_test o d.not_equal)
decides_index (x ∷ xs) (y ∷ ys) (suc i) o d =
    rw (compared_order x.value y.value Equal (d.equal_before 0 (omega arith))).1 (ap suc (decides_index xs ys i o (behind x y xs ys d)))

-- ---- there is one, or every field is Equal

pub some_decides : (xs ys : List Field) → kinds_of xs ≡ kinds_of ys → Decided xs ys
some_decides [] ys s = inl (λ i l. absurd (omega arith))
some_decides (x ∷ xs) [] s = clash cc
some_decides (x ∷ xs) (y ∷ ys) s =
    one_more x y xs ys (value_order x.value y.value) (order_compared x.value y.value _ (cc) refl) (some_decides xs ys (cc))
