-- The laws of lists of fields, each by one induction from the law of one field.
use Prim.Native.Nat.{zero, suc}
use mathlib.Core.Path.{◌≡◌, refl, sym, ap}
use mathlib.Core.Logic.{◌⊎◌, inl, inr}
use mathlib.Core.List.{List, [], ◌∷◌}
use native.Mathlib.Omega.{arith}
use Rattle.float.specs.declared.Order.{Order}
use Rattle.float.specs.declared.Order.TheVariants.{Less, Equal, Greater, Unordered}
use Rattle.float.specs.Order.{order_of, or_else}
use Rattle.float.proofs.Tests.{clash}
use Rattle.float.proofs.Turned.{turned, turn}
use Rattle.float.proofs.Transitive.{less_trans}
use Rattle.float.proofs.SameNumber.{equal_same, equal_else}
use Rattle.value.specs.declared.Value.{Value}
use Rattle.value.specs.Kinds.{kind_of}
use Rattle.value.specs.Meaning.{number_of}
use Rattle.cmp.specs.Compare.{value_order}
use Rattle.cmp.proofs.Given.{compared_order, order_compared}
use Rattle.record.specs.declared.Field.{Field}
use Rattle.record.specs.Record.{field_for, kinds_of}
use Rattle.lexical.specs.Lexical.{lexical_of}
use Rattle.laws_cmp.specs.Laws.{AllIntegers, AllEqual, OneIntegerKind}
use Rattle.laws_cmp.proofs.Integers.{integers_linear_order}

-- ---- the first order that is not Equal

turned_else : (o p : Order) → or_else (turned o) (turned p) ≡ turned (or_else o p)
turned_else Less p = refl
turned_else Equal p = refl
turned_else Greater p = refl
turned_else Unordered p = refl

less_else : (o p : Order) → or_else o p ≡ Less → (o ≡ Less) ⊎ ((o ≡ Equal) × (p ≡ Less))
less_else Less p h = inl refl
less_else Equal p h = inr (refl, h)
less_else Greater p h = inl h
less_else Unordered p h = inl h

-- ---- Equal exactly when every field is

pub every_equal : (xs ys : List Field) → kinds_of xs ≡ kinds_of ys → lexical_of xs ys ≡ Equal → AllEqual xs ys
unfolding lexical_of
every_equal [] ys s h i l = absurd (omega arith)
every_equal (x ∷ xs) [] s h i l = clash cc
every_equal (x ∷ xs) (y ∷ ys) s h zero l =
    order_compared x.value y.value Equal (cc) (equal_else (value_order x.value y.value) (lexical_of xs ys) h).0
every_equal (x ∷ xs) (y ∷ ys) s h (suc i) l =
    every_equal xs ys (cc) (equal_else (value_order x.value y.value) (lexical_of xs ys) h).1 i (omega arith)

pub equal_every : (xs ys : List Field) → AllEqual xs ys → lexical_of xs ys ≡ Equal
unfolding lexical_of
equal_every [] ys t = refl
equal_every (x ∷ xs) [] t = refl
equal_every (x ∷ xs) (y ∷ ys) t =
    rw (compared_order x.value y.value Equal (t 0 (omega arith))).1 (equal_every xs ys (λ i l. t (suc i) (omega arith)))

-- ---- turned round

pub turned_fields : (xs ys : List Field) → lexical_of ys xs ≡ turned (lexical_of xs ys)
unfolding lexical_of
turned_fields [] [] = refl
turned_fields [] (y ∷ ys) = refl
turned_fields (x ∷ xs) [] = refl
turned_fields (x ∷ xs) (y ∷ ys) =
    rw (turn (number_of x.value) (number_of y.value), turned_fields xs ys) (turned_else (value_order x.value y.value) (lexical_of xs ys))

-- ---- transitive

-- a field that is Equal to another compares as it does
equal_left : (u v w : Value) → value_order u v ≡ Equal → value_order u w ≡ value_order v w
equal_left u v w h = ap (λ n. order_of n (number_of w)) (equal_same (number_of u) (number_of v) h)

equal_right : (u v w : Value) → value_order v w ≡ Equal → value_order u w ≡ value_order u v
equal_right u v w h = ap (order_of (number_of u)) (sym (equal_same (number_of v) (number_of w) h))

module _ (u v w : Value) {p q r : Order} where
  less_step : (p ≡ Less → q ≡ Less → r ≡ Less) → or_else (value_order u v) p ≡ Less → or_else (value_order v w) q ≡ Less → or_else (value_order u w) r ≡ Less
  less_step rest h k = elim (less_else (value_order u v) p h) [
    | inl e ↦ elim (less_else (value_order v w) q k) [
      | inl f ↦ rw (less_trans (number_of u) (number_of v) (number_of w) e f)
      | inr f ↦ rw (equal_right u v w f.0, e)
    ]
    | inr e ↦ elim (less_else (value_order v w) q k) [
      | inl f ↦ rw (equal_left u v w e.0, f)
      | inr f ↦ rw (equal_left u v w e.0, f.0) (rest e.1 f.1)
    ]
  ]

  equal_step : (p ≡ Equal → q ≡ Equal → r ≡ Equal) → or_else (value_order u v) p ≡ Equal →
      or_else (value_order v w) q ≡ Equal → or_else (value_order u w) r ≡ Equal
  equal_step rest h k =
      let e = equal_else (value_order u v) p h in
      let f = equal_else (value_order v w) q k in
      rw (equal_left u v w e.0, f.0) (rest e.1 f.1)

pub fields_less_trans : (xs ys zs : List Field) → lexical_of xs ys ≡ Less → lexical_of ys zs ≡ Less → lexical_of xs zs ≡ Less
unfolding lexical_of
fields_less_trans [] ys zs h k = cc
fields_less_trans (x ∷ xs) [] zs h k = cc
fields_less_trans (x ∷ xs) (y ∷ ys) [] h k = cc
fields_less_trans (x ∷ xs) (y ∷ ys) (z ∷ zs) h k = less_step x.value y.value z.value (fields_less_trans xs ys zs) h k

pub fields_equal_trans : (xs ys zs : List Field) → kinds_of xs ≡ kinds_of ys → lexical_of xs ys ≡ Equal → lexical_of ys zs ≡ Equal → lexical_of xs zs ≡ Equal
unfolding lexical_of
fields_equal_trans [] ys zs s h k = refl
fields_equal_trans (x ∷ xs) [] zs s h k = cc
fields_equal_trans (x ∷ xs) (y ∷ ys) [] s h k = refl
fields_equal_trans (x ∷ xs) (y ∷ ys) (z ∷ zs) s h k = equal_step x.value y.value z.value (fields_equal_trans xs ys zs (cc)) h k

-- ---- integers: always ordered, and Equal only for the same

abbrev Answered : Order → Type 0
Answered o = (o ≡ Less) ⊎ ((o ≡ Equal) ⊎ (o ≡ Greater))

answered_else : (o p : Order) → Answered o → Answered p → Answered (or_else o p)
answered_else Less p d e = inl refl
answered_else Equal p d e = e
answered_else Greater p d e = inr (inr refl)
answered_else Unordered p d e = d

module _ (x y : Value) (k : OneIntegerKind x y) where
  integer_answered : Answered (value_order x y)
  integer_answered = elim (integers_linear_order.ordered x y k) [
    | inl h ↦ inl (compared_order x y Less h).1
    | inr (inl h) ↦ inr (inl (compared_order x y Equal h).1)
    | inr (inr h) ↦ inr (inr (compared_order x y Greater h).1)
  ]

pub fields_ordered : (xs ys : List Field) → kinds_of xs ≡ kinds_of ys → AllIntegers xs → Answered (lexical_of xs ys)
unfolding lexical_of
fields_ordered [] ys s t = inr (inl refl)
fields_ordered (x ∷ xs) [] s t = inr (inl refl)
fields_ordered (x ∷ xs) (y ∷ ys) s t =
    answered_else (value_order x.value y.value) (lexical_of xs ys) (integer_answered x.value y.value (t.0, cc)) (fields_ordered xs ys (cc) t.1)

pub fields_equal : (xs : List Field) → AllIntegers xs → lexical_of xs xs ≡ Equal
unfolding lexical_of
fields_equal [] t = refl
fields_equal (x ∷ xs) t =
    rw ((compared_order x.value x.value Equal (integers_linear_order.reflexive x.value (t.0, refl))).1, fields_equal xs t.1)

pub equal_fields : (xs ys : List Field) → kinds_of xs ≡ kinds_of ys → AllIntegers xs → lexical_of xs ys ≡ Equal → xs ≡ ys
unfolding lexical_of
equal_fields [] [] s t h = refl
equal_fields [] (y ∷ ys) s t h = cc
equal_fields (x ∷ xs) [] s t h = cc
equal_fields (x ∷ xs) (y ∷ ys) s t h =
    let e = equal_else (value_order x.value y.value) (lexical_of xs ys) h in
    let k : kind_of x.value ≡ kind_of y.value = cc in
    let v = integers_linear_order.equal_same x.value y.value (t.0, k) (order_compared x.value y.value Equal k e.0) in
    let first : x ≡ y = ap field_for v in
    cc (first, equal_fields xs ys (cc) t.1 e.1)
