-- The comparison of records is a partial order on records of any one shape, and a linear one when every field is an integer.
use mathlib.Core.Path.{◌≡◌, refl, sym, ◌∙◌, ap}
use mathlib.Core.List.{[], ◌∷◌}
use mathlib.Core.Logic.{inl, inr}
use Rattle.float.specs.declared.Order.{Order}
use Rattle.float.specs.declared.Order.TheVariants.{Less, Equal, Greater}
use Rattle.float.proofs.Turned.{turned}
use Rattle.value.specs.declared.Value.TheVariants.{U8}
use Rattle.value.specs.Outcome.{gives}
use Rattle.record.specs.declared.Record.{Record}
use Rattle.record.specs.Record.{field_for, fields_of, record_of}
use Rattle.lexical.specs.Lexical.{lexical_of, compare_of}
use Rattle.lexical.proofs.Given.{compared_records, records_compared}
use Rattle.laws_cmp.specs.Laws.{PartialOrder, LinearOrder, Ordered, OneIntegerShape, SameFields, records_eq}
use Rattle.laws_cmp.proofs.Tests.{eq_exactly}
use Rattle.laws_cmp.proofs.Fields.{turned_fields, fields_less_trans, fields_equal_trans, fields_ordered, fields_equal, equal_fields}

pub turned_records : (a b : Record) (o : Order) → compare_of a b ≡ gives o → compare_of b a ≡ gives (turned o)
turned_records a b o h =
    let c = compared_records a b o h in
    records_compared b a (turned o) c.1 c.0 (sym c.2) (turned_fields (fields_of a) (fields_of b) ∙ ap turned c.3)

less_transitive : (a b c : Record) → compare_of a b ≡ gives Less → compare_of b c ≡ gives Less → compare_of a c ≡ gives Less
less_transitive a b c h k =
    let p = compared_records a b Less h in
    let q = compared_records b c Less k in
    records_compared a c Less p.0 q.1 (p.2 ∙ q.2) (fields_less_trans (fields_of a) (fields_of b) (fields_of c) p.3 q.3)

equal_transitive : (a b c : Record) → compare_of a b ≡ gives Equal → compare_of b c ≡ gives Equal → compare_of a c ≡ gives Equal
equal_transitive a b c h k =
    let p = compared_records a b Equal h in
    let q = compared_records b c Equal k in
    records_compared a c Equal p.0 q.1 (p.2 ∙ q.2) (fields_equal_trans (fields_of a) (fields_of b) (fields_of c) p.2 p.3 q.3)

pub records_partial_order : PartialOrder compare_of records_eq
records_partial_order = record {
  equal_eq = λ a b h. (eq_exactly (compare_of a b)).1 h;
  eq_equal = λ a b h. (eq_exactly (compare_of a b)).0 h;
  less_greater = λ a b h. turned_records a b Less h;
  greater_less = λ a b h. turned_records b a Greater h;
  less_trans = less_transitive;
  greater_trans = λ a b c h k. turned_records c a Less (less_transitive c b a (turned_records b c Greater k) (turned_records a b Greater h));
  eq_symmetric = λ a b h. (eq_exactly (compare_of b a)).1 (turned_records a b Equal ((eq_exactly (compare_of a b)).0 h));
  eq_transitive = λ a b c h k. (eq_exactly (compare_of a c)).1 (equal_transitive a b c ((eq_exactly (compare_of a b)).0 h) ((eq_exactly (compare_of b c)).0 k));
}

-- ---- integers

ordered_records : (a b : Record) → OneIntegerShape a b → Ordered (compare_of a b)
ordered_records a b s =
    let made : (o : Order) → lexical_of (fields_of a) (fields_of b) ≡ o → compare_of a b ≡ gives o = λ o. records_compared a b o s.1.0 s.1.1 s.1.2 in
    elim (fields_ordered (fields_of a) (fields_of b) s.1.2 s.0) [
      | inl h ↦ inl (made Less h)
      | inr (inl h) ↦ inr (inl (made Equal h))
      | inr (inr h) ↦ inr (inr (made Greater h))
    ]

pub integer_records_linear_order : LinearOrder compare_of OneIntegerShape SameFields
integer_records_linear_order = record {
  ordered = ordered_records;
  reflexive = λ a s. records_compared a a Equal s.1.0 s.1.1 s.1.2 (fields_equal (fields_of a) s.0);
  equal_same = λ a b s h. equal_fields (fields_of a) (fields_of b) s.1.2 s.0 (compared_records a b Equal h).3;
  less_greater = records_partial_order.less_greater;
  greater_less = records_partial_order.greater_less;
  less_trans = records_partial_order.less_trans;
}

-- such records exist: one field, a u8
some_record : let one = record_of (field_for (U8 7) ∷ []) in OneIntegerShape one one
some_record = ((tt, tt), (refl, refl, refl))
