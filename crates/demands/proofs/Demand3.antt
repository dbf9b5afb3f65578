-- Demand 3, from the laws of keys. What a program holds meets its premises, and two records that compare have one shape: so it holds of these too.
use Prim.Native.Nat.{ℕ, ◌<◌}
use mathlib.Core.Path.{◌≡◌, sym, ◌∙◌, refl, ap, subst}
use mathlib.Core.Bool.{false}
use Rattle.float.specs.declared.Order.{Order}
use Rattle.value.specs.Outcome.{gives}
use Rattle.record.specs.declared.Record.{Record}
use Rattle.record.specs.declared.Shape.{Shape}
use Rattle.record.specs.Record.{fields_of, bad_count}
use Rattle.record.proofs.Owned.{record_held, shape_held}
use Rattle.lexical.specs.Lexical.{lexical_of, compare_of}
use Rattle.lexical.proofs.Given.{compared_records, records_compared}
use Rattle.lexical.proofs.OneKind.{given_same}
use Rattle.laws_cmp.specs.Laws.{OneShape}
use Rattle.key.specs.Keyed.{NoNan, Usable, OfShape, record_key}
use Rattle.key.specs.Held.{HeldRecord}
use Rattle.key.proofs.FieldLists.{key_bytes}
use Rattle.key.proofs.Demand3.{record_count, record_length, same_key, first_byte, written, buffer_written, read_of_written, written_of_read}
use Rattle.key.proofs.Demand3.{accepted_exactly, read_same}
use Rattle.key.proofs.Held.{bytes_held, usable_held, of_shape_held, own_shape_held, shapes_same, alike_held, of_shape_numbers, read_held}
use Rattle.demands.specs.Demand3.{DifferAt, Held, OfHeld, Demand3}

-- ---- the premises

of_one_shape : (s : Shape) (a b : Record) → Usable s → OfShape s a → OfShape s b → OneShape a b
of_one_shape s a b u h k = (record_count s a u h, record_count s b u k, h.kinds_are ∙ sym k.kinds_are)

held : Held
held = record {
  records = record_held;
  shapes = shape_held;
  bytes = bytes_held;
  usable = usable_held;
  of_shape = of_shape_held;
  own_shape = own_shape_held;
  compared = λ a b. (
    (λ t. let c = compared_records a b t.0 t.1 in (c.0, c.1, c.2)),
    λ c. (lexical_of (fields_of a) (fields_of b), records_compared a b _ c.0 c.1 c.2 refl),
  );
  one_shape = shapes_same;
  shared_shape = λ s u a b h held no_nan. (
    (λ c. alike_held s a b c.0 c.1 c.2 h held no_nan),
    λ k. of_one_shape s a b u h k,
  );
}

-- ---- the first differing byte

differ_at : (s : Shape) (a b : Record) (u : Usable s) (h : OfShape s a) (k : OfShape s b) (d : record_key a ≡ record_key b → ⊥)
    → DifferAt (first_byte s a b u h k d).0 (record_key a) (record_key b)
differ_at s a b u h k d =
    let f = first_byte s a b u h k d in
    let other = subst (λ (n : ℕ). f.0 < n) (record_length s a h ∙ sym (record_length s b k)) f.1 in
    record { inside = f.1; inside_other = other; same_before = f.2; differ = f.3 }

-- ---- what a program holds

-- a record of 1 to 12 fields, and its shape
own_shape : (r : Record) → HeldRecord r → NoNan r → bad_count r.count ≡ false → (s : Shape) × Usable s × OfShape s r
own_shape r h n good =
    let s = (shapes_same r r).0 (good, good, refl) in
    let o = own_shape_held r h n s.0 s.1 in
    (s.0, o.0, o.1)

-- two that compare, and the shape that they share
shared_shape : (a b : Record) → HeldRecord a → HeldRecord b → NoNan a → NoNan b → (o : Order) → compare_of a b ≡ gives o
    → (s : Shape) × Usable s × OfShape s a × OfShape s b
shared_shape a b ha hb na nb o e =
    let c = compared_records a b o e in
    let s = own_shape a ha na c.0 in
    (s.0, s.1, s.2, alike_held s.0 a b c.0 c.1 c.2 s.2 hb nb)

of_held : OfHeld
of_held = record {
  written = λ r h n good buffer room.
      let s = own_shape r h n good in
      (written s.0 r s.1 s.2 buffer room, buffer_written s.0 r s.1 s.2 buffer room);
  same_bytes = λ a b ha hb na nb o e.
      let s = shared_shape a b ha hb na nb o e in
      let same = same_key s.0 a b s.1 s.2 s.3 in
      ((λ q. given_same (sym e ∙ same.0 q)), λ q. same.1 (e ∙ ap gives q));
  first_byte = λ a b ha hb na nb o e d.
      let s = shared_shape a b ha hb na nb o e in
      let f = first_byte s.0 a b s.1 s.2 s.3 d in
      (f.0, differ_at s.0 a b s.1 s.2 s.3 d, given_same (sym e ∙ f.4));
  accepted_exactly = λ s held good key lent.
      let u = usable_held s held good in
      let b = (bytes_held key).0 lent in (
        (λ t.
            let w = written_of_read s u.places key b t.0 t.1 in
            (t.0, read_held s u key b t.0 t.1, of_shape_numbers s t.0 w.0, (w.0.count_is, w.0.kinds_are), w.1)),
        λ t. (accepted_exactly s key u b).1 (t.0, of_shape_held t.0 t.1 t.2 s t.3, t.4),
      );
  read_normal = λ s held good r h n has. read_of_written s (usable_held s held good) r (of_shape_held r h n s has);
  same_again = λ r h n good.
      let s = own_shape r h n good in
      let normal = read_of_written s.0 s.1 r s.2 in
      let w = written_of_read s.0 s.1.places _ (key_bytes _) _ normal in
      (read_held s.0 s.1 _ (key_bytes _) _ normal, of_shape_numbers s.0 _ w.0, of_one_shape s.0 r _ s.1 s.2 w.0, w.1);
  read_once = λ s held k l h i r p q. read_same s k l ((shape_held s).0 held).0 ((bytes_held k).0 h) ((bytes_held l).0 i) r p q;
}

-- ---- the demand

pub demand_3 : Demand3
demand_3 = record {
  held = held;
  of_held = of_held;
  written = λ s u r h buffer room. (written s r u h buffer room, buffer_written s r u h buffer room);
  same_bytes = λ s u a b h k. same_key s a b u h k;
  first_byte = λ s u a b h k d. let f = first_byte s a b u h k d in (f.0, differ_at s a b u h k d, f.4);
  accepted_exactly = λ s u key b. accepted_exactly s key u b;
  read_normal = λ s u r h. read_of_written s u r h;
  same_again = λ s u r h. written_of_read s u.places _ (key_bytes _) _ (read_of_written s u r h);
  read_once = λ s u k l h i r p q. read_same s k l u.places h i r p q;
}
