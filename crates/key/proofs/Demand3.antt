-- Demand 3, of records and shapes of 1 to 12 fields: a record's key is its fields' keys, so what holds of the fields holds of the record.
use mathlib.Core.Path.{◌≡◌, refl, sym, ap, ◌∙◌, subst}
use mathlib.Core.Logic.{◌↔◌}
use mathlib.Core.Bool.{false, not}
use mathlib.Core.List.{List, ◌++◌}
use Prim.Native.Nat.{ℕ, zero, suc, ◌-◌, ◌≤◌, ◌<◌}
use native.Mathlib.Omega.{arith}
use borrow.Author.Tests.{eq-eqb, ne_eqb, le-ltb, eqb-true, eqb-false, ltb-false, not-false}
use lib.Dec.{eqb, ltb}
use lib.ListN.{length, take, drop, get_or, replicate, length-append, length-replicate, length-map}
use lib.Seq.{take_at, length-take-le}
use Rattle.float.specs.declared.Order.TheVariants.{Equal}
use Rattle.float.specs.Order.{order_n}
use Rattle.float.proofs.Tests.{neither}
use Rattle.value.specs.declared.Kind.{Kind}
use Rattle.value.specs.declared.Value.TheVariants.{U8}
use Rattle.value.specs.Kinds.{kind_of}
use Rattle.value.specs.Outcome.{Outcome, gives, mapped, lent_after}
use Rattle.value.specs.Rules.{chain, each_of}
use Rattle.value.proofs.Outcomes.{refuse_passes, mapped_gives}
use Rattle.record.specs.declared.Field.{Field}
use Rattle.record.specs.declared.Place.{Place}
use Rattle.record.specs.declared.Record.{Record}
use Rattle.record.specs.declared.Shape.{Shape}
use Rattle.record.specs.Record.{field_for, fields_of, bad_count, kinds_in, kinds_of, record_of}
use Rattle.lexical.specs.Lexical.{lexical_of, compare_of}
use Rattle.lexical.proofs.Given.{kinds_shape}
use Rattle.key.specs.Key.{key_of, nan_rules, write_of, write_exit, bytes_in, read_of}
use Rattle.key.specs.Inner.{read_fields}
use Rattle.bytewise.specs.Order.{bytes_order}
use Rattle.bytewise.specs.Numbers.{Bytes}
use Rattle.key.specs.Keyed.{AllKeyed, none, more, normal_record, record_key, Usable, OfShape}
use Rattle.key.proofs.Passing.{read_by}
use Rattle.bytewise.proofs.BigEndian.{first_difference}
use Rattle.key.proofs.FieldLists.{keys_order_lem, same_keys, key_length_lem, key_bytes, read_written, FieldsFor, written_read}

-- ---- counts and lengths

good_count : (n : ℕ) → 0 < n → n ≤ 12 → bad_count n ≡ false
good_count n h k = simp (ne_eqb n 0 (λ q. omega arith), le-ltb 12 n k)

positive : (n : ℕ) → (n ≡ 0 → ⊥) → 0 < n
positive zero h = absurd (h refl)
positive (suc n) h = omega arith

pub count_good : (n : ℕ) → bad_count n ≡ false → (0 < n) × (n ≤ 12)
count_good n h =
    let b = neither (eqb n 0) (ltb 12 n) h in
    (positive n (eqb-false n 0 b.0), ltb-false 12 n b.1)

shape_length : (s : Shape) → Usable s → length (kinds_in s) ≡ s.count
shape_length s u = length-map (take s.count s.places) (λ (p : Place). p.kind) ∙ length-take-le s.count s.places (omega (arith, u.few, u.places))

pub record_count : (s : Shape) (r : Record) → Usable s → OfShape s r → bad_count r.count ≡ false
record_count s r u h = ap bad_count h.count_is ∙ good_count s.count u.some u.few

-- the length of a key follows from the shape
pub record_length : (s : Shape) (r : Record) → OfShape s r → length (record_key r) ≡ bytes_in (kinds_in s)
record_length s r h = key_length_lem (fields_of r) ∙ ap bytes_in h.kinds_are

-- ---- the order

module _ (s : Shape) (a b : Record) (u : Usable s) (h : OfShape s a) (k : OfShape s b) where
  -- the records compare as their keys do, at the first byte that differs
  pub records_order_lem : compare_of a b ≡ gives (bytes_order (record_key a) (record_key b))
  unfolding compare_of
  records_order_lem =
      let q : kinds_of (fields_of a) ≡ kinds_of (fields_of b) = h.kinds_are ∙ sym k.kinds_are in
      rw (record_count s a u h, record_count s b u k, kinds_shape (fields_of a) (fields_of b) q) (ap gives (sym (keys_order_lem h.keyed k.keyed q)))

  -- the same bytes exactly when they compare Equal
  pub same_key : (record_key a ≡ record_key b) ↔ (compare_of a b ≡ gives Equal)
  same_key =
      let both = same_keys h.keyed k.keyed (h.kinds_are ∙ sym k.kinds_are) in
      let is : compare_of a b ≡ gives (lexical_of (fields_of a) (fields_of b)) =
      records_order_lem ∙ ap gives (keys_order_lem h.keyed k.keyed (h.kinds_are ∙ sym k.kinds_are)) in
      ((λ e. is ∙ ap gives (both.0 e)), λ e. let q : gives (lexical_of (fields_of a) (fields_of b)) ≡ gives Equal = sym is ∙ e in both.1 cc)

  -- else the first byte that differs orders them as the records are ordered
  pub first_byte : (record_key a ≡ record_key b → ⊥)
      → (i : ℕ) × (i < length (record_key a)) × (take i (record_key a) ≡ take i (record_key b)) × (get_or (record_key a) i 0 ≡ get_or (record_key b) i 0 → ⊥)
      × (compare_of a b ≡ gives (order_n (get_or (record_key a) i 0) (get_or (record_key b) i 0)))
  first_byte d =
      let f = first_difference (record_key a) (record_key b) (record_length s a h ∙ sym (record_length s b k)) d in
      (f.0, f.1, f.2, f.3, records_order_lem ∙ ap gives f.4)

-- ---- writing

some_numbers : {A : Type 0} (at : ℕ) {xs : List Field} (next : Outcome A) → AllKeyed xs → chain (nan_rules at xs) next ≡ next
unfolding each_of
some_numbers at next none = refl
some_numbers at next (more x xs h a) = rw h.some_number (some_numbers (suc at) next a)

module _ (s : Shape) (r : Record) (u : Usable s) (h : OfShape s r) (old : List ℕ) (room : length (record_key r) ≤ length old) where
  pub written : write_of r (length old) ≡ gives (length (record_key r))
  unfolding write_of
  written = rw (record_count s r u h, le-ltb (length old) (length (record_key r)) room) (some_numbers 0 (gives (length (record_key r))) h.keyed)

  pub buffer_written : write_exit r old ≡ record_key r ++ drop (length (record_key r)) old
  unfolding write_exit
  buffer_written = ap (λ (o : Outcome ℕ). lent_after (λ n. record_key r) o old) written

-- ---- reading the key of a record gives it with minus zero made plus zero and unused places reset

module _ (s : Shape) (u : Usable s) where
  read_fields_lem : (key : List ℕ) → length key ≡ bytes_in (kinds_in s) → read_of s key ≡ mapped record_of (read_fields 0 (kinds_in s) key)
  read_fields_lem key l = read_by s key ∙ rw (good_count s.count u.some u.few, eq-eqb (length key) (bytes_in (kinds_in s)) l)

  pub read_of_written : (r : Record) → OfShape s r → read_of s (record_key r) ≡ gives (normal_record r)
  read_of_written r h =
      read_fields_lem (record_key r) (record_length s r h)
      ∙ ap (λ (ks : List Kind). mapped record_of (read_fields 0 ks (record_key r))) (sym h.kinds_are)
      ∙ ap (mapped record_of) (read_written 0 h.keyed)

-- ---- a record that was read is of the shape, and has the key that was read

-- what is read where no rule held
record Accepted (s : Shape) (key : List ℕ) (r : Record) : Type 0 where
  counts : (0 < s.count) × (s.count ≤ 12)
  long : length key ≡ bytes_in (kinds_in s)
  fields : List Field
  read : read_fields 0 (kinds_in s) key ≡ gives fields
  record_is : record_of fields ≡ r

accepted : (s : Shape) (key : List ℕ) (r : Record) → read_of s key ≡ gives r → Accepted s key r
accepted s key r e =
    let c = refuse_passes (bad_count s.count) 11 0 _ r (sym (read_by s key) ∙ e) in
    let l = refuse_passes (not (eqb (length key) (bytes_in (kinds_in s)))) 9 0 _ r c.1 in
    let m = mapped_gives record_of (read_fields 0 (kinds_in s) key) l.1 in
    record { counts = count_good s.count c.0; long = eqb-true _ _ (not-false _ l.0); fields = m.0; read = m.1; record_is = m.2 }

-- the fields that count of the record that is made of some
pub made_fields : (fs : List Field) → fields_of (record_of fs) ≡ fs
made_fields fs = take_at fs (replicate (12 - length fs) (field_for (U8 0))) (length fs) refl

pub made_places : (fs : List Field) → length fs ≤ 12 → length (record_of fs).fields ≡ 12
made_places fs h = length-append fs (replicate (12 - length fs) (field_for (U8 0))) ∙ rw (length-replicate (12 - length fs) (field_for (U8 0))) (omega arith)

made_of_shape : (s : Shape) (key : List ℕ) (fs : List Field) → Usable s → FieldsFor (kinds_in s) key fs
    → OfShape s (record_of fs) × (record_key (record_of fs) ≡ key)
made_of_shape s key fs u w =
    let n : length fs ≡ s.count = sym (length-map fs (λ (f : Field). kind_of f.value)) ∙ ap length w.kinds_are ∙ shape_length s u in (
      record {
        places = made_places fs (omega (arith, u.few));
        count_is = n;
        kinds_are = ap kinds_of (made_fields fs) ∙ w.kinds_are;
        keyed = subst AllKeyed (sym (made_fields fs)) w.keyed;
      },
      ap key_of (made_fields fs) ∙ w.key_is,
    )

module _ (s : Shape) (places : length s.places ≡ 12) (key : List ℕ) (b : Bytes key) (r : Record) (e : read_of s key ≡ gives r) where
  pub read_usable : Usable s
  read_usable = let a = accepted s key r e in record { some = a.counts.0; few = a.counts.1; places = places }

  pub written_of_read : OfShape s r × (record_key r ≡ key)
  written_of_read =
      let a = accepted s key r e in
      subst (λ (q : Record). OfShape s q × (record_key q ≡ key)) a.record_is
      (made_of_shape s key a.fields read_usable (written_read 0 (kinds_in s) key b a.long a.fields a.read))

  -- writing it again gives the same bytes
  module _ (old : List ℕ) (room : length key ≤ length old) where
    room_again : length (record_key r) ≤ length old
    room_again = rw written_of_read.1 room

    pub written_again : write_of r (length old) ≡ gives (length key)
    written_again = written s r read_usable written_of_read.0 old room_again ∙ ap (λ (k : List ℕ). gives (length k)) written_of_read.1

    pub buffer_again : write_exit r old ≡ key ++ drop (length key) old
    buffer_again = buffer_written s r read_usable written_of_read.0 old room_again ∙ ap (λ (k : List ℕ). k ++ drop (length k) old) written_of_read.1

-- ---- a byte string is accepted exactly when some record of the shape has it as its key

pub accepted_exactly : (s : Shape) (key : List ℕ) → Usable s → Bytes key
    → ((r : Record) × (read_of s key ≡ gives r)) ↔ ((r : Record) × OfShape s r × (record_key r ≡ key))
accepted_exactly s key u b = (
  (λ t. let w = written_of_read s u.places key b t.0 t.1 in (t.0, w.0, w.1)),
  λ t. (normal_record t.0, ap (read_of s) (sym t.2) ∙ read_of_written s u t.0 t.1),
)

-- no two strings are read as the same record
pub read_same : (s : Shape) (a b : List ℕ) → length s.places ≡ 12 → Bytes a → Bytes b → (r : Record) → read_of s a ≡ gives r → read_of s b ≡ gives r → a ≡ b
read_same s a b places h k r p q = sym (written_of_read s places a h r p).1 ∙ (written_of_read s places b k r q).1

-- ---- what reading gives for a record compares Equal with it

pub normal_equal : (s : Shape) (r : Record) → Usable s → OfShape s r → compare_of r (normal_record r) ≡ gives Equal
normal_equal s r u h =
    let w = written_of_read s u.places (record_key r) (key_bytes (fields_of r)) (normal_record r) (read_of_written s u r h) in
    (same_key s r (normal_record r) u h w.0).0 (sym w.1)
