-- Demand 3 of the boundary's calls, from that of the library's. Past its own rules the boundary hands on a record of 1 to 12 fields, whose shape
-- is made of the kinds; and what is read is made again of its kinds and bits, so it is such a record.
use Prim.Native.Nat.{ℕ, ◌≤◌}
use native.Mathlib.Omega.{arith}
use mathlib.Core.Path.{◌≡◌, refl, sym, ap, ◌∙◌, subst}
use mathlib.Core.Bool.{true, false, not}
use mathlib.Core.List.{List, [], ◌∷◌, ◌++◌, map}
use borrow.Author.Tests.{eq-eqb, le-ltb, eqb-true, ltb-false, not-false}
use lib.Dec.{eqb, ltb}
use lib.ListN.{length, drop, length-map}
use lib.Ieee.{to_bits, of_bits, of_fields, odd, size, span, climb, is_nan}
use Rattle.float.specs.Format.{abs_of, mag_of}
use Rattle.float.specs.Order.{pattern_of}
use Rattle.value.specs.declared.Value.TheVariants.{U8}
use Rattle.value.specs.Meaning.{float_bits, unit, step_of, value_of}
use Rattle.value.specs.Outcome.{Outcome, gives, done, lent_after}
use Rattle.value.specs.Rules.{chain, each_of}
use Rattle.value.proofs.Outcomes.{refuse_passes, given_fills}
use Rattle.record.specs.declared.Field.{Field}
use Rattle.record.specs.declared.Record.{Record}
use Rattle.record.specs.Record.{field_for, fields_of, bad_count, kinds_of}
use Rattle.bytewise.specs.Numbers.{Bytes, big_endian}
use Rattle.lexical.specs.Lexical.{compare_of}
use Rattle.key.specs.Key.{key_of, nan_rules, write_of, read_of}
use Rattle.key.specs.Keyed.{AllKeyed, normal_fields, normal_record, Usable, OfShape}
use Rattle.value.proofs.Outcomes.{mapped_gives}
use Rattle.key.proofs.Demand3.{count_good, written_of_read, made_fields}
use Rattle.silamogo.specs.Samples.{unnamed, any_unnamed, kind_for, too_wide, first_wide, value_for}
use Rattle.silamogo.specs.Records.{paired_samples, padded, field_in, record_for, shape_for, field_bits, record_bits}
use Rattle.silamogo.specs.Records.{records_order, key_length, key_exit, record_read, read_exit, success_of}
use Rattle.silamogo.proofs.Padding.{padded_length}
use Rattle.silamogo.proofs.Pairs.{pairs_length}
use Rattle.silamogo.proofs.Filling.{shape_places}
use Rattle.demands.specs.BoundaryKeys.{Writable, key_for, plus_zero_bits, plus_zeros, BoundaryKeys}
use Rattle.demands.proofs.Demand3.{demand_3}
use Rattle.demands.proofs.BoundaryFields.{fields_in, kinds_in_lem, fit_even, fit_named, fit_narrow, all_keyed, all_kinds}
use Rattle.demands.proofs.BoundaryFields.{fit_from, all_normal, all_again}

-- ---- the record and the shape that are handed on

usable : (ns : List ℕ) → bad_count (length ns) ≡ false → Usable (shape_for ns)
usable ns count = let c = count_good (length ns) count in record { some = c.0; few = c.1; places = shape_places ns }

module _ (ns bs : List ℕ) (w : Writable ns bs) where
  few : length ns ≤ 12
  few = (count_good (length ns) w.count).1

  same_length : length (paired_samples ns bs) ≡ length ns
  same_length = pairs_length ns bs (fit_even w.fields)

  own_fields : fields_of (record_for (paired_samples ns bs)) ≡ map field_in (paired_samples ns bs)
  own_fields = fields_in (paired_samples ns bs) (omega (arith, few, same_length))

  of_shape : OfShape (shape_for ns) (record_for (paired_samples ns bs))
  of_shape = record {
    places = padded_length (field_for (U8 0)) 12 (map field_in (paired_samples ns bs));
    count_is = same_length;
    kinds_are = ap kinds_of own_fields ∙ all_kinds w.fields ∙ sym (kinds_in_lem ns few);
    keyed = subst AllKeyed (sym own_fields) (all_keyed w.fields);
  }

  -- ---- past the boundary's rules

  even_test : eqb (length ns) (length bs) ≡ true
  even_test = eq-eqb (length ns) (length bs) (fit_even w.fields)

  narrow_test : ltb (first_wide (paired_samples ns bs)) (length (paired_samples ns bs)) ≡ false
  narrow_test = rw (fit_narrow w.fields) (le-ltb (length (paired_samples ns bs)) (length (paired_samples ns bs)) (omega arith))

  write_past : (room : ℕ) → key_length ns bs room ≡ write_of (record_for (paired_samples ns bs)) room
  unfolding key_length
  write_past room = rw (w.count, fit_named w.fields, even_test, narrow_test)

  write_given : (buffer : List ℕ) → length (key_for ns bs) ≤ length buffer → key_length ns bs (length buffer) ≡ gives (length (key_for ns bs))
  write_given buffer room =
      write_past (length buffer)
      ∙ (demand_3.written (shape_for ns) (usable ns w.count) (record_for (paired_samples ns bs)) of_shape buffer room).0

order_past : (ns xs ys : List ℕ) → Writable ns xs → Writable ns ys
    → records_order ns xs ns ys ≡ compare_of (record_for (paired_samples ns xs)) (record_for (paired_samples ns ys))
unfolding records_order
order_past ns xs ys w v = rw (w.count, fit_named w.fields, even_test ns xs w, even_test ns ys v, narrow_test ns xs w, narrow_test ns ys v)

-- ---- what is written is such a record

write_told : (ns bs : List ℕ) (room n : ℕ) → key_length ns bs room ≡ gives n
    → Writable ns bs × (length (key_for ns bs) ≤ room) × (n ≡ length (key_for ns bs))
unfolding key_length write_of
write_told ns bs room n h =
    let ss = paired_samples ns bs in
    let past-11 = refuse_passes (bad_count (length ns)) 11 0 _ n h in
    let past-7 = refuse_passes (any_unnamed ns) 7 0 _ n past-11.1 in
    let past-9 = refuse_passes (not (eqb (length ns) (length bs))) 9 0 _ n past-7.1 in
    let past-4 = refuse_passes (ltb (first_wide ss) (length ss)) 4 (first_wide ss) _ n past-9.1 in
    let counted = refuse_passes (bad_count (length ss)) 11 0 _ n past-4.1 in
    let past-10 = refuse_passes (ltb room (length (key_for ns bs))) 10 0 _ n counted.1 in
    let few : length ss ≤ 12 = (count_good (length ss) counted.0).1 in
    let no_nan : chain (nan_rules 0 (map field_in ss)) (gives (length (key_for ns bs))) ≡ gives n =
    subst (λ (fs : List Field). chain (nan_rules 0 fs) (gives (length (key_for ns bs))) ≡ gives n) (fields_in ss few) past-10.1 in
    let even = eqb-true (length ns) (length bs) (not-false _ past-9.0) in
    let fit = fit_from 0 ns bs (length (key_for ns bs)) n past-7.0 even (ltb-false (first_wide ss) (length ss) past-4.0) no_nan in
    (record { count = past-11.0; fields = fit.0 }, ltb-false room (length (key_for ns bs)) past-10.0, fit.1)

-- ---- reading

read_past : (ns key : List ℕ) (room : ℕ) → bad_count (length ns) ≡ false → any_unnamed ns ≡ false → length ns ≡ room
    → record_read ns key room ≡ read_of (shape_for ns) key
unfolding record_read
read_past ns key room count named even = rw (count, named, eq-eqb (length ns) room even)

-- what the boundary's rules let pass, and what is read behind them
record Read (ns key : List ℕ) (room : ℕ) (r : Record) : Type 0 where
  count : bad_count (length ns) ≡ false
  named : any_unnamed ns ≡ false
  even : length ns ≡ room
  given : read_of (shape_for ns) key ≡ gives r

read_told : (ns key : List ℕ) (room : ℕ) (r : Record) → record_read ns key room ≡ gives r → Read ns key room r
unfolding record_read
read_told ns key room r h =
    let past-11 = refuse_passes (bad_count (length ns)) 11 0 _ r h in
    let past-7 = refuse_passes (any_unnamed ns) 7 0 _ r past-11.1 in
    let past-9 = refuse_passes (not (eqb (length ns) room)) 9 0 _ r past-7.1 in
    record { count = past-11.0; named = past-7.0; even = eqb-true (length ns) room (not-false _ past-9.0); given = past-9.1 }

module _ (ns key : List ℕ) (b : Bytes key) (room : ℕ) (r : Record) (h : record_read ns key room ≡ gives r) where
  -- what was read is read again of its own key, and so it is normal
  read_again : normal_fields (fields_of r) ≡ fields_of r
  read_again =
      let t = read_told ns key room r h in
      let w = written_of_read (shape_for ns) (shape_places ns) key b r t.given in
      let q : gives (normal_record r) ≡ gives r =
      sym (demand_3.read_normal (shape_for ns) (usable ns t.count) r w.0) ∙ ap (read_of (shape_for ns)) w.1 ∙ t.given in
      let same : normal_record r ≡ r = cc in
      sym (made_fields (normal_fields (fields_of r))) ∙ ap fields_of same

  bits_again : Writable ns (record_bits r) × (key_for ns (record_bits r) ≡ key)
  bits_again =
      let t = read_told ns key room r h in
      let w = written_of_read (shape_for ns) (shape_places ns) key b r t.given in
      let kinds = w.0.kinds_are ∙ kinds_in_lem ns (count_good (length ns) t.count).1 in
      let a = all_again ns t.named w.0.keyed kinds read_again in
      let writable : Writable ns (record_bits r) = record { count = t.count; fields = a.0 } in
      (writable, ap key_of (own_fields ns (record_bits r) writable ∙ a.1) ∙ w.1)

-- a lent row of as many places holds the bits of what was read
row_holds : (ns key row : List ℕ) (r : Record) → record_read ns key (length row) ≡ gives r → length (record_bits r) ≡ length row
    → read_exit ns key row ≡ record_bits r
unfolding read_exit
row_holds ns key row r h same = given_fills record_bits row h same

module _ (ns bs row : List ℕ) (w : Writable ns bs) (even : length ns ≡ length row) where
  key_read : record_read ns (key_for ns bs) (length row) ≡ gives (normal_record (record_for (paired_samples ns bs)))
  key_read =
      read_past ns (key_for ns bs) (length row) w.count (fit_named w.fields) even
      ∙ demand_3.read_normal (shape_for ns) (usable ns w.count) (record_for (paired_samples ns bs)) (of_shape ns bs w)

  bits_read : record_bits (normal_record (record_for (paired_samples ns bs))) ≡ plus_zeros ns bs
  bits_read =
      ap (map field_bits) (made_fields (normal_fields (fields_of (record_for (paired_samples ns bs)))))
      ∙ ap (λ (fs : List Field). map field_bits (normal_fields fs)) (own_fields ns bs w)
      ∙ all_normal w.fields

  row_read : read_exit ns (key_for ns bs) row ≡ plus_zeros ns bs
  row_read =
      row_holds ns (key_for ns bs) row (normal_record (record_for (paired_samples ns bs))) key_read
      (ap length bits_read ∙ length-map (paired_samples ns bs) plus_zero_bits ∙ same_length ns bs w ∙ even)
      ∙ bits_read

-- what a call that is done has given
done_told : {A : Type 0} (o : Outcome A) → success_of o ≡ gives done → (a : A) × (o ≡ gives a)
done_told o h = let m = mapped_gives (λ a. done) o h in (m.0, m.1)

row_again : (ns key row : List ℕ) → Bytes key → success_of (record_read ns key (length row)) ≡ gives done
    → Writable ns (read_exit ns key row) × (key_for ns (read_exit ns key row) ≡ key)
row_again ns key row b h =
    let r = done_told (record_read ns key (length row)) h in
    let again = bits_again ns key b (length row) r.0 r.1 in
    let even = sym (fit_even again.0.fields) ∙ (read_told ns key (length row) r.0 r.1).even in
    subst (λ (bs : List ℕ). Writable ns bs × (key_for ns bs ≡ key)) (sym (row_holds ns key row r.0 r.1 even)) again

-- ---- the buffer

buffer_holds : (ns bs buffer : List ℕ) (n : ℕ) → key_length ns bs (length buffer) ≡ gives n
    → key_exit ns bs buffer ≡ key_for ns bs ++ drop (length (key_for ns bs)) buffer
unfolding key_exit
buffer_holds ns bs buffer n h = ap (λ (o : Outcome ℕ). lent_after (λ m. key_for ns bs) o buffer) h

-- ---- the demand

pub boundary_keys : BoundaryKeys
boundary_keys = record {
  written_exactly = λ ns bs buffer. (
    (λ t. let w = write_told ns bs (length buffer) t.0 t.1 in (w.0, w.1)),
    λ t. (length (key_for ns bs), write_given ns bs t.0 buffer t.1),
  );
  written = λ ns bs buffer n h.
      let is = (write_told ns bs (length buffer) n h).2 in
      (is, buffer_holds ns bs buffer n h ∙ ap (λ (m : ℕ). key_for ns bs ++ drop m buffer) (sym is));
  same_bytes = λ ns xs ys w v.
      let same = demand_3.same_bytes (shape_for ns) (usable ns w.count) _ _ (of_shape ns xs w) (of_shape ns ys v) in
      ((λ q. order_past ns xs ys w v ∙ same.0 q), λ q. same.1 (sym (order_past ns xs ys w v) ∙ q));
  first_byte = λ ns xs ys w v d.
      let f = demand_3.first_byte (shape_for ns) (usable ns w.count) _ _ (of_shape ns xs w) (of_shape ns ys v) d in
      (f.0, f.1, order_past ns xs ys w v ∙ f.2);
  accepted_exactly = λ ns key b. (
    (λ h.
        let r = done_told (record_read ns key (length ns)) h in
        let again = bits_again ns key b (length ns) r.0 r.1 in
        (record_bits r.0, again.0, again.1)),
    λ t. subst (λ (k : List ℕ). success_of (record_read ns k (length ns)) ≡ gives done) t.2 (ap success_of (key_read ns t.0 ns t.1 refl)),
  );
  read_normal = λ ns bs row w even. (ap success_of (key_read ns bs row w even), row_read ns bs row w even);
  same_again = row_again;
  read_once = λ ns k l row b c g h same. sym (row_again ns k row b g).1 ∙ ap (key_for ns) same ∙ (row_again ns l row c h).1;
}

-- the example of the rules: u8 1, f32 80000000, u16 7
example_written : Writable (0 ∷ 8 ∷ 1 ∷ []) (1 ∷ 0x8000_0000 ∷ 7 ∷ [])
unfolding key_length any_unnamed unnamed kind_for too_wide first_wide value_for paired_samples padded write_of each_of key_of big_endian value_of
    unit step_of float_bits pattern_of mag_of abs_of to_bits of_bits of_fields odd size span climb is_nan
example_written = (write_told _ _ 7 7 refl).0
