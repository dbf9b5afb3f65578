-- What a program holds meets the premises of demand 3: owning tells the twelve places and the ranges of the values.
-- The shape of a record is made of its kinds, so a record is of its own shape, and records with the same kinds are of one shape.
use Prim.Native.Nat.{ℕ, zero, suc, ◌-◌, ◌<◌, ◌≤◌}
use mathlib.Core.Path.{◌≡◌, refl, sym, ap, ◌∙◌, subst}
use mathlib.Core.Logic.{◌↔◌}
use mathlib.Core.Bool.{false}
use mathlib.Core.List.{List, [], ◌∷◌, ◌++◌, map}
use native.Mathlib.Omega.{arith}
use lib.ListN.{length, take, replicate, length-append, length-map, length-replicate}
use lib.Seq.{take_at, length-take-le, get_or-take}
use Rattle.float.specs.Number.{is_none}
use Rattle.value.specs.declared.Kind.{Kind}
use Rattle.value.specs.declared.Kind.TheVariants as kind
use Rattle.value.specs.declared.Value.TheVariants.{U8}
use Rattle.value.specs.Kinds.{kind_of}
use Rattle.value.specs.Meaning.{InRange, exact_of}
use Rattle.value.specs.Outcome.{gives}
use Rattle.value.proofs.Outcomes.{refuse_passes}
use Rattle.record.specs.declared.Field.{Field}
use Rattle.record.specs.declared.Place.{Place}
use Rattle.record.specs.declared.Record.{Record}
use Rattle.record.specs.declared.Shape.{Shape}
use Rattle.record.specs.Record.{field_for, fields_of, value_at, place_for, bad_count, kinds_in, kinds_of, shape_for, shape_of, record_of}
use Rattle.record.proofs.Twelve.{good_count}
use Rattle.record.proofs.Owned.{record_held, shape_held}
use Rattle.bytewise.specs.Numbers.{Bytes}
use Rattle.bytewise.specs.Numbers as numbers
use Rattle.key.specs.Key.{read_of}
use Rattle.key.specs.Keyed.{AllKeyed, none, more, normal_fields, normal_record, record_key, NoNan, HasShape, Usable, OfShape}
use Rattle.key.specs.Held.{HeldRecord, HeldShape, LentBytes}
use Rattle.key.proofs.FieldLists.{key_bytes}
use Rattle.key.proofs.Demand3.{count_good, read_of_written, made_fields, made_places, written_of_read}

-- ---- bytes

lent_bytes : (l : List ℕ) → LentBytes l → Bytes l
lent_bytes [] h = numbers.none
lent_bytes (x ∷ xs) h = numbers.more x xs (h 0).fits (lent_bytes xs (λ i. h (suc i)))

bytes_lent : {l : List ℕ} → Bytes l → LentBytes l
bytes_lent numbers.none i = record { fits = omega arith }
bytes_lent (numbers.more x xs h b) zero = record { fits = h }
bytes_lent (numbers.more x xs h b) (suc i) = bytes_lent b i

pub bytes_held : (l : List ℕ) → LentBytes l ↔ Bytes l
bytes_held l = (lent_bytes l, bytes_lent)

-- ---- shapes

pub usable_held : (s : Shape) → HeldShape s → bad_count s.count ≡ false → Usable s
usable_held s h good = let c = count_good s.count good in record { some = c.0; few = c.1; places = ((shape_held s).0 h).0 }

-- the kinds of the shape that is made of some
kinds_placed : (ks : List Kind) → map (λ (p : Place). p.kind) (map place_for ks) ≡ ks
kinds_placed [] = refl
kinds_placed (k ∷ ks) = ap (λ (js : List Kind). k ∷ js) (kinds_placed ks)

made_kinds : (ks : List Kind) → kinds_in (shape_for ks) ≡ ks
made_kinds ks =
    ap (map (λ (p : Place). p.kind)) (take_at (map place_for ks) (replicate (12 - length ks) (place_for kind.U8)) (length ks) (length-map ks place_for))
    ∙ kinds_placed ks

shape_places : (ks : List Kind) → length ks ≤ 12 → length (shape_for ks).places ≡ 12
shape_places ks h =
    length-append (map place_for ks) (replicate (12 - length ks) (place_for kind.U8))
    ∙ rw (length-map ks place_for, length-replicate (12 - length ks) (place_for kind.U8)) (omega arith)

-- the shape of a record is made of its kinds
shape_given : (r : Record) → bad_count r.count ≡ false → shape_of r ≡ gives (shape_for (kinds_of (fields_of r)))
unfolding shape_of
shape_given r good = rw good refl

shape_told : (r : Record) (s : Shape) → shape_of r ≡ gives s → (bad_count r.count ≡ false) × (shape_for (kinds_of (fields_of r)) ≡ s)
unfolding shape_of
shape_told r s e =
    let past-11 = refuse_passes (bad_count r.count) 11 0 (gives (shape_for (kinds_of (fields_of r)))) s e in
    let given : gives (shape_for (kinds_of (fields_of r))) ≡ gives s = past-11.1 in
    (past-11.0, cc)

-- ---- records

twelve_held : (r : Record) → HeldRecord r → length r.fields ≡ 12
twelve_held r held = ((record_held r).0 held).0

-- as many kinds as the count says
kinds_count : (r : Record) → length r.fields ≡ 12 → bad_count r.count ≡ false → length (kinds_of (fields_of r)) ≡ r.count
kinds_count r twelve good =
    length-map (fields_of r) (λ (f : Field). kind_of f.value) ∙ length-take-le r.count r.fields (omega (arith, good_count r.count good))

keyed_take : (n : ℕ) (fs : List Field) → ((at : ℕ) → InRange (value_at fs at))
    → ((at : ℕ) → at < n → is_none (exact_of (value_at fs at)) ≡ false) → AllKeyed (take n fs)
keyed_take zero fs h k = none
keyed_take (suc n) [] h k = none
keyed_take (suc n) (f ∷ fs) h k = more f (take n fs) (record { in_range = h 0; some_number = k 0 (omega arith) })
    (keyed_take n fs (λ at. h (suc at)) (λ at l. k (suc at) (omega arith)))

module _ (r : Record) (held : HeldRecord r) (no_nan : NoNan r) where
  -- of every shape that it has
  pub of_shape_held : (s : Shape) → HasShape s r → OfShape s r
  of_shape_held s has = record {
    places = twelve_held r held;
    count_is = has.0;
    kinds_are = has.1;
    keyed = keyed_take r.count r.fields ((record_held r).0 held).1 no_nan;
  }

  -- and so of its own
  pub own_shape_held : (s : Shape) → shape_of r ≡ gives s → Usable s × OfShape s r
  own_shape_held s e =
      let ks = kinds_of (fields_of r) in
      let given = shape_told r s e in
      let count : length ks ≡ r.count = kinds_count r (twelve_held r held) given.0 in
      let good = count_good r.count given.0 in
      subst (λ (t : Shape). Usable t × OfShape t r) given.1 (
        record { some = rw count good.0; few = rw count good.1; places = shape_places ks (rw count good.1) },
        of_shape_held (shape_for ks) (sym count, sym (made_kinds ks)),
      )

-- ---- two records of one shape

-- two shapes are one exactly when the counts are good and the kinds the same
pub shapes_same : (a b : Record)
    → ((bad_count a.count ≡ false) × (bad_count b.count ≡ false) × (kinds_of (fields_of a) ≡ kinds_of (fields_of b)))
    ↔ ((s : Shape) × (shape_of a ≡ gives s) × (shape_of b ≡ gives s))
shapes_same a b = (
  (λ c. (shape_for (kinds_of (fields_of a)), shape_given a c.0, shape_given b c.1 ∙ ap (λ (ks : List Kind). gives (shape_for ks)) (sym c.2))),
  λ t.
      let one = shape_told a t.0 t.1 in
      let other = shape_told b t.0 t.2 in
      (one.0, other.0, sym (made_kinds (kinds_of (fields_of a))) ∙ ap kinds_in (one.1 ∙ sym other.1) ∙ made_kinds (kinds_of (fields_of b))),
)

-- what has the kinds of a record of a shape is of that shape
pub alike_held : (s : Shape) (a b : Record) → bad_count a.count ≡ false → bad_count b.count ≡ false → kinds_of (fields_of a) ≡ kinds_of (fields_of b)
    → OfShape s a → HeldRecord b → NoNan b → OfShape s b
alike_held s a b p q same h held no_nan =
    let counts : b.count ≡ a.count = sym (kinds_count b (twelve_held b held) q) ∙ ap length (sym same) ∙ kinds_count a h.places p in
    of_shape_held b held no_nan s (counts ∙ h.count_is, sym same ∙ h.kinds_are)

-- ---- what has a key can be held

blank_places : (n at : ℕ) → InRange (value_at (replicate n (field_for (U8 0))) at)
blank_places zero at = omega arith
blank_places (suc n) zero = omega arith
blank_places (suc n) (suc at) = blank_places n at

keyed_places : (n : ℕ) {fs : List Field} → AllKeyed fs → (at : ℕ) → InRange (value_at (fs ++ replicate n (field_for (U8 0))) at)
keyed_places n none at = blank_places n at
keyed_places n (more f fs h a) zero = h.in_range
keyed_places n (more f fs h a) (suc at) = keyed_places n a at

pub keyed_held : (fs : List Field) → AllKeyed fs → length fs ≤ 12 → HeldRecord (record_of fs)
keyed_held fs a few = (record_held (record_of fs)).1 (made_places fs few, keyed_places (12 - length fs) a, omega arith)

keyed_numbers : {fs : List Field} → AllKeyed fs → (at : ℕ) → is_none (exact_of (value_at fs at)) ≡ false
keyed_numbers none at = refl
keyed_numbers (more f fs h a) zero = h.some_number
keyed_numbers (more f fs h a) (suc at) = keyed_numbers a at

pub of_shape_numbers : (s : Shape) (r : Record) → OfShape s r → NoNan r
of_shape_numbers s r h at l =
    ap (λ (f : Field). is_none (exact_of f.value)) (sym (get_or-take r.count r.fields at (field_for (U8 0)) l)) ∙ keyed_numbers h.keyed at

-- what is read, too: it is a record made normal
module _ (s : Shape) (u : Usable s) where
  normal_held : (r : Record) → OfShape s r → HeldRecord (normal_record r)
  normal_held r h =
      let fs = normal_fields (fields_of r) in
      let k = (written_of_read s u.places (record_key r) (key_bytes (fields_of r)) (normal_record r) (read_of_written s u r h)).0 in
      let few : length fs ≤ 12 = subst (λ (n : ℕ). n ≤ 12) (sym k.count_is) u.few in
      keyed_held fs (subst AllKeyed (made_fields fs) k.keyed) few

  pub read_held : (key : List ℕ) → Bytes key → (r : Record) → read_of s key ≡ gives r → HeldRecord r
  read_held key b r e =
      let w = written_of_read s u.places key b r e in
      let q : gives (normal_record r) ≡ gives r = sym (read_of_written s u r w.0) ∙ ap (read_of s) w.1 ∙ e in
      let is : normal_record r ≡ r = cc in
      subst HeldRecord is (normal_held r w.0)
