-- The fields of a key read one after the other into a blank record; and what reading then answers.
use mathlib.Core.Path.{◌≡◌, refl, sym, ◌∙◌, ap}
use mathlib.Core.Bool.{Bool, true, false, not, cond}
use mathlib.Core.List.{List, [], ◌∷◌, ◌++◌, append_assoc}
use Prim.Native.Nat.{ℕ, zero, suc, ◌+◌, ◌-◌, ◌≤◌, ◌<◌}
use native.Mathlib.Nat.{zero-add, add-zero}
use native.Mathlib.Numerals.{add-one}
use native.Mathlib.Omega.{arith}
use borrow.Author.Tests.{eq-eqb, ne_eqb}
use lib.Dec.{eqb}
use lib.ListN.{length, take, drop, get_or, set, replicate, length-map, length-set, length-drop, take-append-drop, drop_of_length-le, get_or-map}
use lib.Seq.{drop-cons, drop-set-lt, take-suc-set, length-take-le}
use Rattle.std.proofs.lemmas.List.{length-take}
use Rattle.std.specs.Prelude.{Option, None, Some, sum_by}
use Rattle.float.proofs.Tests.{clash}
use Rattle.value.proofs.Outcomes.{refuse_passes, mapped_gives}
use Rattle.value.specs.declared.Kind.{Kind}
use Rattle.value.specs.declared.Value.{Value}
use Rattle.value.specs.declared.Value.TheVariants.{U8}
use Rattle.value.specs.Kinds.{form_of, bytes_of}
use Rattle.value.specs.Meaning.{value_of}
use Rattle.value.specs.Outcome.{Outcome, gives, refuses, refuse_if, mapped}
use Rattle.record.specs.declared.Field.{Field}
use Rattle.record.specs.declared.Place.{Place}
use Rattle.record.specs.declared.Record.{Record}
use Rattle.record.specs.declared.Recorded.{Recorded}
use Rattle.record.specs.declared.Shape.{Shape}
use Rattle.record.specs.Record.{field_for, blank, bad_count, kinds_in, record_of, recorded_of}
use Rattle.record.proofs.Twelve.{good_count}
use Rattle.bytewise.specs.Numbers.{from_big_endian}
use Rattle.key.specs.Key.{bits_from, not_canonical, bytes_in, read_of}
use Rattle.key.specs.Inner.{read_fields, value_by_number}
use Rattle.key.proofs.Summed.{sum_bytes}
use Rattle.key.proofs.Passing.{read_none, read_more, read_by}

-- ---- a record that is filled from a place on

abbrev placed : ℕ → Record → List Field → Record
placed at r fs = record { fields = take at r.fields ++ (fs ++ drop (at + length fs) r.fields); count = r.count }

-- what is answered when the fields from `at` on are read so
abbrev pub finished_at : ℕ → Record → Outcome (List Field) → Recorded
finished_at at r rest = recorded_of (mapped (placed at r) rest)

abbrev with_field : Record → ℕ → Value → Record
with_field r at v = record { fields = set r.fields at (field_for v); count = r.count }

place_one : (l : List Field) (at : ℕ) (f : Field) → at < length l → (fs : List Field)
    → take (suc at) (set l at f) ++ (fs ++ drop (suc at + length fs) (set l at f)) ≡ take at l ++ (f ∷ fs ++ drop (at + suc (length fs)) l)
place_one l at f h fs =
    let e : suc at + length fs ≡ at + suc (length fs) = omega arith in
    rw (drop-set-lt (suc at + length fs) l at f (omega arith), e, take-suc-set l at f h) (simp append_assoc)

finish_field : (r : Record) (at : ℕ) (v : Value) (rest : Outcome (List Field)) → at < length r.fields
    → finished_at (suc at) (with_field r at v) rest ≡ finished_at at r (mapped (λ fs. field_for v ∷ fs) rest)
finish_field r at v (gives fs) h =
    ap (λ (l : List Field). recorded_of (gives (record { fields = l; count = r.count }))) (place_one r.fields at (field_for v) h fs)
finish_field r at v (refuses m p) h = refl

finish_none : (r : Record) (at : ℕ) → recorded_of (gives r) ≡ finished_at at r (gives [])
finish_none r at = ap (λ (l : List Field). recorded_of (gives (record { fields = l; count = r.count })))
    (sym (rw (add-zero at) (take-append-drop at r.fields)))

-- a blank record filled from the start
drop_replicate : (n k : ℕ) (f : Field) → drop k (replicate n f) ≡ replicate (n - k) f
drop_replicate n zero f = ap (λ (j : ℕ). replicate j f) (let e : n ≡ n - 0 = omega arith in e)
drop_replicate zero (suc k) f = ap (λ (j : ℕ). replicate j f) (let e : 0 ≡ 0 - suc k = omega arith in e)
drop_replicate (suc n) (suc k) f = drop_replicate n k f ∙ ap (λ (j : ℕ). replicate j f) (let e : n - k ≡ suc n - suc k = omega arith in e)

finish_blank : (n : ℕ) (rest : Outcome (List Field)) → ((fs : List Field) → rest ≡ gives fs → length fs ≡ n)
    → finished_at 0 (record { fields = blank.fields; count = n }) rest ≡ recorded_of (mapped record_of rest)
finish_blank n (refuses m p) h = refl
finish_blank n (gives fs) h = rw (← h fs refl, zero-add, drop_replicate 12 (length fs) (field_for (U8 0)))

-- as many fields are read as there are kinds
then_length : (t : Bool) (number at : ℕ) (f : Field) (rest : Outcome (List Field)) (fs : List Field) (n : ℕ)
    → ((gs : List Field) → rest ≡ gives gs → length gs ≡ n)
    → refuse_if t number at (mapped (λ gs. f ∷ gs) rest) ≡ gives fs → length fs ≡ suc n
then_length true number at f rest fs n h e = clash cc
then_length false number at f (refuses m p) fs n h e = clash cc
then_length false number at f (gives gs) fs n h e = let q : fs ≡ f ∷ gs = cc in ap length q ∙ ap suc (h gs refl)

read_length : (at : ℕ) (ks : List Kind) (key : List ℕ) (fs : List Field) → read_fields at ks key ≡ gives fs → length fs ≡ length ks
read_length at [] key fs e =
    let h : gives [] ≡ gives fs = sym (read_none at key) ∙ e in
    let q : fs ≡ [] = cc in
    ap length q
read_length at (k ∷ ks) key fs e =
    then_length (not_canonical (form_of k) (from_big_endian 0 (take (bytes_of k) key))) 12 at
    (field_for (value_of k (bits_from (form_of k) (from_big_endian 0 (take (bytes_of k) key)))))
    (read_fields (suc at) ks (drop (bytes_of k) key)) fs (length ks) (λ gs q. read_length (suc at) ks (drop (bytes_of k) key) gs q)
    (sym (read_more at k ks key) ∙ e)

-- ---- one field, whose value is there or not

field_refused : (t : Bool) (v : Value) {o : Option Value} (at : ℕ) (next : Outcome (List Field)) → o ≡ cond t None (Some v) → o ≡ None
    → refuse_if t 12 at next ≡ refuses 12 at
field_refused true v at next q h = refl
field_refused false v at next q h = clash cc

field_given : (t : Bool) (v : Value) {u : Value} {o : Option Value} (at : ℕ) (next : Outcome (List Field)) → o ≡ cond t None (Some v) → o ≡ Some u
    → (refuse_if t 12 at next ≡ next) × (u ≡ v)
field_given true v at next q h = clash cc
field_given false v at next q h = (refl, cc)

-- ---- where reading stands

module _ (s : Shape) where
  abbrev ks : List Kind
  ks = kinds_in s

  -- read up to `at` into r, and `rest` is still to be read: reading it gives the whole
  abbrev pub Filled : List ℕ → Record → List ℕ → ℕ → Type 0
  Filled key r rest at =
      (length rest ≡ bytes_in (drop at ks)) × (length r.fields ≡ 12)
      × (finished_at at r (read_fields at (drop at ks) rest) ≡ recorded_of (read_of s key))

  abbrev ps : List Place
  ps = take s.count s.places

  module _ (key : List ℕ) (r : Record) (rest : List ℕ) (at : ℕ) (filled : Filled key r rest at) where
    module _ (d : Place) (h : at < length ps) {w : ℕ} (w-is : w ≡ bytes_of (get_or ps at d).kind) where
      abbrev k : Kind
      k = (get_or ps at d).kind

      kinds_left : drop at ks ≡ k ∷ drop (suc at) ks
      kinds_left =
          drop-cons ks at d.kind (rw length-map h)
          ∙ ap (λ (j : Kind). j ∷ drop (suc at) ks) (get_or-map (λ (p : Place). p.kind) ps at d)

      bytes_left : bytes_in (drop at ks) ≡ bytes_of k + bytes_in (drop (suc at) ks)
      unfolding bytes_in
      bytes_left = rw kinds_left

      pub read_room : w ≤ length rest
      read_room = omega (arith, bytes_left, filled.0, w-is)

      module _ {front back : List ℕ} (front-is : front ≡ take w rest) (back-is : back ≡ drop w rest)
          {o : Option Value} (o-is : o ≡ value_by_number k (from_big_endian 0 front)) where
        abbrev n : ℕ
        n = from_big_endian 0 front

        abbrev test : Bool
        test = not_canonical (form_of k) n

        abbrev made : Value
        made = value_of k (bits_from (form_of k) n)

        abbrev behind : Value → Outcome (List Field)
        behind v = mapped (λ fs. field_for v ∷ fs) (read_fields (suc at) (drop (suc at) ks) back)

        fields_left : read_fields at (drop at ks) rest ≡ refuse_if test 12 at (behind made)
        fields_left =
            ap (λ (l : List Kind). read_fields at l rest) kinds_left ∙ read_more at k (drop (suc at) ks) rest
            ∙ rw (← w-is, ← front-is, ← back-is)

        pub read_stop : o ≡ None → recorded_of (refuses 12 at) ≡ recorded_of (read_of s key)
        read_stop q =
            sym (ap (finished_at at r) (fields_left ∙ field_refused test made at (behind made) o-is q)) ∙ filled.2

        pub read_step : {v : Value} → o ≡ Some v → length s.places ≡ 12 → Filled key (with_field r at v) back (at + 1)
        read_step {v} q twelve =
            let given = field_given test made at (behind made) o-is q in
            let more : read_fields at (drop at ks) rest ≡ behind v = fields_left ∙ given.0 ∙ ap behind (sym given.1) in
            let inside : at < length r.fields = omega (arith, filled.1, length-take s.count s.places, twelve) in
            rw (add-one at) (
              ap length back-is ∙ length-drop w rest ∙ omega (arith, bytes_left, filled.0, w-is),
              length-set r.fields at (field_for v) ∙ filled.1,
              finish_field r at v (read_fields (suc at) (drop (suc at) ks) back) inside ∙ sym (ap (finished_at at r) more) ∙ filled.2,
            )

    pub read_end : length ps ≤ at → recorded_of (gives r) ≡ recorded_of (read_of s key)
    read_end h =
        let none : drop at ks ≡ [] = drop_of_length-le ks {i = at} (rw length-map h) in
        finish_none r at ∙ ap (finished_at at r) (sym (read_none at rest)) ∙ (rw none at filled.2)

-- ---- the whole

count_kinds : (s : Shape) → s.count ≤ 12 → length s.places ≡ 12 → length (kinds_in s) ≡ s.count
count_kinds s few twelve = length-map (take s.count s.places) _ ∙ length-take-le s.count s.places (omega arith)

module _ (s : Shape) (key : List ℕ) {t : Bool} (count_is : t ≡ bad_count s.count) where
  pub read_bad_count : t ≡ true → recorded_of (refuses 11 0) ≡ recorded_of (read_of s key)
  unfolding read_of
  read_bad_count f = rw (← count_is, f)

  module _ (count_good : t ≡ false) {n : ℕ} (n-is : n ≡ sum_by (λ (p : Place). bytes_of p.kind) (take s.count s.places)) where
    length_is : n ≡ bytes_in (kinds_in s)
    length_is = n-is ∙ sum_bytes (λ (p : Place). p.kind) (take s.count s.places)

    pub read_bad_length : (length key ≡ n → ⊥) → recorded_of (refuses 9 0) ≡ recorded_of (read_of s key)
    unfolding read_of
    read_bad_length h = rw (← count_is, count_good, ← length_is, ne_eqb (length key) n h)

    pub read_start : length s.places ≡ 12 → length key ≡ n → {r : Record} → r ≡ blank
        → Filled s key (record { fields = r.fields; count = s.count }) key 0
    read_start twelve h e = rw e (
      h ∙ length_is,
      refl,
      finish_blank s.count (read_fields 0 (kinds_in s) key)
          (λ fs q. read_length 0 (kinds_in s) key fs q ∙ count_kinds s (good_count s.count (sym count_is ∙ count_good)) twelve)
          ∙ sym (ap recorded_of (read_by s key) ∙ rw (← count_is, count_good, ← length_is, eq-eqb (length key) n h)),
    )

-- what was read has as many fields as the shape has kinds
pub read_count : (s : Shape) (key : List ℕ) (r : Record) → length s.places ≡ 12 → read_of s key ≡ gives r → (r.count ≡ s.count) × (s.count ≤ 12)
read_count s key r twelve e =
    let past-11 = refuse_passes (bad_count s.count) 11 0 _ r (sym (read_by s key) ∙ e) in
    let past-9 = refuse_passes (not (eqb (length key) (bytes_in (kinds_in s)))) 9 0 _ r past-11.1 in
    let m = mapped_gives record_of (read_fields 0 (kinds_in s) key) past-9.1 in
    let few = good_count s.count past-11.0 in
    (sym (ap (λ (q : Record). q.count) m.2) ∙ read_length 0 (kinds_in s) key m.0 m.1 ∙ count_kinds s few twelve, few)
