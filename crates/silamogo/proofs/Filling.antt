-- A record and a shape while their places are filled, and a record's bits while they are written out.
use mathlib.Core.Path.{◌≡◌, sym, ◌∙◌, ap}
use mathlib.Core.List.{List, [], map, map-append}
use Prim.Native.Nat.{ℕ, ◌+◌, ◌≤◌, ◌<◌}
use native.Mathlib.Numerals.{add-one}
use native.Mathlib.Omega.{arith}
use lib.ListN.{length, take, set, get_or, length-map, length-set, get_or-map}
use lib.Seq.{take-suc, take_all, take-suc-set}
use Rattle.value.specs.declared.Kind.{Kind}
use Rattle.value.specs.declared.Kind.TheVariants as kind
use Rattle.value.specs.declared.Value.{Value}
use Rattle.value.specs.declared.Value.TheVariants.{U8}
use Rattle.value.specs.Meaning.{bits_of}
use Rattle.record.specs.declared.Field.{Field}
use Rattle.record.specs.declared.Record.{Record}
use Rattle.record.specs.declared.Shape.{Shape}
use Rattle.record.specs.Record.{blank, blank_shape, field_for, fields_of, place_for}
use Rattle.silamogo.specs.Samples.{kind_for, value_for}
use Rattle.silamogo.specs.Records.{sample_for, paired_samples, padded, field_in, record_for, place_in, shape_for, field_bits}
use Rattle.silamogo.proofs.Padding.{padded_length, one_more}
use Rattle.silamogo.proofs.Pairs.{pairs_length, pair_at}

-- the first `at` of a list stand in twelve places
abbrev pub Filled : {A : Type 0} → A → List A → List A → ℕ → Type 0
Filled none xs places at = (at ≤ length xs) × (length places ≡ 12) × (places ≡ padded 12 none (take at xs))

module _ {A : Type 0} (none : A) (xs : List A) where
  filled_start : {places : List A} → places ≡ padded 12 none [] → Filled none xs places 0
  filled_start q = (omega arith, rw q (padded_length none 12 []), q)

  module _ (at : ℕ) (places : List A) (filled : Filled none xs places at) where
    filled_more : at < length xs → length xs ≤ 12 → (d : A) {x : A} → x ≡ get_or xs at d → Filled none xs (set places at x) (at + 1)
    filled_more h few d {x} q = (
      omega arith,
      length-set places at x ∙ filled.1,
      ap (λ (l : List A). set l at x) filled.2 ∙ one_more none 12 xs at h (omega arith) d q,
    )

    filled_all : length xs ≤ at → places ≡ padded 12 none xs
    filled_all h = filled.2 ∙ ap (padded 12 none) (take_all at xs h)

-- ---- a record

module _ (ns bs : List ℕ) where
  abbrev fields : List Field
  fields = map field_in (paired_samples ns bs)

  abbrev pub RecordFilled : Record → ℕ → Type 0
  RecordFilled r at = Filled (field_for (U8 0)) fields r.fields at

  pub record_start : {r : Record} → r ≡ blank → RecordFilled r 0
  unfolding padded
  record_start q = filled_start (field_for (U8 0)) fields (ap (λ (r : Record). r.fields) q)

  module _ (even : length ns ≡ length bs) where
    fields_length : length fields ≡ length ns
    fields_length = length-map (paired_samples ns bs) field_in ∙ pairs_length ns bs even

    module _ (r : Record) (at : ℕ) (filled : RecordFilled r at) where
      pub record_more : at < length ns → length ns ≤ 12 → {v : Value} → v ≡ value_for (sample_for (get_or ns at 0) (get_or bs at 0))
          → RecordFilled (record { fields = set r.fields at (field_for v); count = r.count }) (at + 1)
      record_more h few q = filled_more (field_for (U8 0)) fields at r.fields filled (omega (arith, fields_length)) (omega (arith, fields_length))
          (field_in (sample_for 0 0))
          (ap field_for q ∙ sym (get_or-map field_in (paired_samples ns bs) at (sample_for 0 0) ∙ ap field_in (pair_at ns bs even at)))

      pub record_end : length ns ≤ at → ◌≡◌ {A = Record} (record { fields = r.fields; count = length ns }) (record_for (paired_samples ns bs))
      record_end h = rw (filled_all (field_for (U8 0)) fields at r.fields filled (omega (arith, fields_length)), pairs_length ns bs even)

-- ---- a shape

module _ (ns : List ℕ) where
  abbrev pub ShapeFilled : Shape → ℕ → Type 0
  ShapeFilled s at = Filled (place_for kind.U8) (map place_in ns) s.places at

  pub shape_start : {s : Shape} → s ≡ blank_shape → ShapeFilled s 0
  unfolding padded
  shape_start q = filled_start (place_for kind.U8) (map place_in ns) (ap (λ (s : Shape). s.places) q)

  module _ (s : Shape) (at : ℕ) (filled : ShapeFilled s at) where
    pub shape_more : at < length ns → length ns ≤ 12 → {k : Kind} → k ≡ kind_for (get_or ns at 0)
        → ShapeFilled (record { places = set s.places at (place_for k); count = s.count }) (at + 1)
    shape_more h few q = filled_more (place_for kind.U8) (map place_in ns) at s.places filled (omega (arith, length-map ns place_in))
        (omega (arith, length-map ns place_in)) (place_in 0) (ap place_for q ∙ sym (get_or-map place_in ns at 0))

    pub shape_end : length ns ≤ at → ◌≡◌ {A = Shape} (record { places = s.places; count = length ns }) (shape_for ns)
    shape_end h = rw (filled_all (place_for kind.U8) (map place_in ns) at s.places filled (omega (arith, length-map ns place_in)))

-- a shape has twelve places
pub shape_places : (ns : List ℕ) → length (shape_for ns).places ≡ 12
shape_places ns = padded_length (place_for kind.U8) 12 (map place_in ns)

-- ---- bits

module _ (r : Record) where
  abbrev pub Written : List ℕ → ℕ → Type 0
  Written bits at = (at ≤ r.count) × (length bits ≡ r.count) × (take at bits ≡ map field_bits (take at r.fields))

  module _ (bits : List ℕ) (at : ℕ) (written : Written bits at) where
    pub written_more : at < r.count → r.count ≤ length r.fields → {b : ℕ}
        → b ≡ bits_of (get_or r.fields at (field_for (U8 0))).value → Written (set bits at b) (at + 1)
    written_more h few {b} q = (
      omega arith,
      length-set bits at b ∙ written.1,
      rw (add-one at, take-suc-set bits at b (omega (arith, written.1)), take-suc r.fields at (field_for (U8 0)) (omega arith), map-append, written.2, q),
    )

    pub written_all : r.count ≤ at → bits ≡ map field_bits (fields_of r)
    written_all h = let e : at ≡ r.count = omega (arith, written.0) in
        sym (take_all at bits (omega (arith, written.1))) ∙ written.2 ∙ ap (λ (n : ℕ). map field_bits (take n r.fields)) e
