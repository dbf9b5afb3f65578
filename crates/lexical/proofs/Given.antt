-- What was compared, told from the outcome: both counts are good, the kinds are the same, and the order is the lexical one.
use mathlib.Core.Path.{◌≡◌, refl}
use mathlib.Core.Bool.{false, ◌||◌}
use mathlib.Core.List.{List, [], ◌∷◌}
use Rattle.float.specs.declared.Order.{Order}
use Rattle.float.proofs.Tests.{neither}
use Rattle.value.specs.Kinds.{kind_of}
use Rattle.value.specs.Outcome.{gives}
use Rattle.value.proofs.KindNumbers.{number_injective}
use Rattle.value.proofs.Outcomes.{refuse_passes}
use Rattle.cmp.specs.Compare.{kinds_differ}
use Rattle.cmp.proofs.KindTests.{one_kind, alike}
use Rattle.record.specs.declared.Field.{Field}
use Rattle.record.specs.declared.Record.{Record}
use Rattle.record.specs.Record.{fields_of, kinds_of, bad_count}
use Rattle.lexical.specs.Lexical.{shapes_differ, lexical_of, compare_of}
use Rattle.lexical.proofs.OneKind.{given_same}

-- ---- fields of one shape have the same kinds

pub shape_kinds : (xs ys : List Field) → shapes_differ xs ys ≡ false → kinds_of xs ≡ kinds_of ys
unfolding shapes_differ
shape_kinds [] [] h = refl
shape_kinds [] (y ∷ ys) h = cc
shape_kinds (x ∷ xs) [] h = cc
shape_kinds (x ∷ xs) (y ∷ ys) h =
    let p = neither (kinds_differ x.value y.value) (shapes_differ xs ys) h in
    let k : kind_of x.value ≡ kind_of y.value = number_injective _ _ (one_kind x.value y.value p.0) in
    cc (k, shape_kinds xs ys p.1)

pub kinds_shape : (xs ys : List Field) → kinds_of xs ≡ kinds_of ys → shapes_differ xs ys ≡ false
unfolding shapes_differ
kinds_shape [] [] h = refl
kinds_shape [] (y ∷ ys) h = cc
kinds_shape (x ∷ xs) [] h = cc
kinds_shape (x ∷ xs) (y ∷ ys) h =
    let k : kind_of x.value ≡ kind_of y.value = cc in
    let ks : kinds_of xs ≡ kinds_of ys = cc in
    rw (alike {a = x.value} {a' = x.value} {b = y.value} {b' = y.value} refl refl k, kinds_shape xs ys ks)

-- ---- of two records

module _ (a b : Record) where
  pub compared_records : (o : Order) → compare_of a b ≡ gives o
      → (bad_count a.count ≡ false) × (bad_count b.count ≡ false) × (kinds_of (fields_of a) ≡ kinds_of (fields_of b))
      × (lexical_of (fields_of a) (fields_of b) ≡ o)
  unfolding compare_of
  compared_records o h =
      let past-11 = refuse_passes (bad_count a.count || bad_count b.count) 11 0 _ o h in
      let past-7 = refuse_passes (shapes_differ (fields_of a) (fields_of b)) 7 0 (gives (lexical_of (fields_of a) (fields_of b))) o past-11.1 in
      let counts = neither (bad_count a.count) (bad_count b.count) past-11.0 in
      (counts.0, counts.1, shape_kinds (fields_of a) (fields_of b) past-7.0, given_same past-7.1)

  pub records_compared : (o : Order) → bad_count a.count ≡ false → bad_count b.count ≡ false → kinds_of (fields_of a) ≡ kinds_of (fields_of b)
      → lexical_of (fields_of a) (fields_of b) ≡ o → compare_of a b ≡ gives o
  unfolding compare_of
  records_compared o p q k h = rw (p, q, kinds_shape (fields_of a) (fields_of b) k, h)
