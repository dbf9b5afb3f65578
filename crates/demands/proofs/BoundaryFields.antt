-- The fields of a record as they pass the boundary, pair by pair: a pair that fits is a value with a key, and a value with a key that is as reading
-- makes it is the pair of its kind and its bits.
use Prim.Native.Nat.{ℕ, zero, suc, ◌^◌, ◌≤◌, ◌<◌}
use native.Mathlib.Nat.{le_of_suc-le-suc}
use native.Mathlib.Omega.{arith}
use mathlib.Core.Path.{◌≡◌, refl, sym, ap, ◌∙◌, subst}
use mathlib.Core.Bool.{Bool, true, false, cond}
use mathlib.Core.List.{List, [], ◌∷◌, map}
use borrow.Author.Tests.{leb-false, lt-leb}
use lib.ListN.{length, take, length-map}
use Rattle.float.specs.Number.{is_none}
use Rattle.float.proofs.Tests.{neither, clash}
use Rattle.value.specs.declared.Kind.{Kind}
use Rattle.value.specs.declared.Kind.TheVariants as kind
use Rattle.value.specs.declared.Value.{Value}
use Rattle.value.specs.declared.Value.TheVariants.{U8}
use Rattle.value.specs.Kinds.{form_of, kind_of, width_of}
use Rattle.value.specs.Meaning.{bits_of, exact_of, value_of}
use Rattle.value.specs.Outcome.{gives}
use Rattle.value.specs.Rules.{chain, each_of}
use Rattle.value.proofs.MadeValues.{value_bits, value_kind}
use Rattle.value.proofs.Outcomes.{refuse_passes}
use Rattle.value.proofs.OwnBits.{bits_small}
use Rattle.value.proofs.Ranges.{made_in_range}
use Rattle.record.specs.declared.Field.{Field}
use Rattle.record.specs.declared.Place.{Place}
use Rattle.record.specs.Record.{field_for, fields_of, place_for, kinds_in, kinds_of}
use Rattle.key.specs.Key.{nan_rules}
use Rattle.key.specs.Keyed.{Keyed, AllKeyed, plus_zero_in, normal, normal_fields}
use Rattle.key.specs.Keyed as keyed
use Rattle.silamogo.specs.declared.Sample.{Sample}
use Rattle.silamogo.specs.Samples.{unnamed, any_unnamed, kind_for, too_wide, first_wide, value_for}
use Rattle.silamogo.specs.Records.{sample_for, paired_samples, padded, field_in, record_for, place_in, shape_for, field_bits}
use Rattle.demands.specs.BoundaryKeys.{FieldFits, AllFit, none, more, plus_zero_bits, plus_zeros}
use Rattle.demands.proofs.NormalBits.{normal_again, normal_bits}

-- ---- the places of a record and of a shape

padded_front : {A : Type 0} (d : A) (n : ℕ) (xs : List A) → length xs ≤ n → take (length xs) (padded n d xs) ≡ xs
unfolding padded
padded_front d zero [] h = refl
padded_front d zero (x ∷ xs) h = absurd (omega arith)
padded_front d (suc n) [] h = refl
padded_front {A} d (suc n) (x ∷ xs) h = ap (λ (l : List A). x ∷ l) (padded_front d n xs (le_of_suc-le-suc h))

pub fields_in : (ss : List Sample) → length ss ≤ 12 → fields_of (record_for ss) ≡ map field_in ss
fields_in ss h =
    let same : length (map field_in ss) ≡ length ss = length-map ss field_in in
    ap (λ (n : ℕ). take n (padded 12 (field_for (U8 0)) (map field_in ss))) (sym same)
    ∙ padded_front (field_for (U8 0)) 12 (map field_in ss) (omega (arith, same))

kinds_placed : (ns : List ℕ) → map (λ (p : Place). p.kind) (map place_in ns) ≡ map kind_for ns
kinds_placed [] = refl
kinds_placed (n ∷ ns) = ap (λ (ks : List Kind). kind_for n ∷ ks) (kinds_placed ns)

pub kinds_in_lem : (ns : List ℕ) → length ns ≤ 12 → kinds_in (shape_for ns) ≡ map kind_for ns
kinds_in_lem ns h =
    let same : length (map place_in ns) ≡ length ns = length-map ns place_in in
    ap (λ (n : ℕ). map (λ (p : Place). p.kind) (take n (padded 12 (place_for kind.U8) (map place_in ns)))) (sym same)
    ∙ ap (map (λ (p : Place). p.kind)) (padded_front (place_for kind.U8) 12 (map place_in ns) (omega (arith, same)))
    ∙ kinds_placed ns

-- ---- fields that fit

fit_keyed : (n b : ℕ) → FieldFits n b → Keyed (value_for (sample_for n b))
unfolding value_for
fit_keyed n b h = record { in_range = made_in_range (kind_for n) b; some_number = h.some_number }

fit_small : (n b : ℕ) → FieldFits n b → b < 2 ^ width_of (kind_for n)
unfolding too_wide
fit_small n b h = leb-false (2 ^ width_of (kind_for n)) b h.narrow

pub fit_even : {ns bs : List ℕ} → AllFit ns bs → length ns ≡ length bs
fit_even none = refl
fit_even (more n b ns bs h a) = ap suc (fit_even a)

pub fit_named : {ns bs : List ℕ} → AllFit ns bs → any_unnamed ns ≡ false
unfolding any_unnamed
fit_named none = refl
fit_named (more n b ns bs h a) = rw h.named (fit_named a)

pub fit_narrow : {ns bs : List ℕ} → AllFit ns bs → first_wide (paired_samples ns bs) ≡ length (paired_samples ns bs)
unfolding first_wide paired_samples
fit_narrow none = refl
fit_narrow (more n b ns bs h a) = rw h.narrow (ap suc (fit_narrow a))

pub all_keyed : {ns bs : List ℕ} → AllFit ns bs → AllKeyed (map field_in (paired_samples ns bs))
unfolding paired_samples
all_keyed none = keyed.none
all_keyed (more n b ns bs h a) = keyed.more _ _ (fit_keyed n b h) (all_keyed a)

pub all_kinds : {ns bs : List ℕ} → AllFit ns bs → kinds_of (map field_in (paired_samples ns bs)) ≡ map kind_for ns
unfolding paired_samples value_for
all_kinds none = refl
all_kinds (more n b ns bs h a) = rw (value_kind (kind_for n) b, all_kinds a)

-- ---- what is written fits

narrow_first : (s : Sample) (ss : List Sample) → suc (length ss) ≤ first_wide (s ∷ ss) → (too_wide s ≡ false) × (length ss ≤ first_wide ss)
unfolding first_wide
narrow_first s ss h = go (too_wide s) refl h
  where
    go : (t : Bool) → too_wide s ≡ t → suc (length ss) ≤ cond t 0 (suc (first_wide ss)) → (too_wide s ≡ false) × (length ss ≤ first_wide ss)
    go true q l = absurd (omega arith)
    go false q l = (q, le_of_suc-le-suc l)

-- a result came past the tests for kinds, bits and NaN
pub fit_from : {A : Type 0} (at : ℕ) (ns bs : List ℕ) (x y : A) → any_unnamed ns ≡ false → length ns ≡ length bs
    → length (paired_samples ns bs) ≤ first_wide (paired_samples ns bs)
    → chain (nan_rules at (map field_in (paired_samples ns bs))) (gives x) ≡ gives y → AllFit ns bs × (y ≡ x)
unfolding any_unnamed paired_samples each_of
fit_from at [] [] x y n e l h = (none, cc)
fit_from at [] (b ∷ bs) x y n e l h = absurd (omega arith)
fit_from at (m ∷ ns) [] x y n e l h = absurd (omega arith)
fit_from at (m ∷ ns) (b ∷ bs) x y n e l h =
    let named = neither (unnamed m) (any_unnamed ns) n in
    let narrow = narrow_first (sample_for m b) (paired_samples ns bs) l in
    let some = refuse_passes (is_none (exact_of (value_for (sample_for m b)))) 1 at _ y h in
    let rest = fit_from (suc at) ns bs x y named.1 (omega arith) narrow.1 some.1 in
    (more m b ns bs (record { named = named.0; narrow = narrow.0; some_number = some.0 }) rest.0, rest.1)

-- ---- the bits that are read

fit_normal : (n b : ℕ) → FieldFits n b → bits_of (normal (value_for (sample_for n b))) ≡ plus_zero_bits (sample_for n b)
unfolding value_for
fit_normal n b h =
    normal_bits (value_of (kind_for n) b) (fit_keyed n b h)
    ∙ ap (λ (k : Kind). plus_zero_in (form_of k) (bits_of (value_of (kind_for n) b))) (value_kind (kind_for n) b)
    ∙ ap (plus_zero_in (form_of (kind_for n))) (value_bits (kind_for n) b (fit_small n b h))

pub all_normal : {ns bs : List ℕ} → AllFit ns bs → map field_bits (normal_fields (map field_in (paired_samples ns bs))) ≡ plus_zeros ns bs
unfolding paired_samples
all_normal none = refl
all_normal (more n b ns bs h a) = rw (fit_normal n b h, all_normal a)

-- ---- what was read is such a record

fit_again : (n : ℕ) (v : Value) → unnamed n ≡ false → Keyed v → kind_of v ≡ kind_for n → normal v ≡ v
    → FieldFits n (bits_of v) × (value_for (sample_for n (bits_of v)) ≡ v)
unfolding value_for too_wide
fit_again n v named h k q =
    let is : value_of (kind_for n) (bits_of v) ≡ v = ap (λ (j : Kind). value_of j (bits_of v)) (sym k) ∙ normal_again v h q in
    let small = subst (λ (j : Kind). bits_of v < 2 ^ width_of j) k (bits_small v h.in_range) in (
      record {
        named = named;
        narrow = lt-leb (2 ^ width_of (kind_for n)) (bits_of v) small;
        some_number = ap (λ (u : Value). is_none (exact_of u)) is ∙ h.some_number;
      },
      is,
    )

first_same : {A : Type 0} {x y : A} {xs ys : List A} → x ∷ xs ≡ y ∷ ys → (x ≡ y) × (xs ≡ ys)
first_same q = (cc, cc)

pub all_again : (ns : List ℕ) {fs : List Field} → any_unnamed ns ≡ false → AllKeyed fs → kinds_of fs ≡ map kind_for ns → normal_fields fs ≡ fs
    → AllFit ns (map field_bits fs) × (map field_in (paired_samples ns (map field_bits fs)) ≡ fs)
unfolding any_unnamed paired_samples
all_again [] named keyed.none k q = (none, refl)
all_again [] named (keyed.more f fs h a) k q = clash cc
all_again (n ∷ ns) named keyed.none k q = clash cc
all_again (n ∷ ns) named (keyed.more f fs h a) k q =
    let kinds = first_same k in
    let fields = first_same q in
    let names = neither (unnamed n) (any_unnamed ns) named in
    let one = fit_again n f.value names.0 h kinds.0 (ap (λ (g : Field). g.value) fields.0) in
    let rest = all_again ns names.1 a kinds.1 fields.1 in
    (more n (bits_of f.value) ns (map field_bits fs) one.0 rest.0, rw (one.1, rest.1))
