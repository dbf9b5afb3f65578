-- The fields of one shape, one after another: their keys order as they do, and reading and writing undo each other.
-- The keys of two fields of one kind have one length, so the order and the reading of the joined string go field by field.
use mathlib.Core.Path.{◌≡◌, refl, sym, ap, ◌∙◌, subst}
use mathlib.Core.Logic.{◌↔◌}
use mathlib.Core.Bool.{false}
use mathlib.Core.List.{List, [], ◌∷◌}
use Prim.Native.Nat.{ℕ, suc, ◌^◌, ◌<◌, ◌≤◌}
use native.Mathlib.Omega.{arith}
use lib.ListN.{length, take, drop, length-append, length-drop, take-append-drop}
use lib.Seq.{take_at, drop_at, length-take-le}
use Rattle.float.specs.declared.Order.{Order}
use Rattle.float.specs.declared.Order.TheVariants.{Equal}
use Rattle.float.proofs.Tests.{clash}
use Rattle.value.specs.declared.Kind.{Kind}
use Rattle.value.specs.declared.Value.{Value}
use Rattle.value.specs.Kinds.{form_of, kind_of, bytes_of}
use Rattle.value.specs.Meaning.{value_of}
use Rattle.value.specs.Outcome.{gives}
use Rattle.value.proofs.MadeValues.{value_kind}
use Rattle.value.proofs.Outcomes.{refuse_passes, mapped_gives}
use Rattle.cmp.specs.Compare.{value_order}
use Rattle.record.specs.declared.Field.{Field}
use Rattle.float.specs.Order.{or_else}
use Rattle.record.specs.Record.{field_for, kinds_of}
use Rattle.lexical.specs.Lexical.{lexical_of}
use Rattle.bytewise.specs.Numbers.{big_endian, from_big_endian, Bytes}
use Rattle.key.specs.Key.{key_number, field_key, key_of, bits_from, not_canonical, bytes_in}
use Rattle.key.specs.Inner.{read_fields}
use Rattle.bytewise.specs.Order.{bytes_order}
use Rattle.bytewise.specs.Numbers as numbers
use Rattle.key.specs.Keyed.{Keyed, AllKeyed, none, more, normal_fields}
use Rattle.key.proofs.Passing.{read_none, read_more}
use Rattle.bytewise.proofs.BigEndian.{bytes_append, bytes_big, bytes_take, bytes_drop, length_big, number_big, big_number, number_below}
use Rattle.bytewise.proofs.BigEndian.{order_append, order_big, equal_bytes, bytes_equal}
use Rattle.key.proofs.FieldKeys.{field_order_lem, field_read, field_write}

field_length : (v : Value) → length (field_key v) ≡ bytes_of (kind_of v)
field_length v = length_big (bytes_of (kind_of v)) (key_number v)

-- ---- the order

field_bytes : (v w : Value) → Keyed v → Keyed w → kind_of v ≡ kind_of w → bytes_order (field_key v) (field_key w) ≡ value_order v w
field_bytes v w h k q =
    let l : key_number w < 256 ^ bytes_of (kind_of v) = subst (λ (j : Kind). key_number w < 256 ^ bytes_of j) (sym q) (field_read w k).below in
    ap (λ (j : Kind). bytes_order (field_key v) (big_endian (bytes_of j) (key_number w))) (sym q)
    ∙ order_big (bytes_of (kind_of v)) (key_number v) (key_number w) (field_read v h).below l
    ∙ field_order_lem v w h k q

head_kind : {j k : Kind} {js ks : List Kind} → j ∷ js ≡ k ∷ ks → (j ≡ k) × (js ≡ ks)
head_kind q = (cc, cc)

pub keys_order_lem : {xs ys : List Field} → AllKeyed xs → AllKeyed ys → kinds_of xs ≡ kinds_of ys → bytes_order (key_of xs) (key_of ys) ≡ lexical_of xs ys
unfolding key_of lexical_of bytes_order
keys_order_lem none none q = refl
keys_order_lem none (more y ys k b) q = clash cc
keys_order_lem (more x xs h a) none q = clash cc
keys_order_lem (more x xs h a) (more y ys k b) q =
    let same = head_kind q in
    order_append (field_key x.value) (field_key y.value) (key_of xs) (key_of ys)
    (field_length x.value ∙ ap bytes_of same.0 ∙ sym (field_length y.value))
    ∙ ap (λ (o : Order). or_else o (bytes_order (key_of xs) (key_of ys))) (field_bytes x.value y.value h k same.0)
    ∙ ap (or_else (value_order x.value y.value)) (keys_order_lem a b same.1)

-- the same bytes exactly when the fields compare Equal
pub same_keys : {xs ys : List Field} → AllKeyed xs → AllKeyed ys → kinds_of xs ≡ kinds_of ys → (key_of xs ≡ key_of ys) ↔ (lexical_of xs ys ≡ Equal)
same_keys {xs} {ys} a b q = (
  λ e. sym (keys_order_lem a b q) ∙ ap (bytes_order (key_of xs)) (sym e) ∙ bytes_equal (key_of xs),
  λ e. equal_bytes (key_of xs) (key_of ys) (keys_order_lem a b q ∙ e),
)

-- ---- reading what was written

pub key_bytes : (xs : List Field) → Bytes (key_of xs)
unfolding key_of
key_bytes [] = numbers.none
key_bytes (x ∷ xs) = bytes_append (bytes_big (bytes_of (kind_of x.value)) (key_number x.value)) (key_bytes xs)

pub key_length_lem : (xs : List Field) → length (key_of xs) ≡ bytes_in (kinds_of xs)
unfolding key_of bytes_in
key_length_lem [] = refl
key_length_lem (x ∷ xs) = length-append (field_key x.value) (key_of xs) ∙ rw (field_length x.value, key_length_lem xs)

pub read_written : (at : ℕ) {xs : List Field} → AllKeyed xs → read_fields at (kinds_of xs) (key_of xs) ≡ gives (normal_fields xs)
unfolding key_of
read_written at none = read_none at []
read_written at (more x xs h a) =
    let v = x.value in
    let r = field_read v h in
    read_more at (kind_of v) (kinds_of xs) (key_of (x ∷ xs)) ∙ rw (
      take_at (field_key v) (key_of xs) (bytes_of (kind_of v)) (field_length v),
      drop_at (field_key v) (key_of xs) (bytes_of (kind_of v)) (field_length v),
      number_big (bytes_of (kind_of v)) (key_number v) r.below,
      read_written (suc at) a,
      r.canonical,
      r.value_is,
    )

-- ---- writing what was read

-- these fields have this key, are of these kinds and hold no NaN
pub record FieldsFor (ks : List Kind) (key : List ℕ) (fs : List Field) : Type 0 where
  pub key_is : key_of fs ≡ key
  pub kinds_are : kinds_of fs ≡ ks
  pub keyed : AllKeyed fs

-- one field more
field_more : (k : Kind) (ks : List Kind) (key : List ℕ) (gs : List Field) → Bytes key → bytes_of k ≤ length key
    → not_canonical (form_of k) (from_big_endian 0 (take (bytes_of k) key)) ≡ false → FieldsFor ks (drop (bytes_of k) key) gs
    → FieldsFor (k ∷ ks) key (field_for (value_of k (bits_from (form_of k) (from_big_endian 0 (take (bytes_of k) key)))) ∷ gs)
unfolding key_of
field_more k ks key gs b l c r =
    let front = bytes_take (bytes_of k) b in
    let n = from_big_endian 0 (take (bytes_of k) key) in
    let is : length (take (bytes_of k) key) ≡ bytes_of k = length-take-le (bytes_of k) key l in
    let small : n < 256 ^ bytes_of k = subst (λ (m : ℕ). n < 256 ^ m) is (number_below front) in
    let w = field_write k n small c in
    let q : big_endian (bytes_of k) n ≡ take (bytes_of k) key = subst (λ (m : ℕ). big_endian m n ≡ take (bytes_of k) key) is (big_number front) in
    record {
      key_is = rw (value_kind k (bits_from (form_of k) n), w.number_is, q, r.key_is) (take-append-drop (bytes_of k) key);
      kinds_are = cc (value_kind k (bits_from (form_of k) n), r.kinds_are);
      keyed = more _ gs w.keyed r.keyed;
    }

pub written_read : (at : ℕ) (ks : List Kind) (key : List ℕ) → Bytes key → length key ≡ bytes_in ks → (fs : List Field)
    → read_fields at ks key ≡ gives fs → FieldsFor ks key fs
unfolding bytes_in key_of
written_read at [] [] b l fs e =
    let h : gives [] ≡ gives fs = sym (read_none at []) ∙ e in
    let q : [] ≡ fs = cc in
    subst (λ (gs : List Field). FieldsFor [] [] gs) q (record { key_is = refl; kinds_are = refl; keyed = none })
written_read at [] (x ∷ key) b l fs e = absurd (omega arith)
written_read at (k ∷ ks) key b l fs e =
    let c = refuse_passes (not_canonical (form_of k) (from_big_endian 0 (take (bytes_of k) key))) 12 at _ fs (sym (read_more at k ks key) ∙ e) in
    let m = mapped_gives _ (read_fields (suc at) ks (drop (bytes_of k) key)) c.1 in
    let r = written_read (suc at) ks (drop (bytes_of k) key) (bytes_drop (bytes_of k) b) (length-drop (bytes_of k) key ∙ omega arith) m.0 m.1 in
    subst (λ (gs : List Field). FieldsFor (k ∷ ks) key gs) m.2 (field_more k ks key m.0 b (omega arith) c.0 r)

-- so no two strings are read as the same fields
pub read_injective : (at : ℕ) (ks : List Kind) (a b : List ℕ) → Bytes a → Bytes b → length a ≡ bytes_in ks → length b ≡ bytes_in ks
    → (fs : List Field) → read_fields at ks a ≡ gives fs → read_fields at ks b ≡ gives fs → a ≡ b
read_injective at ks a b i j h k fs p q = sym (written_read at ks a i h fs p).key_is ∙ (written_read at ks b j k fs q).key_is
