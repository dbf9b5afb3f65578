-- What a result says of the rules before it: none of them held. Reading goes by its rules field by field.
use mathlib.Core.Path.{◌≡◌, refl, sym, ap}
use mathlib.Core.Bool.{not}
use mathlib.Core.List.{List, [], ◌∷◌}
use Prim.Native.Nat.{ℕ, suc}
use lib.Dec.{eqb}
use lib.ListN.{length, take, drop}
use Rattle.value.specs.declared.Kind.{Kind}
use Rattle.value.specs.Kinds.{form_of, bytes_of}
use Rattle.value.specs.Meaning.{value_of}
use Rattle.value.specs.Outcome.{gives, refuse_if, mapped}
use Rattle.value.specs.Rules.{each_of}
use Rattle.value.proofs.Rules.{chain_mapped}
use Rattle.record.specs.declared.Shape.{Shape}
use Rattle.record.specs.Record.{field_for, bad_count, kinds_in, record_of}
use Rattle.bytewise.specs.Numbers.{from_big_endian}
use Rattle.key.specs.Key.{bits_from, not_canonical, bytes_in, key_numbers, canonical_rules, fields_from, read_of}
use Rattle.key.specs.Inner.{read_fields, field_then}

-- ---- reading

pub read_none : (at : ℕ) (key : List ℕ) → read_fields at [] key ≡ gives []
unfolding read_fields key_numbers each_of
read_none at key = refl

pub read_more : (at : ℕ) (k : Kind) (ks : List Kind) (key : List ℕ)
    → read_fields at (k ∷ ks) key ≡ field_then at k (from_big_endian 0 (take (bytes_of k) key)) (read_fields (suc at) ks (drop (bytes_of k) key))
unfolding read_fields key_numbers each_of
read_more at k ks key =
    let n : ℕ = from_big_endian 0 (take (bytes_of k) key) in
    let rest : List (Kind × ℕ) = key_numbers ks (drop (bytes_of k) key) in
    ap (refuse_if (not_canonical (form_of k) n) 12 at)
    (sym (chain_mapped (λ fs. field_for (value_of k (bits_from (form_of k) n)) ∷ fs) (canonical_rules (suc at) rest) (gives (fields_from rest))))

pub read_by : (s : Shape) (key : List ℕ)
    → read_of s key ≡ refuse_if (bad_count s.count) 11 0
    (refuse_if (not (eqb (length key) (bytes_in (kinds_in s)))) 9 0 (mapped record_of (read_fields 0 (kinds_in s) key)))
unfolding read_of read_fields
read_by s key =
    let ns : List (Kind × ℕ) = key_numbers (kinds_in s) key in
    ap (λ o. refuse_if (bad_count s.count) 11 0 (refuse_if (not (eqb (length key) (bytes_in (kinds_in s)))) 9 0 o))
    (sym (chain_mapped record_of (canonical_rules 0 ns) (gives (fields_from ns))))
