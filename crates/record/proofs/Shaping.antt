-- The places of a shape while they are filled: the kinds of the fields so far, and u8 behind them.
use Prim.Native.Nat.{ℕ, suc, ◌+◌, ◌-◌, ◌≤◌, ◌<◌}
use mathlib.Core.Path.{◌≡◌, sym, ◌∙◌}
use mathlib.Core.List.{List, [], ◌∷◌, ◌++◌, map, map-append}
use native.Mathlib.Omega.{arith}
use native.Mathlib.Numerals.{add-one}
use lib.ListN.{length, length-map, take, set, replicate}
use lib.Seq.{take-suc, append_snoc, set_at, length-take-le}
use Rattle.value.specs.declared.Kind.{Kind}
use Rattle.value.specs.declared.Kind.TheVariants as kind
use Rattle.value.specs.declared.Value.TheVariants.{U8}
use Rattle.value.specs.Kinds.{kind_of}
use Rattle.record.specs.declared.Field.{Field}
use Rattle.record.specs.declared.Place.{Place}
use Rattle.record.specs.Record.{field_for, value_at, place_for, kinds_of}

abbrev pub places_from : ℕ → List Kind → List Place
places_from at ks = map place_for ks ++ replicate (12 - at) (place_for kind.U8)

places_so_far : (l : List Field) (at : ℕ) → at ≤ length l → length (map place_for (kinds_of (take at l))) ≡ at
places_so_far l at h = simp length-map (length-take-le at l h)

pub one_more : (fs : List Field) (at : ℕ) {k : Kind} → length fs ≤ 12 → at < length fs → k ≡ kind_of (value_at fs at)
    → set (places_from at (kinds_of (take at fs))) at (place_for k) ≡ places_from (at + 1) (kinds_of (take (at + 1) fs))
one_more fs at {k} few h q =
    let e : 12 - at ≡ suc (12 - (at + 1)) = omega arith in
    let so_far = map place_for (kinds_of (take at fs)) in
    let rest = replicate (12 - (at + 1)) (place_for kind.U8) in
    let put : set (so_far ++ place_for kind.U8 ∷ rest) at (place_for k) ≡ so_far ++ place_for k ∷ rest =
    set_at so_far (place_for kind.U8) rest (place_for k) at (places_so_far fs at (omega arith)) in
    let more : map place_for (kinds_of (take (at + 1) fs)) ≡ so_far ++ (place_for k ∷ []) =
    rw (add-one at, take-suc fs at (field_for (U8 0)) h, map-append, map-append, q) in
    rw (e, more) (put ∙ sym (append_snoc so_far (place_for k) rest))
