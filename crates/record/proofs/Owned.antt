-- What a program can hold: a record of twelve places, each with a value in range, and a shape of twelve places; the count is a usize.
-- An array owns each of its elements, and a field owns its value, so what owning a value tells is told of each place, and no more is asked.
use Prim.Native.Nat.{ℕ, zero, suc, ◌^◌, ◌<◌}
use mathlib.Core.Path.{◌≡◌, refl}
use mathlib.Core.Logic.{◌↔◌}
use mathlib.Core.List.{List, [], ◌∷◌}
use native.Mathlib.Omega.{arith}
use lib.ListN.{length, get_or}
use mir.Val.{Val}
use denote.RattleType.{RattleType}
use denote.Shadow.{shadow}
use denote.Laws.{Is}
use denote.Array.{each}
use Rattle.value.specs.declared.Kind.{Kind}
use Rattle.value.specs.declared.Kind.TheVariants as kind
use Rattle.value.specs.declared.Value.TheVariants.{U8}
use Rattle.value.specs.Meaning.{InRange}
use Rattle.value.proofs.Ranges.{value_held, Stands, value_stands}
use Rattle.value.specs.contracts.Kind as kind-type
use Rattle.record.specs.declared.Field.{Field}
use Rattle.record.specs.declared.Place.{Place}
use Rattle.record.specs.declared.Record.{Record}
use Rattle.record.specs.declared.Shape.{Shape}
use Rattle.record.specs.Record.{field_for, value_at, place_for}
use Rattle.record.specs.contracts.Field as field-type
use Rattle.record.specs.contracts.Place as place-type
use Rattle.record.specs.contracts.Record as record-type
use Rattle.record.specs.contracts.Shape as shape-type

-- ---- what owning tells

-- what owning one element tells holds of the element in each place, if it holds of what stands for the places past the end
each_told : (R : RattleType) (P : R.Denot → Type 0) → ((x : R.Denot) (vs : List Val) → Is R x vs → P x)
    → (d : R.Denot) → P d → (xs : List R.Denot) (us : List Val) → shadow (each R.Denot R.own_val xs us) → (at : ℕ) → P (get_or xs at d)
each_told R P told d h [] us p at = h
each_told R P told d h (x ∷ xs) [] p at = absurd p
each_told R P told d h (x ∷ xs) (u ∷ us) p zero = told x (u ∷ []) p.0
each_told R P told d h (x ∷ xs) (u ∷ us) p (suc at) = each_told R P told d h xs us p.1 at

field_held : (f : Field) (vs : List Val) → Is field-type.the_row f vs → InRange f.value
field_held f vs p = value_held f.value _ p.1.1.0

-- ---- what is in range can be owned

field_stands : (f : Field) → InRange f.value → Stands field-type.the_row f
field_stands f h = let v = value_stands f.value h in (_, ((_, tt), (refl, (v.1, tt))))

kind_stands : (k : Kind) → Stands kind-type.the_row k
kind_stands kind.U8 = (_, (_, (refl, (tt, (refl, tt)))))
kind_stands kind.U16 = (_, (_, (refl, (tt, (refl, tt)))))
kind_stands kind.U32 = (_, (_, (refl, (tt, (refl, tt)))))
kind_stands kind.U64 = (_, (_, (refl, (tt, (refl, tt)))))
kind_stands kind.I8 = (_, (_, (refl, (tt, (refl, tt)))))
kind_stands kind.I16 = (_, (_, (refl, (tt, (refl, tt)))))
kind_stands kind.I32 = (_, (_, (refl, (tt, (refl, tt)))))
kind_stands kind.I64 = (_, (_, (refl, (tt, (refl, tt)))))
kind_stands kind.F32 = (_, (_, (refl, (tt, (refl, tt)))))
kind_stands kind.F64 = (_, (_, (refl, (tt, (refl, tt)))))
kind_stands kind.F16 = (_, (_, (refl, (tt, (refl, tt)))))

place_stands : (p : Place) → Stands place-type.the_row p
place_stands p = (_, ((_, tt), (refl, ((kind_stands p.kind).1, tt))))

-- if each element can be held, so can all
each_stands : (R : RattleType) (d : R.Denot) (xs : List R.Denot) → ((at : ℕ) → Stands R (get_or xs at d))
    → (us : List Val) × shadow (each R.Denot R.own_val xs us)
each_stands R d [] h = ([], tt)
each_stands R d (x ∷ xs) h =
    let first = h 0 in
    let rest = each_stands R d xs (λ at. h (suc at)) in
    (first.0 ∷ rest.0, (first.1, rest.1))

-- ---- records and shapes

pub record_held : (r : Record) → ((vs : List Val) × Is record-type.the_row r vs)
    ↔ ((length r.fields ≡ 12) × ((at : ℕ) → InRange (value_at r.fields at)) × (r.count < 2 ^ 64))
record_held r =
    let none = field_for (U8 0) in (
      (λ held.
          let own = held.1.1.1 in
          let each_range = each_told field-type.the_row (λ (f : Field). InRange f.value) field_held none (omega arith) in
          (own.0.1.0.1, each_range r.fields _ own.0.1.1, own.1.0.1)),
      λ good.
          let fields = each_stands field-type.the_row none r.fields (λ at. field_stands (get_or r.fields at none) (good.1 at)) in
          (_, ((_, (_, tt)), (refl, ((fields.0, ((refl, good.0), fields.1)), ((refl, good.2), tt))))),
    )

pub shape_held : (s : Shape) → ((vs : List Val) × Is shape-type.the_row s vs) ↔ ((length s.places ≡ 12) × (s.count < 2 ^ 64))
shape_held s =
    let none = place_for kind.U8 in (
      (λ held. let own = held.1.1.1 in (own.0.1.0.1, own.1.0.1)),
      λ good.
          let places = each_stands place-type.the_row none s.places (λ at. place_stands (get_or s.places at none)) in
          (_, ((_, (_, tt)), (refl, ((places.0, ((refl, good.0), places.1)), ((refl, good.1), tt))))),
    )
