-- The values and records that have a key, and what reading makes of them: demand 3 speaks of these. RULES.md: Keys, the three demands.
use Rattle.std.specs.Prelude.{ℕ, ◌<◌, ◌≤◌, ◌≡◌, false, cond, List, [], ◌∷◌, map, eqb, length}
use Rattle.float.specs.Format.{sign_in}
use Rattle.float.specs.Number.{is_none}
use Rattle.value.specs.declared.Value.{Value}
use Rattle.value.specs.Kinds.{Form, unsigned, signed, floating, kind_of}
use Rattle.value.specs.Meaning.{Content, natural, integer, real, content_of, InRange, exact_of, value_of}
use Rattle.record.specs.declared.Field.{Field}
use Rattle.record.specs.declared.Record.{Record}
use Rattle.record.specs.declared.Shape.{Shape}
use Rattle.record.specs.Record.{field_for, fields_of, value_at, kinds_in, kinds_of, record_of}
use Rattle.key.specs.Key.{key_of}

-- in range and no NaN: the values that have a key
pub record Keyed (v : Value) : Type 0 where
  pub in_range : InRange v
  pub some_number : is_none (exact_of v) ≡ false

-- the value of every field has a key
pub data AllKeyed : List Field → Type 0 where
  none : AllKeyed []
  more : (f : Field) (fs : List Field) → Keyed f.value → AllKeyed fs → AllKeyed (f ∷ fs)

-- ---- what reading makes of a value and of a record

-- the sign bit of a float alone is minus zero, and 0 is plus zero; an integer's bits stay as they are
abbrev pub plus_zero_in : Form → ℕ → ℕ
plus_zero_in (unsigned k) b = b
plus_zero_in (signed k) b = b
plus_zero_in (floating f) b = cond (eqb b (sign_in f)) 0 b

-- the float of its bits with minus zero made plus zero; an integer stays as it is
abbrev pub made_normal : Content → Value → Value
made_normal (natural k n) v = v
made_normal (integer k z) v = v
made_normal (real f b) v = value_of (kind_of v) (plus_zero_in (floating f) b)

-- minus zero made plus zero
abbrev pub normal : Value → Value
normal v = made_normal (content_of v) v

-- each field made normal
abbrev pub normal_fields : List Field → List Field
normal_fields fs = map (λ (f : Field). field_for (normal f.value)) fs

-- the fields made normal, and u8 0 in the places past them
abbrev pub normal_record : Record → Record
normal_record r = record_of (normal_fields (fields_of r))

-- ---- records and shapes

-- the key of a record
abbrev pub record_key : Record → List ℕ
record_key r = key_of (fields_of r)

-- no field that counts is a NaN
abbrev pub NoNan : Record → Type 0
NoNan r = (at : ℕ) → at < r.count → is_none (exact_of (value_at r.fields at)) ≡ false

-- the count and the kinds of the shape
abbrev pub HasShape : Shape → Record → Type 0
HasShape s r = (r.count ≡ s.count) × (kinds_of (fields_of r) ≡ kinds_in s)

-- a shape of 1 to 12 fields, in the twelve places that a program holds
pub record Usable (s : Shape) : Type 0 where
  pub some : 0 < s.count
  pub few : s.count ≤ 12
  pub places : length s.places ≡ 12

-- a record of the shape, in the twelve places that a program holds, without NaN
pub record OfShape (s : Shape) (r : Record) : Type 0 where
  pub places : length r.fields ≡ 12
  pub count_is : r.count ≡ s.count
  pub kinds_are : kinds_of (fields_of r) ≡ kinds_in s
  pub keyed : AllKeyed (fields_of r)
