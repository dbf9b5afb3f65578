-- Records and their shapes: made, set, read. RULES.md: Records, Refusals.
use Rattle.value.specs.declared.Refusal.{Refusal}
use Rattle.std.specs.Prelude.{ℕ, suc, ◌-◌, Bool, ◌||◌, List, [], ◌∷◌, ◌++◌, map, eqb, ltb, length, take, replicate, set, get_or, Result, Err, Ok}
use Rattle.value.specs.declared.Kind.{Kind}
use Rattle.value.specs.declared.Kind.TheVariants as kind
use Rattle.value.specs.declared.Value.{Value}
use Rattle.value.specs.declared.Value.TheVariants.{U8}
use Rattle.value.specs.Kinds.{kind_of}
use Rattle.value.specs.Outcome.{Outcome, gives, refuses}
use Rattle.value.specs.Rules.{Rule, rule, chain}
use Rattle.record.specs.declared.Field.{Field}
use Rattle.record.specs.declared.Record.{Record}
use Rattle.record.specs.declared.Place.{Place}
use Rattle.record.specs.declared.Shape.{Shape}
use Rattle.record.specs.declared.Recorded.{Recorded}
use Rattle.record.specs.declared.Shaped.{Shaped}

-- ---- records and their fields

-- a place that holds a value
abbrev pub field_for : Value → Field
field_for v = record { value = v }

-- the fields that count
abbrev pub fields_of : Record → List Field
fields_of r = take r.count r.fields

-- the value in a place
abbrev pub value_at : List Field → ℕ → Value
value_at fs at = (get_or fs at (field_for (U8 0))).value

-- count 0, and u8 0 in every place
abbrev pub blank : Record
blank = record { fields = replicate 12 (field_for (U8 0)); count = 0 }

-- a place of a shape
abbrev pub place_for : Kind → Place
place_for k = record { kind = k }

-- count 0, and u8 in every place
abbrev pub blank_shape : Shape
blank_shape = record { places = replicate 12 (place_for kind.U8); count = 0 }

-- rule 11: a count of 0 or above 12
abbrev pub bad_count : ℕ → Bool
bad_count n = eqb n 0 || ltb 12 n

-- ---- what the answers say in the words of the rules

-- whether there is a result
abbrev pub made_of : {A : Type 0} → Outcome A → Result (Unit {0}) Refusal
made_of (gives a) = Ok tt
made_of (refuses number place) = Err (record { number = number; place = place })

-- the result, or after a refusal what stands in for it
abbrev pub result_or : {A : Type 0} → A → Outcome A → A
result_or none (gives a) = a
result_or none (refuses number place) = none

-- a record beside its outcome
abbrev pub recorded_of : Outcome Record → Recorded
recorded_of o = record { outcome = made_of o; «record» = result_or blank o }

-- a shape beside its outcome
abbrev pub shaped_of : Outcome Shape → Shaped
shaped_of o = record { outcome = made_of o; shape = result_or blank_shape o }

-- ---- making, setting and reading

-- a place past the twelve is 11: its field would make the count too high
abbrev pub place_rules : ℕ → List Rule
place_rules at = rule 11 0 (ltb 11 at) ∷ []

-- the record with one place changed
unfoldable pub set_of : Record → ℕ → Value → Outcome Record
set_of r at v = chain (place_rules at) (gives (record { fields = set r.fields at (field_for v); count = r.count }))

-- the value in a place
unfoldable pub get_of : Record → ℕ → Outcome Value
get_of r at = chain (place_rules at) (gives (value_at r.fields at))

-- one more field behind those that count
unfoldable pub push_of : Record → Value → Outcome Record
push_of r v = chain (place_rules r.count) (gives (record { fields = set r.fields r.count (field_for v); count = suc r.count }))

-- ---- shapes

-- the kinds of a shape
abbrev pub kinds_in : Shape → List Kind
kinds_in s = map (λ (p : Place). p.kind) (take s.count s.places)

-- the kinds of fields
abbrev pub kinds_of : List Field → List Kind
kinds_of fs = map (λ (f : Field). kind_of f.value) fs

-- the kinds of the fields that count, and u8 in the places past them
abbrev pub shape_for : List Kind → Shape
shape_for ks = record { places = map place_for ks ++ replicate (12 - length ks) (place_for kind.U8); count = length ks }

-- a count of 0 or above 12 is 11
abbrev pub count_rules : ℕ → List Rule
count_rules n = rule 11 0 (bad_count n) ∷ []

-- the shape of a record
unfoldable pub shape_of : Record → Outcome Shape
shape_of r = chain (count_rules r.count) (gives (shape_for (kinds_of (fields_of r))))

-- the record with these fields, and u8 0 in the places past them
abbrev pub record_of : List Field → Record
record_of fs = record { fields = fs ++ replicate (12 - length fs) (field_for (U8 0)); count = length fs }
