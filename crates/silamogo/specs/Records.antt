-- Records and keys as they pass the boundary: a list of kind numbers and a list of bits. RULES.md: The boundary.
use Rattle.std.specs.Prelude.{ℕ, zero, suc, Bool, not, ◌||◌, List, [], ◌∷◌, map, eqb, length}
use Rattle.float.specs.declared.Order.{Order}
use Rattle.value.specs.declared.Kind.TheVariants as kind
use Rattle.value.specs.declared.Value.TheVariants.{U8}
use Rattle.value.specs.Meaning.{bits_of}
use Rattle.value.specs.Outcome.{Outcome, Success, done, mapped, lent_after}
use Rattle.value.specs.Rules.{Rule, rule, chain}
use Rattle.record.specs.declared.Field.{Field}
use Rattle.record.specs.declared.Place.{Place}
use Rattle.record.specs.declared.Record.{Record}
use Rattle.record.specs.declared.Shape.{Shape}
use Rattle.record.specs.Record.{field_for, fields_of, place_for, bad_count}
use Rattle.lexical.specs.Lexical.{compare_of}
use Rattle.key.specs.Key.{key_of, write_of, read_of}
use Rattle.silamogo.specs.declared.Sample.{Sample}
use Rattle.silamogo.specs.Samples.{any_unnamed, kind_for, value_for, wide_rule}

-- ---- what two lists stand for

-- a number and bits, as a sample
abbrev pub sample_for : ℕ → ℕ → Sample
sample_for number bits = record { kind = number; bits = bits }

-- kind numbers and bits, pair by pair
unfoldable pub paired_samples : List ℕ → List ℕ → List Sample
paired_samples [] bs = []
paired_samples (n ∷ ns) [] = []
paired_samples (n ∷ ns) (b ∷ bs) = sample_for n b ∷ paired_samples ns bs

-- a number of places: the first of a list, and behind its end a filler
unfoldable pub padded : {A : Type 0} → ℕ → A → List A → List A
padded zero none xs = []
padded (suc n) none [] = none ∷ padded n none []
padded (suc n) none (x ∷ xs) = x ∷ padded n none xs

-- the field of a sample
abbrev pub field_in : Sample → Field
field_in s = field_for (value_for s)

-- the count is the number of fields, above 12 too; twelve places hold the first of them, and u8 0 behind
abbrev pub record_for : List Sample → Record
record_for ss = record { fields = padded 12 (field_for (U8 0)) (map field_in ss); count = length ss }

-- the place of a kind's number
abbrev pub place_in : ℕ → Place
place_in n = place_for (kind_for n)

-- a shape alike, with u8 behind
abbrev pub shape_for : List ℕ → Shape
shape_for ns = record { places = padded 12 (place_for kind.U8) (map place_in ns); count = length ns }

-- the bits of a field
abbrev pub field_bits : Field → ℕ
field_bits f = bits_of f.value

-- the bits of the fields that count
abbrev pub record_bits : Record → List ℕ
record_bits r = map field_bits (fields_of r)

-- ---- the rules before a call's own

-- 9: two lists that differ in length
abbrev pub uneven : List ℕ → List ℕ → Bool
uneven ns bs = not (eqb (length ns) (length bs))

-- of two records: 11 for either count, 7, 9, and 4 in the first before 4 in the second
abbrev pub two_records_rules : List ℕ → List ℕ → List ℕ → List ℕ → List Rule
two_records_rules ns xs ms ys =
    rule 11 0 (bad_count (length ns) || bad_count (length ms))
    ∷ rule 7 0 (any_unnamed ns || any_unnamed ms)
    ∷ rule 9 0 (uneven ns xs || uneven ms ys)
    ∷ wide_rule (paired_samples ns xs)
    ∷ wide_rule (paired_samples ms ys)
    ∷ []

-- of one record: 11, 7, 9, 4
abbrev pub field_rules : List ℕ → List ℕ → List Rule
field_rules ns bs =
    rule 11 0 (bad_count (length ns))
    ∷ rule 7 0 (any_unnamed ns)
    ∷ rule 9 0 (uneven ns bs)
    ∷ wide_rule (paired_samples ns bs)
    ∷ []

-- of a shape and a lent row of bits: 11, 7, then 9 for a row that isn't as long
abbrev pub room_rules : List ℕ → ℕ → List Rule
room_rules ns room = rule 11 0 (bad_count (length ns)) ∷ rule 7 0 (any_unnamed ns) ∷ rule 9 0 (not (eqb (length ns) room)) ∷ []

-- ---- the calls

-- how two records compare
unfoldable pub records_order : List ℕ → List ℕ → List ℕ → List ℕ → Outcome Order
records_order ns xs ms ys = chain (two_records_rules ns xs ms ys) (compare_of (record_for (paired_samples ns xs)) (record_for (paired_samples ms ys)))

-- into a buffer of `room` bytes
unfoldable pub key_length : List ℕ → List ℕ → ℕ → Outcome ℕ
key_length ns bs room = chain (field_rules ns bs) (write_of (record_for (paired_samples ns bs)) room)

-- the buffer at the end
unfoldable pub key_exit : List ℕ → List ℕ → List ℕ → List ℕ
key_exit ns bs old = lent_after (λ n. key_of (fields_of (record_for (paired_samples ns bs)))) (key_length ns bs (length old)) old

-- into a lent row of `room` bits
unfoldable pub record_read : List ℕ → List ℕ → ℕ → Outcome Record
record_read ns key room = chain (room_rules ns room) (read_of (shape_for ns) key)

-- the row at the end
unfoldable pub read_exit : List ℕ → List ℕ → List ℕ → List ℕ
read_exit ns key old = lent_after record_bits (record_read ns key (length old)) old

-- a call that gives nothing but its success
abbrev pub success_of : {A : Type 0} → Outcome A → Outcome Success
success_of o = mapped (λ r. done) o
