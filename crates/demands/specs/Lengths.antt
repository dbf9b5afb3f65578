-- Refusals 9, 10 and 11 of records and keys in other words, by counts and lengths alone. RULES.md: Refusals, Records, Keys.
use Rattle.std.specs.Prelude.{ℕ, ◌≤◌, ◌<◌, ◌≡◌, ◌⊎◌, ◌↔◌, false, List, length}
use Rattle.value.specs.declared.Value.{Value}
use Rattle.value.specs.Outcome.{refuses}
use Rattle.record.specs.declared.Record.{Record}
use Rattle.record.specs.declared.Shape.{Shape}
use Rattle.record.specs.Record.{fields_of, bad_count, kinds_in, kinds_of, set_of, get_of, push_of, shape_of}
use Rattle.key.specs.Key.{bytes_in, write_of, read_of}
use Rattle.key.specs.Keyed.{record_key}

-- no field, or more than twelve
abbrev pub NoneOrMany : ℕ → Type 0
NoneOrMany n = (n ≡ 0) ⊎ (12 < n)

-- of every record, shape, place, buffer and byte string
pub record Lengths : Type 0 where
  -- 11 comes first, and exactly for a count of 0 or above 12
  pub shape_eleven : (r : Record) → (shape_of r ≡ refuses 11 0) ↔ NoneOrMany r.count
  pub write_eleven : (r : Record) (room : ℕ) → (write_of r room ≡ refuses 11 0) ↔ NoneOrMany r.count
  pub read_eleven : (s : Shape) (key : List ℕ) → (read_of s key ≡ refuses 11 0) ↔ NoneOrMany s.count
  -- for a place from the thirteenth on, and for a thirteenth field
  pub set_eleven : (r : Record) (at : ℕ) (v : Value) → (set_of r at v ≡ refuses 11 0) ↔ (12 ≤ at)
  pub get_eleven : (r : Record) (at : ℕ) → (get_of r at ≡ refuses 11 0) ↔ (12 ≤ at)
  pub push_eleven : (r : Record) (v : Value) → (push_of r v ≡ refuses 11 0) ↔ (12 ≤ r.count)
  -- 10 exactly where the buffer is shorter than the key
  pub write_ten : (r : Record) (room : ℕ) → bad_count r.count ≡ false → (write_of r room ≡ refuses 10 0) ↔ (room < length (record_key r))
  -- 9 exactly where the byte string isn't as long as the keys of the shape
  pub read_nine : (s : Shape) (key : List ℕ) → bad_count s.count ≡ false → (read_of s key ≡ refuses 9 0) ↔ (length key ≡ bytes_in (kinds_in s) → ⊥)
  -- a key is as long as the bytes of its kinds together
  pub key_length_lem : (r : Record) → length (record_key r) ≡ bytes_in (kinds_of (fields_of r))
