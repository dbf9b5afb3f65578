-- Demand 3: the bytes of keys order as the records do, and a byte string is a key exactly when some record has it. RULES.md: Keys.
use Rattle.std.specs.Prelude.{ℕ, ◌^◌, ◌≤◌, ◌<◌, ◌≡◌, false, ◌↔◌, List, ◌++◌, length, take, drop, get_or}
use Rattle.float.specs.declared.Order.{Order}
use Rattle.float.specs.declared.Order.TheVariants.{Equal}
use Rattle.float.specs.Order.{order_n}
use Rattle.value.specs.Meaning.{InRange}
use Rattle.value.specs.Outcome.{gives}
use Rattle.record.specs.declared.Record.{Record}
use Rattle.record.specs.declared.Shape.{Shape}
use Rattle.record.specs.Record.{value_at, bad_count, shape_of}
use Rattle.lexical.specs.Lexical.{compare_of}
use Rattle.laws_cmp.specs.Laws.{OneShape}
use Rattle.key.specs.Key.{write_of, write_exit, read_of}
use Rattle.bytewise.specs.Numbers.{Bytes}
use Rattle.key.specs.Keyed.{NoNan, HasShape, Usable, OfShape, record_key, normal_record}
use Rattle.key.specs.Held.{HeldRecord, HeldShape, LentBytes}

-- two lists differ at i, a place of both, and not before
pub record DifferAt (i : ℕ) (k l : List ℕ) : Type 0 where
  pub inside : i < length k
  pub inside_other : i < length l
  pub same_before : take i k ≡ take i l
  pub differ : get_or k i 0 ≡ get_or l i 0 → ⊥

-- ---- what a program holds meets the premises of the demand: usable shapes, records of them, strings of bytes

-- "no NaN" and "of one shape" are then all that is asked of two records
pub record Held : Type 0 where
  -- a program can hold a record exactly if it has twelve places, a value in range in each, and a count in 64 bits
  pub records : (r : Record)
      → HeldRecord r ↔ ((length r.fields ≡ 12) × ((at : ℕ) → InRange (value_at r.fields at)) × (r.count < 2 ^ 64))
  -- a shape alike
  pub shapes : (s : Shape) → HeldShape s ↔ ((length s.places ≡ 12) × (s.count < 2 ^ 64))
  -- and what a lent row of u8 tells is that it is bytes
  pub bytes : (l : List ℕ) → LentBytes l ↔ Bytes l
  -- a shape of 1 to 12 fields is usable
  pub usable : (s : Shape) → HeldShape s → bad_count s.count ≡ false → Usable s
  -- a record without NaN is of every shape with its count and its kinds
  pub of_shape : (r : Record) → HeldRecord r → NoNan r → (s : Shape) → HasShape s r → OfShape s r
  -- and so of its own, which is usable
  pub own_shape : (r : Record) → HeldRecord r → NoNan r → (s : Shape) → shape_of r ≡ gives s → Usable s × OfShape s r
  -- two records compare exactly when they are of one shape
  pub compared : (a b : Record) → ((o : Order) × (compare_of a b ≡ gives o)) ↔ OneShape a b
  -- which is that they have the same shape
  pub one_shape : (a b : Record) → OneShape a b ↔ ((s : Shape) × (shape_of a ≡ gives s) × (shape_of b ≡ gives s))
  -- and that a shape of the one is a shape of the other
  pub shared_shape : (s : Shape) → Usable s → (a b : Record) → OfShape s a → HeldRecord b → NoNan b → OneShape a b ↔ OfShape s b

-- the demand of what a program holds; "two records of one shape" are two that compare
pub record OfHeld : Type 0 where
  -- with room for its key a record of 1 to 12 fields is written, and the bytes past the key stay
  pub written : (r : Record) → HeldRecord r → NoNan r → bad_count r.count ≡ false → (buffer : List ℕ) → length (record_key r) ≤ length buffer
      → (write_of r (length buffer) ≡ gives (length (record_key r))) × (write_exit r buffer ≡ record_key r ++ drop (length (record_key r)) buffer)
  -- "the keys are the same bytes exactly when the records compare Equal"
  pub same_bytes : (a b : Record) → HeldRecord a → HeldRecord b → NoNan a → NoNan b → (o : Order) → compare_of a b ≡ gives o
      → (record_key a ≡ record_key b) ↔ (o ≡ Equal)
  -- "otherwise the first differing byte orders them as the records are ordered"
  pub first_byte : (a b : Record) → HeldRecord a → HeldRecord b → NoNan a → NoNan b → (o : Order) → compare_of a b ≡ gives o
      → (record_key a ≡ record_key b → ⊥)
      → (i : ℕ) × DifferAt i (record_key a) (record_key b) × (o ≡ order_n (get_or (record_key a) i 0) (get_or (record_key b) i 0))
  -- "A byte string is accepted as a key of a shape exactly when some such record has it"
  pub accepted_exactly : (s : Shape) → HeldShape s → bad_count s.count ≡ false → (key : List ℕ) → LentBytes key
      → ((r : Record) × (read_of s key ≡ gives r)) ↔ ((r : Record) × HeldRecord r × NoNan r × HasShape s r × (record_key r ≡ key))
  -- "reading gives that record with minus zero made plus zero and unused places reset"
  pub read_normal : (s : Shape) → HeldShape s → bad_count s.count ≡ false → (r : Record) → HeldRecord r → NoNan r → HasShape s r
      → read_of s (record_key r) ≡ gives (normal_record r)
  -- "and writing that again gives the same bytes"
  pub same_again : (r : Record) → HeldRecord r → NoNan r → bad_count r.count ≡ false
      → HeldRecord (normal_record r) × NoNan (normal_record r) × OneShape r (normal_record r) × (record_key (normal_record r) ≡ record_key r)
  -- no two byte strings are read as one record
  pub read_once : (s : Shape) → HeldShape s → (k l : List ℕ) → LentBytes k → LentBytes l
      → (r : Record) → read_of s k ≡ gives r → read_of s l ≡ gives r → k ≡ l

-- ---- the demand

-- "For two records of one shape, no NaN, room for their keys"
pub record Demand3 : Type 0 where
  -- what a program holds meets the premises of what follows
  pub held : Held
  -- and so it holds of this, with no premise about ranges
  pub of_held : OfHeld
  -- with room for its key a record is written, and the bytes past the key stay
  pub written : (s : Shape) → Usable s → (r : Record) → OfShape s r → (buffer : List ℕ) → length (record_key r) ≤ length buffer
      → (write_of r (length buffer) ≡ gives (length (record_key r))) × (write_exit r buffer ≡ record_key r ++ drop (length (record_key r)) buffer)
  -- "the keys are the same bytes exactly when the records compare Equal"
  pub same_bytes : (s : Shape) → Usable s → (a b : Record) → OfShape s a → OfShape s b → (record_key a ≡ record_key b) ↔ (compare_of a b ≡ gives Equal)
  -- "otherwise the first differing byte orders them as the records are ordered"
  pub first_byte : (s : Shape) → Usable s → (a b : Record) → OfShape s a → OfShape s b → (record_key a ≡ record_key b → ⊥)
      → (i : ℕ) × DifferAt i (record_key a) (record_key b) × (compare_of a b ≡ gives (order_n (get_or (record_key a) i 0) (get_or (record_key b) i 0)))
  -- "A byte string is accepted as a key of a shape exactly when some such record has it"
  pub accepted_exactly : (s : Shape) → Usable s → (key : List ℕ) → Bytes key
      → ((r : Record) × (read_of s key ≡ gives r)) ↔ ((r : Record) × OfShape s r × (record_key r ≡ key))
  -- "reading gives that record with minus zero made plus zero and unused places reset"
  pub read_normal : (s : Shape) → Usable s → (r : Record) → OfShape s r → read_of s (record_key r) ≡ gives (normal_record r)
  -- "and writing that again gives the same bytes"
  pub same_again : (s : Shape) → Usable s → (r : Record) → OfShape s r → OfShape s (normal_record r) × (record_key (normal_record r) ≡ record_key r)
  -- no two byte strings are read as one record
  pub read_once : (s : Shape) → Usable s → (k l : List ℕ) → Bytes k → Bytes l → (r : Record) → read_of s k ≡ gives r → read_of s l ≡ gives r → k ≡ l
