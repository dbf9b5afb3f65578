-- Demand 3 of the boundary's calls, in kind numbers, bits and bytes. RULES.md: Keys, The boundary.
use Rattle.std.specs.Prelude.{ℕ, ◌≤◌, ◌≡◌, false, ◌↔◌, List, [], ◌∷◌, ◌++◌, map, length, drop, get_or}
use Rattle.float.specs.declared.Order.TheVariants.{Equal}
use Rattle.float.specs.Number.{is_none}
use Rattle.float.specs.Order.{order_n}
use Rattle.value.specs.Kinds.{form_of}
use Rattle.value.specs.Meaning.{exact_of}
use Rattle.value.specs.Outcome.{gives, done}
use Rattle.record.specs.Record.{bad_count}
use Rattle.bytewise.specs.Numbers.{Bytes}
use Rattle.key.specs.Keyed.{plus_zero_in, record_key}
use Rattle.silamogo.specs.declared.Sample.{Sample}
use Rattle.silamogo.specs.Samples.{unnamed, kind_for, too_wide, value_for}
use Rattle.silamogo.specs.Records.{sample_for, paired_samples, record_for, records_order, key_length, key_exit, record_read, read_exit, success_of}
use Rattle.demands.specs.Demand3.{DifferAt}

-- ---- such a record

-- a field: a number that names a kind, and bits that the kind has, of no NaN
pub record FieldFits (n b : ℕ) : Type 0 where
  pub named : unnamed n ≡ false
  pub narrow : too_wide (sample_for n b) ≡ false
  pub some_number : is_none (exact_of (value_for (sample_for n b))) ≡ false

-- as many kinds as bits, and each pair is a field
pub data AllFit : List ℕ → List ℕ → Type 0 where
  none : AllFit [] []
  more : (n b : ℕ) (ns bs : List ℕ) → FieldFits n b → AllFit ns bs → AllFit (n ∷ ns) (b ∷ bs)

-- 1 to 12 fields
pub record Writable (ns bs : List ℕ) : Type 0 where
  pub count : bad_count (length ns) ≡ false
  pub fields : AllFit ns bs

-- the key of the record with these kinds and bits
abbrev pub key_for : List ℕ → List ℕ → List ℕ
key_for ns bs = record_key (record_for (paired_samples ns bs))

-- ---- what reading makes of bits

-- the bits of a sample, minus zero made plus zero
abbrev pub plus_zero_bits : Sample → ℕ
plus_zero_bits s = plus_zero_in (form_of (kind_for s.kind)) s.bits

-- the bits of each field so
abbrev pub plus_zeros : List ℕ → List ℕ → List ℕ
plus_zeros ns bs = map plus_zero_bits (paired_samples ns bs)

-- ---- the demand

-- "For two records of one shape, without NaN and with room for their keys": one list of kinds, two lists of bits
pub record BoundaryKeys : Type 0 where
  -- what is written is exactly such a record, with room for its key
  pub written_exactly : (ns bs buffer : List ℕ)
      → ((n : ℕ) × (key_length ns bs (length buffer) ≡ gives n)) ↔ (Writable ns bs × (length (key_for ns bs) ≤ length buffer))
  -- the answer is the length of the key, the key stands at the start of the lent buffer, and the bytes past it stay
  pub written : (ns bs buffer : List ℕ) (n : ℕ) → key_length ns bs (length buffer) ≡ gives n
      → (n ≡ length (key_for ns bs)) × (key_exit ns bs buffer ≡ key_for ns bs ++ drop n buffer)
  -- "the keys are the same bytes exactly when the records compare Equal"
  pub same_bytes : (ns xs ys : List ℕ) → Writable ns xs → Writable ns ys → (key_for ns xs ≡ key_for ns ys) ↔ (records_order ns xs ns ys ≡ gives Equal)
  -- "otherwise the first differing byte orders them as the records are ordered"
  pub first_byte : (ns xs ys : List ℕ) → Writable ns xs → Writable ns ys → (key_for ns xs ≡ key_for ns ys → ⊥)
      → (i : ℕ) × DifferAt i (key_for ns xs) (key_for ns ys)
      × (records_order ns xs ns ys ≡ gives (order_n (get_or (key_for ns xs) i 0) (get_or (key_for ns ys) i 0)))
  -- "A byte string is accepted as a key of a shape exactly when some such record has it": with a lent row of as many places as kinds
  pub accepted_exactly : (ns key : List ℕ) → Bytes key
      → (success_of (record_read ns key (length ns)) ≡ gives done) ↔ ((bs : List ℕ) × Writable ns bs × (key_for ns bs ≡ key))
  -- "Reading gives that record with minus zero made plus zero": its bits are what the lent row holds
  pub read_normal : (ns bs row : List ℕ) → Writable ns bs → length ns ≡ length row
      → (success_of (record_read ns (key_for ns bs) (length row)) ≡ gives done) × (read_exit ns (key_for ns bs) row ≡ plus_zeros ns bs)
  -- "and writing that again gives the same bytes"
  pub same_again : (ns key row : List ℕ) → Bytes key → success_of (record_read ns key (length row)) ≡ gives done
      → Writable ns (read_exit ns key row) × (key_for ns (read_exit ns key row) ≡ key)
  -- no two byte strings are read as the same bits
  pub read_once : (ns k l row : List ℕ) → Bytes k → Bytes l
      → success_of (record_read ns k (length row)) ≡ gives done → success_of (record_read ns l (length row)) ≡ gives done
      → read_exit ns k row ≡ read_exit ns l row → k ≡ l
