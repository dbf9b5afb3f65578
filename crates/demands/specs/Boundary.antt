-- Demand 1 at the boundary and for a whole input: a call's own rules come first, then those of the library's call on the values. RULES.md: The
-- boundary, Migration.
use Rattle.std.specs.Prelude.{ℕ, ◌^◌, ◌≤◌, ◌≡◌, true, ◌||◌, ◌↔◌, List, [], ◌∷◌, ◌++◌, Float, ℤ, length}
use Rattle.float.specs.declared.Class.{Class}
use Rattle.float.specs.declared.Order.{Order}
use Rattle.value.specs.declared.Kind.{Kind}
use Rattle.value.specs.declared.Value.{Value}
use Rattle.value.specs.Kinds.{width_of}
use Rattle.value.specs.Outcome.{Outcome, Success, refuses, mapped}
use Rattle.value.specs.Rules.{By, each_of, numbers_of}
use Rattle.cmp.specs.Compare.{value_rules}
use Rattle.choose.specs.Choose.{choice_rules, clamp_rules}
use Rattle.convert.specs.Convert.{convert_rules}
use Rattle.row.specs.Convert.{u8_to_u16, u16_to_u8, u16_to_f32, f32_to_u16, convert_answer}
use Rattle.rowclamp.specs.Clamp.{clamp_answer}
use Rattle.record.specs.Record.{bad_count}
use Rattle.lexical.specs.Lexical.{record_rules}
use Rattle.key.specs.Key.{write_rules, read_rules}
use Rattle.silamogo.specs.declared.Sample.{Sample}
use Rattle.silamogo.specs.Answer.{Numbered, answered_of, ordered_of, classed_of, positioned_of, kind_and_bits, sampled_of, measured_of, bounds_of}
use Rattle.silamogo.specs.Samples.{unnamed, kind_for, too_wide, value_for}
use Rattle.silamogo.specs.Single.{two_rules, compare_of, total_of, min_of, max_of, three_rules, clamp_of, kind_rules, convert_of, float_rules}
use Rattle.silamogo.specs.Single.{classify_of, sample_position}
use Rattle.silamogo.specs.Records.{paired_samples, record_for, shape_for, two_records_rules, records_order, field_rules, key_length, key_exit, room_rules}
use Rattle.silamogo.specs.Records.{record_read, read_exit, success_of}
use Rattle.sample.specs.Samples.{samples_of}
use Rattle.sample.specs.Refusals.{left_rules, answer_of}
use Rattle.demands.specs.Lengths.{NoneOrMany}

-- ---- the rules

-- each order of the boundary's own rules and of a whole input's, as the rules name it; the library's own follow, in the order of InOrder
pub record InBoundaryOrder : Type 0 where
  pub classify_position : (s : Sample) → numbers_of (float_rules s) ≡ 7 ∷ 4 ∷ []
  pub compare_min_max : (a b : Sample) → numbers_of (two_rules a b) ≡ 7 ∷ 4 ∷ []
  pub clamp : (v lower upper : Sample) → numbers_of (three_rules v lower upper) ≡ 7 ∷ 4 ∷ []
  pub convert : (v : Sample) (to : ℕ) → numbers_of (kind_rules v to) ≡ 7 ∷ 4 ∷ []
  pub compare_records : (ns xs ms ys : List ℕ) → numbers_of (two_records_rules ns xs ms ys) ≡ 11 ∷ 7 ∷ 9 ∷ 4 ∷ 4 ∷ []
  pub write_key : (ns bs : List ℕ) → numbers_of (field_rules ns bs) ≡ 11 ∷ 7 ∷ 9 ∷ 4 ∷ []
  pub read_key : (ns : List ℕ) (room : ℕ) → numbers_of (room_rules ns room) ≡ 11 ∷ 7 ∷ 9 ∷ []
  pub migrate : (from : Kind) (input : List ℕ) → numbers_of (left_rules from input) ≡ 9 ∷ []

-- every call of the boundary that can refuse by itself goes by its rules, and then by the library's; after a refusal lent memory is what it was
pub record ByBoundaryRules : Type 0 where
  pub classify : (s : Sample) → By (float_rules s) (classify_of s)
  pub position : (s : Sample) → By (float_rules s) (sample_position s)
  pub compare : (a b : Sample) → By (two_rules a b ++ value_rules (value_for a) (value_for b)) (compare_of a b)
  pub total_order : (a b : Sample) → By (two_rules a b ++ value_rules (value_for a) (value_for b)) (total_of a b)
  pub min : (a b : Sample) → By (two_rules a b ++ choice_rules (value_for a) (value_for b)) (min_of a b)
  pub max : (a b : Sample) → By (two_rules a b ++ choice_rules (value_for a) (value_for b)) (max_of a b)
  pub clamp : (v lower upper : Sample) →
      By (three_rules v lower upper ++ clamp_rules (value_for v) (value_for lower) (value_for upper)) (clamp_of v lower upper)
  pub convert : (v : Sample) (to : ℕ) → By (kind_rules v to ++ convert_rules (value_for v) (kind_for to)) (convert_of v to)
  pub compare_records : (ns xs ms ys : List ℕ)
      → By (two_records_rules ns xs ms ys ++ record_rules (record_for (paired_samples ns xs)) (record_for (paired_samples ms ys))) (records_order ns xs ms ys)
  pub write_key : (ns bs : List ℕ) (room : ℕ) → By (field_rules ns bs ++ write_rules (record_for (paired_samples ns bs)) room) (key_length ns bs room)
  pub read_key : (ns key : List ℕ) (room : ℕ) → By (room_rules ns room ++ read_rules (shape_for ns) key) (record_read ns key room)
  -- the answers of all blocks are this one (block/specs/Theorem): 9 at the end for bytes left over, then the rules of each sample
  pub migrate : (from to : Kind) (input : List ℕ)
      → By (left_rules from input ++ each_of (λ (v : Value). convert_rules v to) 0 (samples_of from input)) (answer_of from to input)
  -- lent memory after a refusal
  pub key_buffer : (ns bs buffer : List ℕ) (n p : ℕ) → key_length ns bs (length buffer) ≡ refuses n p → key_exit ns bs buffer ≡ buffer
  pub lent_bits : (ns key bits : List ℕ) (n p : ℕ) → record_read ns key (length bits) ≡ refuses n p → read_exit ns key bits ≡ bits

-- ---- what the boundary tests

-- a count of 0 or above 12 is refused with 11, whatever kinds, bits and lengths there are
pub record CountFirst : Type 0 where
  pub compare_records : (ns xs ms ys : List ℕ) → (bad_count (length ns) || bad_count (length ms)) ≡ true → records_order ns xs ms ys ≡ refuses 11 0
  pub write_key : (ns bs : List ℕ) (room : ℕ) → bad_count (length ns) ≡ true → key_length ns bs room ≡ refuses 11 0
  pub read_key : (ns key : List ℕ) (room : ℕ) → bad_count (length ns) ≡ true → record_read ns key room ≡ refuses 11 0

-- its own tests in numbers: no kind has the number 11 or one above, and a kind of w bits has none from 2^w on
pub record OwnTests : Type 0 where
  pub bad_count_lem : (n : ℕ) → (bad_count n ≡ true) ↔ NoneOrMany n
  pub no_kind : (n : ℕ) → (unnamed n ≡ true) ↔ (11 ≤ n)
  pub too_wide_lem : (s : Sample) → (too_wide s ≡ true) ↔ (2 ^ width_of (kind_for s.kind) ≤ s.bits)

-- ---- answers in numbers

-- no call of the boundary refuses with the number 0
pub record AllNumbered : Type 0 where
  pub classify : (s : Sample) → Numbered (classify_of s)
  pub position : (s : Sample) → Numbered (sample_position s)
  pub compare : (a b : Sample) → Numbered (compare_of a b)
  pub total_order : (a b : Sample) → Numbered (total_of a b)
  pub min : (a b : Sample) → Numbered (min_of a b)
  pub max : (a b : Sample) → Numbered (max_of a b)
  pub clamp : (v lower upper : Sample) → Numbered (clamp_of v lower upper)
  pub convert : (v : Sample) (to : ℕ) → Numbered (convert_of v to)
  pub compare_records : (ns xs ms ys : List ℕ) → Numbered (records_order ns xs ms ys)
  pub write_key : (ns bs : List ℕ) (room : ℕ) → Numbered (key_length ns bs room)
  pub read_key : (ns key : List ℕ) (room : ℕ) → Numbered (success_of (record_read ns key room))
  pub row_clamp : (lower upper : Float) (row : List Float) → Numbered (clamp_answer (bounds_of lower upper) row)
  pub u8_to_u16_lem : (src dst : List ℕ) → Numbered (convert_answer u8_to_u16 src dst)
  pub u16_to_u8_lem : (src dst : List ℕ) → Numbered (convert_answer u16_to_u8 src dst)
  pub u16_to_f32_lem : (src : List ℕ) (dst : List Float) → Numbered (convert_answer u16_to_f32 src dst)
  pub f32_to_u16_lem : (src : List Float) (dst : List ℕ) → Numbered (convert_answer f32_to_u16 src dst)

-- so two outcomes with the same numbers are one outcome; of a value the numbers tell its kind and its bits
pub record NothingLost : Type 0 where
  pub numbered : AllNumbered
  pub answers : (x y : Outcome Success) → Numbered x → Numbered y → answered_of x ≡ answered_of y → x ≡ y
  pub orders : (x y : Outcome Order) → Numbered x → Numbered y → ordered_of x ≡ ordered_of y → x ≡ y
  pub classes : (x y : Outcome Class) → Numbered x → Numbered y → classed_of x ≡ classed_of y → x ≡ y
  pub positions : (x y : Outcome ℤ) → Numbered x → Numbered y → positioned_of x ≡ positioned_of y → x ≡ y
  pub lengths : (x y : Outcome ℕ) → Numbered x → Numbered y → measured_of x ≡ measured_of y → x ≡ y
  pub values : (x y : Outcome Value) → Numbered x → Numbered y → sampled_of x ≡ sampled_of y → mapped kind_and_bits x ≡ mapped kind_and_bits y

-- ---- the demand

-- the orders, the refusals, what is tested, and the answers in numbers
pub record AtTheBoundary : Type 0 where
  pub in_order : InBoundaryOrder
  pub by_its_rules : ByBoundaryRules
  pub count_first : CountFirst
  pub own_tests : OwnTests
  pub nothing_lost : NothingLost
