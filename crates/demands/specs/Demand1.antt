-- Demand 1: every call answers by its rules, in their order, and no lent buffer has changed after a refusal. RULES.md: Refusals.
-- A call of the code answers its definition, for any input (its contract); so what is said here of the definitions is said of the calls.
use Rattle.std.specs.Prelude.{ℕ, suc, ◌≡◌, List, [], ◌∷◌, ◌++◌, length, Float}
use Rattle.float.specs.Number.{Exact}
use Rattle.value.specs.declared.Kind.{Kind}
use Rattle.value.specs.declared.Kind.TheVariants as kind
use Rattle.value.specs.declared.Value.{Value}
use Rattle.value.specs.declared.Value.TheVariants.{U8, U16, F32}
use Rattle.value.specs.Kinds.{Form}
use Rattle.value.specs.Outcome.{Outcome, refuses}
use Rattle.value.specs.Rules.{Rule, By, each_of, numbers_of}
use Rattle.choose.specs.declared.Range.{Range}
use Rattle.cmp.specs.Compare.{value_rules, compare_of, eq_of, ne_of, lt_of, le_of, gt_of, ge_of, total_of}
use Rattle.cmp.specs.ByOrder.{unordered}
use Rattle.choose.specs.Choose.{sample_order, choice_rules, min_of, max_of, clamp_rules, clamp_of, bounds_rules, range_of, sample_rules, sample_of}
use Rattle.convert.specs.Convert.{into_rules, convert_rules, convert_of}
use Rattle.row.specs.Convert.{u8_to_u16, u16_to_u8, u16_to_f32, f32_to_u16, length_rules, convert_answer, convert_exit}
use Rattle.rowclamp.specs.Clamp.{clamp_answer, clamp_exit}
use Rattle.record.specs.declared.Field.{Field}
use Rattle.record.specs.declared.Record.{Record}
use Rattle.record.specs.declared.Shape.{Shape}
use Rattle.record.specs.Record.{fields_of, kinds_in, place_rules, set_of, get_of, push_of, count_rules, shape_of}
use Rattle.lexical.specs.Lexical.{record_rules}
use Rattle.lexical.specs.Lexical as lexical
use Rattle.key.specs.Key.{nan_rules, write_rules, write_of, write_exit, key_numbers, canonical_rules, read_rules, read_of}
use Rattle.demands.specs.Lengths.{Lengths}

-- ---- rows: their own rule, then those of each sample, the lowest index deciding

-- 9, then those of the conversion
abbrev pub row_rules : {A B : Type 0} → (A → List Rule) → List A → List B → List Rule
row_rules rules src dst = length_rules src dst ++ each_of rules 0 src

-- 6, then 8 for each sample
abbrev pub row_clamp_rules : Range → List Float → List Rule
row_clamp_rules range row = bounds_rules range.lower range.upper ++ each_of (λ x. unordered 0 (sample_order x range.lower) ∷ []) 0 row

-- ---- the demand

-- every call that can refuse goes by its rules
pub record ByItsRules : Type 0 where
  pub compare : (a b : Value) → By (value_rules a b) (compare_of a b)
  pub eq : (a b : Value) → By (value_rules a b) (eq_of a b)
  pub ne : (a b : Value) → By (value_rules a b) (ne_of a b)
  pub lt : (a b : Value) → By (value_rules a b) (lt_of a b)
  pub le : (a b : Value) → By (value_rules a b) (le_of a b)
  pub gt : (a b : Value) → By (value_rules a b) (gt_of a b)
  pub ge : (a b : Value) → By (value_rules a b) (ge_of a b)
  pub total_order : (a b : Value) → By (value_rules a b) (total_of a b)
  pub min : (a b : Value) → By (choice_rules a b) (min_of a b)
  pub max : (a b : Value) → By (choice_rules a b) (max_of a b)
  pub clamp : (v lower upper : Value) → By (clamp_rules v lower upper) (clamp_of v lower upper)
  pub range : (lower upper : Float) → By (bounds_rules lower upper) (range_of lower upper)
  pub range_clamp : (range : Range) (x : Float) → By (sample_rules range x) (sample_of range x)
  pub convert : (v : Value) (to : Kind) → By (convert_rules v to) (convert_of v to)
  pub u8_to_u16_lem : (src dst : List ℕ) → By (row_rules (λ n. convert_rules (U8 n) kind.U16) src dst) (convert_answer u8_to_u16 src dst)
  pub u16_to_u8_lem : (src dst : List ℕ) → By (row_rules (λ n. convert_rules (U16 n) kind.U8) src dst) (convert_answer u16_to_u8 src dst)
  pub u16_to_f32_lem : (src : List ℕ) (dst : List Float) → By (row_rules (λ n. convert_rules (U16 n) kind.F32) src dst) (convert_answer u16_to_f32 src dst)
  pub f32_to_u16_lem : (src : List Float) (dst : List ℕ) → By (row_rules (λ x. convert_rules (F32 x 0) kind.U16) src dst) (convert_answer f32_to_u16 src dst)
  pub row_clamp : (range : Range) (row : List Float) → By (row_clamp_rules range row) (clamp_answer range row)
  pub compare_records : (a b : Record) → By (record_rules a b) (lexical.compare_of a b)
  pub min_record : (a b : Record) → By (lexical.choice_rules a b) (lexical.min_of a b)
  pub max_record : (a b : Record) → By (lexical.choice_rules a b) (lexical.max_of a b)
  pub set_field : (r : Record) (at : ℕ) (v : Value) → By (place_rules at) (set_of r at v)
  pub get_field : (r : Record) (at : ℕ) → By (place_rules at) (get_of r at)
  pub push_field : (r : Record) (v : Value) → By (place_rules r.count) (push_of r v)
  pub shape : (r : Record) → By (count_rules r.count) (shape_of r)
  pub write_key : (r : Record) (room : ℕ) → By (write_rules r room) (write_of r room)
  pub read_key : (s : Shape) (key : List ℕ) → By (read_rules s key) (read_of s key)

-- what a lent buffer holds after a refusal is what it held before
pub record Unchanged : Type 1 where
  pub row : {A B : Type 0} (conv : A → Outcome B) (src : List A) (dst : List B) (n p : ℕ)
      → convert_answer conv src dst ≡ refuses n p → convert_exit conv src dst ≡ dst
  pub clamped_row : (range : Range) (row : List Float) (n p : ℕ) → clamp_answer range row ≡ refuses n p → clamp_exit range row ≡ row
  pub key_buffer : (r : Record) (buffer : List ℕ) (n p : ℕ) → write_of r (length buffer) ≡ refuses n p → write_exit r buffer ≡ buffer

-- each call's order, as the rules name it. A list is its definition's own: here its numbers stand a second time, for a reader to hold against the rules
pub record InOrder : Type 1 where
  pub compare : (a b : Value) → numbers_of (value_rules a b) ≡ 7 ∷ []
  pub min_max : (a b : Value) → numbers_of (choice_rules a b) ≡ 7 ∷ 8 ∷ []
  pub clamp : (v lower upper : Value) → numbers_of (clamp_rules v lower upper) ≡ 7 ∷ 6 ∷ 8 ∷ []
  pub range : (lower upper : Float) → numbers_of (bounds_rules lower upper) ≡ 6 ∷ []
  pub range_clamp : (range : Range) (x : Float) → numbers_of (sample_rules range x) ≡ 6 ∷ 8 ∷ []
  pub convert : (form : Form) (x : Exact) → numbers_of (into_rules form x) ≡ 1 ∷ 2 ∷ 13 ∷ 3 ∷ 4 ∷ 5 ∷ []
  pub row : (src dst : List ℕ) → numbers_of (length_rules src dst) ≡ 9 ∷ []
  pub compare_records : (a b : Record) → numbers_of (record_rules a b) ≡ 11 ∷ 7 ∷ []
  pub min_max_records : (a b : Record) → numbers_of (lexical.choice_rules a b) ≡ 11 ∷ 7 ∷ 8 ∷ []
  pub place : (at : ℕ) → numbers_of (place_rules at) ≡ 11 ∷ []
  pub shape : (n : ℕ) → numbers_of (count_rules n) ≡ 11 ∷ []
  pub write_key : (r : Record) (room : ℕ) → numbers_of (write_rules r room) ≡ 11 ∷ 10 ∷ numbers_of (nan_rules 0 (fields_of r))
  pub read_key : (s : Shape) (key : List ℕ) → numbers_of (read_rules s key) ≡ 11 ∷ 9 ∷ numbers_of (canonical_rules 0 (key_numbers (kinds_in s) key))
  -- of a row those of each sample in turn, of a record those of each field
  pub each : {A : Type 0} (rules : A → List Rule) (at : ℕ) (x : A) (xs : List A)
      → numbers_of (each_of rules at (x ∷ xs)) ≡ numbers_of (rules x) ++ numbers_of (each_of rules (suc at) xs)
  pub row_clamp : (range : Range) (x : Float) → numbers_of (row_clamp_rules range (x ∷ [])) ≡ 6 ∷ 8 ∷ []
  pub each_nan : (at : ℕ) (f : Field) (fs : List Field) → numbers_of (nan_rules at (f ∷ fs)) ≡ 1 ∷ numbers_of (nan_rules (suc at) fs)
  pub each_canonical : (at : ℕ) (f : Kind × ℕ) (fs : List (Kind × ℕ)) → numbers_of (canonical_rules at (f ∷ fs)) ≡ 12 ∷ numbers_of (canonical_rules (suc at) fs)

-- the demand: the orders, the refusals, lent memory, and what the rules on counts and lengths say
pub record Demand1 : Type 1 where
  pub in_order : InOrder
  pub by_its_rules : ByItsRules
  pub unchanged : Unchanged
  pub lengths : Lengths
