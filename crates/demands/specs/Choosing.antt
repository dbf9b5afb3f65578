-- How records compare, what is chosen and clamped, and what is refused there. RULES.md: Records, Choosing and clamping, Refusals.
use Rattle.std.specs.Prelude.{ℕ, ◌≡◌, ◌⊎◌, ◌↔◌, Bool, true, false, List, Float}
use Rattle.float.specs.declared.Order.{Order}
use Rattle.float.specs.declared.Order.TheVariants.{Less, Equal, Greater, Unordered}
use Rattle.value.specs.declared.Value.{Value}
use Rattle.value.specs.declared.Value.TheVariants.{F32}
use Rattle.value.specs.Outcome.{Outcome, gives, refuses, mapped}
use Rattle.choose.specs.declared.Range.{Range}
use Rattle.cmp.specs.Compare.{compare_of, lt_of, le_of, gt_of, ge_of, total_of}
use Rattle.choose.specs.Choose.{min_of, max_of, clamp_of, range_of, sample_of}
use Rattle.record.specs.declared.Field.{Field}
use Rattle.record.specs.declared.Record.{Record}
use Rattle.record.specs.declared.Shape.{Shape}
use Rattle.record.specs.Record.{fields_of, kinds_of, bad_count}
use Rattle.lexical.specs.Lexical.{shapes_differ}
use Rattle.lexical.specs.Lexical as lexical
use Rattle.row.specs.Convert.{float_of}
use Rattle.key.specs.Keyed.{Usable, OfShape}
use Rattle.laws_cmp.specs.Laws.{PartialOrder, LinearOrder, OneKind, OneShape, OneIntegerShape, SameFields, records_eq, AllEqual, DecidesAt}

-- ---- "Records compare .. as the rules say"

-- 11 exactly when a count is 0 or above 12; else 7 exactly when the kinds differ
pub record ElevenThenSeven {A : Type 0} (call : Record → Record → Outcome A) : Type 0 where
  pub bad_count_lem : (a b : Record) → (call a b ≡ refuses 11 0) ↔ ((bad_count a.count ≡ true) ⊎ (bad_count b.count ≡ true))
  pub shapes_differ_lem : (a b : Record) → bad_count a.count ≡ false → bad_count b.count ≡ false
      → (call a b ≡ refuses 7 0) ↔ (kinds_of (fields_of a) ≡ kinds_of (fields_of b) → ⊥)

-- of every two records
pub record Records : Type 0 where
  -- the first field that is not Equal decides, Unordered included; those behind it are not looked at
  pub first_decides : (a b : Record) → OneShape a b → (i : ℕ) (o : Order) → DecidesAt i (fields_of a) (fields_of b) o → lexical.compare_of a b ≡ gives o
  pub all_equal : (a b : Record) → OneShape a b → AllEqual (fields_of a) (fields_of b) → lexical.compare_of a b ≡ gives Equal
  -- there is no third case
  pub decided : (a b : Record) → OneShape a b
      → (AllEqual (fields_of a) (fields_of b)) ⊎ ((i : ℕ) × (o : Order) × DecidesAt i (fields_of a) (fields_of b) o)
  -- refusal 8 has the index of the field that decides
  pub min_unordered : (a b : Record) → OneShape a b → (i : ℕ) → DecidesAt i (fields_of a) (fields_of b) Unordered → lexical.min_of a b ≡ refuses 8 i
  pub max_unordered : (a b : Record) → OneShape a b → (i : ℕ) → DecidesAt i (fields_of a) (fields_of b) Unordered → lexical.max_of a b ≡ refuses 8 i
  -- what has no one shape is refused
  pub compare_refuses : ElevenThenSeven lexical.compare_of
  pub min_refuses : ElevenThenSeven lexical.min_of
  pub max_refuses : ElevenThenSeven lexical.max_of
  -- a shape is the list of kinds: as rule 7 tests it, and as keys have it
  pub one_shape : (xs ys : List Field) → (shapes_differ xs ys ≡ false) ↔ (kinds_of xs ≡ kinds_of ys)
  pub of_shape : (s : Shape) → Usable s → (a b : Record) → OfShape s a → OfShape s b → OneShape a b
  -- places past the count are never looked at
  pub unused_places : (a b a' b' : Record) → a.count ≡ a'.count → b.count ≡ b'.count → fields_of a ≡ fields_of a' → fields_of b ≡ fields_of b'
      → lexical.compare_of a b ≡ lexical.compare_of a' b'
  -- so they are orders
  pub partial_order : PartialOrder lexical.compare_of records_eq
  pub integer_order : LinearOrder lexical.compare_of OneIntegerShape SameFields

-- ---- ".. and samples are chosen and clamped, as the rules say"

-- on Equal min gives the first and max the second; what is chosen comes back unchanged
pub record Chooses {A : Type 0} (compare : A → A → Outcome Order) (min max : A → A → Outcome A) : Type 0 where
  pub min_less : (a b : A) → compare a b ≡ gives Less → min a b ≡ gives a
  pub min_equal : (a b : A) → compare a b ≡ gives Equal → min a b ≡ gives a
  pub min_greater : (a b : A) → compare a b ≡ gives Greater → min a b ≡ gives b
  pub max_less : (a b : A) → compare a b ≡ gives Less → max a b ≡ gives b
  pub max_equal : (a b : A) → compare a b ≡ gives Equal → max a b ≡ gives b
  pub max_greater : (a b : A) → compare a b ≡ gives Greater → max a b ≡ gives a

-- 7 exactly when the kinds differ
abbrev pub SevenForKinds : {A : Type 0} → (Value → Value → Outcome A) → Type 0
SevenForKinds call = (a b : Value) → (call a b ≡ refuses 7 0) ↔ (OneKind a b → ⊥)

-- of every call on two values
pub record RuleSeven : Type 0 where
  pub compare : SevenForKinds compare_of
  -- the six, and any other test of the comparison
  pub tests : (test : Order → Bool) → SevenForKinds (λ a b. mapped test (compare_of a b))
  pub total_order : SevenForKinds total_of
  pub min : SevenForKinds min_of
  pub max : SevenForKinds max_of

-- by the tests of the value and the two bounds
pub record Clamps (v lower upper : Value) : Type 0 where
  -- within bounds that are in order: below-lower first, then above-upper, else the value as it is
  pub below : le_of lower upper ≡ gives true → lt_of v lower ≡ gives true → clamp_of v lower upper ≡ gives lower
  pub above : le_of lower upper ≡ gives true → gt_of v upper ≡ gives true → clamp_of v lower upper ≡ gives upper
  pub within : le_of lower upper ≡ gives true → ge_of v lower ≡ gives true → gt_of v upper ≡ gives false → clamp_of v lower upper ≡ gives v
  -- 7 comes first
  pub kinds_differ_lem : (OneKind v lower → ⊥) ⊎ (OneKind v upper → ⊥) → clamp_of v lower upper ≡ refuses 7 0
  -- 6: the bounds are not lower ≤ upper by the comparison, a NaN bound included
  pub bad_bounds_lem : OneKind v lower → le_of lower upper ≡ gives false → clamp_of v lower upper ≡ refuses 6 0
  -- 8: the value is a NaN
  pub nan : le_of lower upper ≡ gives true → compare_of v lower ≡ gives Unordered → clamp_of v lower upper ≡ refuses 8 0

-- of values, of records, and of the samples of a range
pub record Choosing : Type 0 where
  pub values : Chooses compare_of min_of max_of
  pub records : Chooses lexical.compare_of lexical.min_of lexical.max_of
  -- of values 8 has the place 0
  pub min_unordered : (a b : Value) → compare_of a b ≡ gives Unordered → min_of a b ≡ refuses 8 0
  pub max_unordered : (a b : Value) → compare_of a b ≡ gives Unordered → max_of a b ≡ refuses 8 0
  pub rule_seven : RuleSeven
  pub clamps : (v lower upper : Value) → Clamps v lower upper
  -- a range holds two bounds that are in order as the f32 values that hold them, else 6
  pub range_made : (lower upper : Float) (u v : ℕ) → le_of (F32 lower u) (F32 upper v) ≡ gives true
      → range_of lower upper ≡ gives (record { lower = lower; upper = upper })
  pub range_bad : (lower upper : Float) (u v : ℕ) → (range_of lower upper ≡ refuses 6 0) ↔ (le_of (F32 lower u) (F32 upper v) ≡ gives false)
  -- a sample of a range, and so of a row, is clamped as the f32 value that holds it
  pub samples : (range : Range) (x : Float) (u v w : ℕ) → mapped float_of (clamp_of (F32 x u) (F32 range.lower v) (F32 range.upper w)) ≡ sample_of range x
