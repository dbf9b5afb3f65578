-- Demand 1. A definition is the chain of its rules; rows take a law.
use Prim.Native.Nat.{ℕ, suc}
use mathlib.Core.Path.{◌≡◌, refl, sym, ◌∙◌, ap}
use mathlib.Core.Bool.{Bool, true, false, not}
use mathlib.Core.List.{List, [], ◌∷◌, ◌++◌, map}
use lib.Ieee.{Float}
use Rattle.float.specs.Order.{is_equal, is_not_equal, is_less, is_less_or_equal, is_greater, is_greater_or_equal}
use Rattle.value.specs.declared.Kind.{Kind}
use Rattle.value.specs.declared.Kind.TheVariants as kind
use Rattle.value.specs.declared.Value.{Value}
use Rattle.value.specs.declared.Value.TheVariants.{U8, U16, F32}
use Rattle.value.specs.Meaning.{bits_of}
use Rattle.value.specs.Outcome.{Outcome, Success, gives, done, refuse_if, mapped}
use Rattle.value.specs.Rules.{Rule, rule, chain, By, placed, each_of, numbers_of}
use Rattle.value.proofs.Outcomes.{refused_unchanged}
use Rattle.value.proofs.Rules.{by_chain, by_same, by_mapped, chain_join, chain_mapped}
use Rattle.choose.specs.declared.Range.{Range}
use Rattle.cmp.specs.Compare.{compare_of, total_of}
use Rattle.cmp.specs.ByOrder.{unordered}
use Rattle.choose.specs.Choose.{sample_order, min_of, max_of, clamp_of, range_of, sample_in, sample_of}
use Rattle.convert.specs.Convert.{convert_rules, converted_to, convert_of}
use Rattle.row.specs.Row.{sample_then, row_answer}
use Rattle.row.specs.Convert.{float_of, u8_to_u16, u16_to_u8, u16_to_f32, f32_to_u16, length_rules, convert_answer, convert_exit}
use Rattle.rowclamp.specs.Clamp.{clamp_answer, clamp_exit}
use Rattle.record.specs.Record.{set_of, get_of, push_of, shape_of}
use Rattle.lexical.specs.Lexical as lexical
use Rattle.key.specs.Key.{write_of, write_exit, read_of}
use Rattle.demands.proofs.Lengths.{of_lengths}
use Rattle.demands.specs.Demand1.{row_rules, row_clamp_rules, ByItsRules, InOrder, Unchanged, Demand1}

-- ---- rows: the samples' chains one behind the other, each with its index

sample_chain : {B : Type 0} (at : ℕ) (rules : List Rule) (y : B) (rest : Outcome Success)
    → sample_then at (chain rules (gives y)) rest ≡ chain (map (placed at) rules) rest
sample_chain at [] y rest = refl
sample_chain at (rule n p true ∷ rules) y rest = refl
sample_chain at (rule n p false ∷ rules) y rest = sample_chain at rules y rest

pub row_chain : {A B : Type 0} (conv : A → Outcome B) (rules : A → List Rule) (result : A → B) → ((x : A) → conv x ≡ chain (rules x) (gives (result x)))
    → (at : ℕ) (row : List A) → row_answer conv at row ≡ chain (each_of rules at row) (gives done)
unfolding row_answer each_of
row_chain conv rules result h at [] = refl
row_chain conv rules result h at (x ∷ xs) =
    ap (λ o. sample_then at o (row_answer conv (suc at) xs)) (h x)
    ∙ sample_chain at (rules x) (result x) (row_answer conv (suc at) xs)
    ∙ ap (chain (map (placed at) (rules x))) (row_chain conv rules result h (suc at) xs)
    ∙ sym (chain_join (map (placed at) (rules x)) (each_of rules (suc at) xs) (gives done))

by_row : {A B : Type 0} (conv : A → Outcome B) (rules : A → List Rule) (result : A → B) → ((x : A) → conv x ≡ chain (rules x) (gives (result x)))
    → (src : List A) (dst : List B) → By (row_rules rules src dst) (convert_answer conv src dst)
unfolding convert_answer
by_row conv rules result h src dst = by_same (row_rules rules src dst) done (ap (chain (length_rules src dst)) (row_chain conv rules result h 0 src))

-- a sample's conversion is that of its value
pub through : {B : Type 0} (f : Value → B) (v : Value) (to : Kind) → mapped f (convert_of v to) ≡ chain (convert_rules v to) (gives (f (converted_to v to)))
unfolding convert_of
through f v to = chain_mapped f (convert_rules v to) (gives (converted_to v to))

-- ---- the row clamp: its bounds are tested once, before the samples

sample_in_bounds : (range : Range) → not (is_less_or_equal (sample_order range.lower range.upper)) ≡ false
    → (x : Float) → sample_of range x ≡ chain (unordered 0 (sample_order x range.lower) ∷ []) (gives (sample_in range x))
unfolding sample_of
sample_in_bounds range h x = ap (λ bad. refuse_if bad 6 0 (chain (unordered 0 (sample_order x range.lower) ∷ []) (gives (sample_in range x)))) h

by_row_clamp : (range : Range) (row : List Float) → By (row_clamp_rules range row) (clamp_answer range row)
unfolding clamp_answer
by_row_clamp range row = by_same (row_clamp_rules range row) done (go (not (is_less_or_equal (sample_order range.lower range.upper))) refl)
  where
    each : Float → List Rule
    each x = unordered 0 (sample_order x range.lower) ∷ []

    go : (bad : Bool) → not (is_less_or_equal (sample_order range.lower range.upper)) ≡ bad
        → refuse_if bad 6 0 (row_answer (sample_of range) 0 row) ≡ refuse_if bad 6 0 (chain (each_of each 0 row) (gives done))
    go true h = refl
    go false h = row_chain (sample_of range) each (sample_in range) (sample_in_bounds range h) 0 row

-- ---- all calls

pub by_its_rules : ByItsRules
unfolding compare_of total_of min_of max_of clamp_of range_of sample_of convert_of u8_to_u16 u16_to_u8 u16_to_f32 f32_to_u16 lexical.compare_of
    lexical.min_of lexical.max_of set_of get_of push_of shape_of write_of read_of
by_its_rules = record {
  compare = λ a b. by_chain _ _;
  eq = λ a b. by_mapped is_equal _ _;
  ne = λ a b. by_mapped is_not_equal _ _;
  lt = λ a b. by_mapped is_less _ _;
  le = λ a b. by_mapped is_less_or_equal _ _;
  gt = λ a b. by_mapped is_greater _ _;
  ge = λ a b. by_mapped is_greater_or_equal _ _;
  total_order = λ a b. by_chain _ _;
  min = λ a b. by_chain _ _;
  max = λ a b. by_chain _ _;
  clamp = λ v lower upper. by_chain _ _;
  range = λ lower upper. by_chain _ _;
  range_clamp = λ range x. by_chain _ _;
  convert = λ v to. by_chain _ _;
  u8_to_u16_lem = by_row u8_to_u16 _ _ (λ n. through bits_of (U8 n) kind.U16);
  u16_to_u8_lem = by_row u16_to_u8 _ _ (λ n. through bits_of (U16 n) kind.U8);
  u16_to_f32_lem = by_row u16_to_f32 _ _ (λ n. through float_of (U16 n) kind.F32);
  f32_to_u16_lem = by_row f32_to_u16 _ _ (λ x. through bits_of (F32 x 0) kind.U16);
  row_clamp = by_row_clamp;
  compare_records = λ a b. by_chain _ _;
  min_record = λ a b. by_chain _ _;
  max_record = λ a b. by_chain _ _;
  set_field = λ r at v. by_chain _ _;
  get_field = λ r at. by_chain _ _;
  push_field = λ r v. by_chain _ _;
  shape = λ r. by_chain _ _;
  write_key = λ r room. by_chain _ _;
  read_key = λ s key. by_chain _ _;
}

-- a rule at another place keeps its number
numbers_join : (at : ℕ) (rules rest : List Rule) → numbers_of (map (placed at) rules ++ rest) ≡ numbers_of rules ++ numbers_of rest
unfolding numbers_of
numbers_join at [] rest = refl
numbers_join at (rule n p holds ∷ rules) rest = ap (λ ns. n ∷ ns) (numbers_join at rules rest)

each_numbers : {A : Type 0} (rules : A → List Rule) (at : ℕ) (x : A) (xs : List A)
    → numbers_of (each_of rules at (x ∷ xs)) ≡ numbers_of (rules x) ++ numbers_of (each_of rules (suc at) xs)
unfolding each_of
each_numbers rules at x xs = numbers_join at (rules x) (each_of rules (suc at) xs)

in_order : InOrder
unfolding numbers_of each_of
in_order = record {
  compare = λ a b. refl;
  min_max = λ a b. refl;
  clamp = λ v lower upper. refl;
  range = λ lower upper. refl;
  range_clamp = λ range x. refl;
  convert = λ form x. refl;
  row = λ src dst. refl;
  compare_records = λ a b. refl;
  min_max_records = λ a b. refl;
  place = λ at. refl;
  shape = λ n. refl;
  write_key = λ r room. refl;
  read_key = λ s key. refl;
  each = each_numbers;
  row_clamp = λ range x. refl;
  each_nan = λ at f fs. refl;
  each_canonical = λ at f fs. refl;
}

-- ---- lent memory after a refusal

unchanged : Unchanged
unfolding convert_exit clamp_exit write_exit
unchanged = record {
  row = λ conv src dst n p h. refused_unchanged _ dst h;
  clamped_row = λ range row n p h. refused_unchanged _ row h;
  key_buffer = λ r buffer n p h. refused_unchanged _ buffer h;
}

pub demand_1 : Demand1
demand_1 = record { in_order = in_order; by_its_rules = by_its_rules; unchanged = unchanged; lengths = of_lengths }
