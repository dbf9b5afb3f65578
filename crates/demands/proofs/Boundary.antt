-- Demand 1 at the boundary: its rules stand before the library's chain, so the two are one chain. No list of rules has the number 0, so no call
-- refuses with it.
use Prim.Native.Nat.{ℕ, zero, suc, ◌^◌, ◌≤◌}
use native.Mathlib.Omega.{arith}
use mathlib.Core.Path.{◌≡◌, refl, sym, ap}
use mathlib.Core.Bool.{true, true≢false}
use mathlib.Core.List.{List, [], ◌∷◌, ◌++◌}
use lib.ListN.{length}
use lib.Ieee.{Float}
use borrow.Author.Tests.{leb-true, le-leb}
use Rattle.value.specs.declared.Kind.{Kind}
use Rattle.value.specs.declared.Kind.TheVariants as kind
use Rattle.value.specs.declared.Value.TheVariants.{U8, U16, F32}
use Rattle.value.specs.Kinds.{all_kinds, kind_in, width_of}
use Rattle.value.specs.Meaning.{bits_of}
use Rattle.value.specs.Outcome.{done}
use Rattle.value.proofs.KindNumbers.{past_all}
use Rattle.value.proofs.Outcomes.{refused_unchanged}
use Rattle.value.specs.Rules.{chain, By, each_of, numbers_of}
use Rattle.value.proofs.Rules.{by_chain, by_same}
use Rattle.cmp.specs.Compare as cmp
use Rattle.cmp.specs.Compare.{value_rules}
use Rattle.choose.specs.Choose as choose
use Rattle.choose.specs.Choose.{choice_rules, clamp_rules, sample_order}
use Rattle.cmp.specs.ByOrder.{unordered}
use Rattle.convert.specs.Convert as convert
use Rattle.convert.specs.Convert.{convert_rules, converted_to}
use Rattle.key.specs.Key.{write_rules, write_of, key_numbers, read_rules, read_of}
use Rattle.lexical.specs.Lexical.{record_rules}
use Rattle.lexical.specs.Lexical as lexical
use Rattle.record.specs.Record.{fields_of, kinds_in}
use Rattle.silamogo.specs.Samples.{is_nothing, unnamed, kind_for, too_wide, value_for}
use Rattle.silamogo.specs.Answer.{bounds_of}
use Rattle.silamogo.specs.Single.{two_rules, compare_of, total_of, min_of, max_of, three_rules, clamp_of, kind_rules, convert_of, classify_of, sample_position}
use Rattle.silamogo.specs.Records.{paired_samples, record_for, shape_for, two_records_rules, field_rules, room_rules}
use Rattle.silamogo.specs.Records.{records_order, key_length, key_exit, record_read, read_exit}
use Rattle.sample.specs.Samples.{samples_of}
use Rattle.sample.specs.Refusals.{bits_to, left_rules, answer_of}
use Rattle.demands.specs.Boundary.{InBoundaryOrder, ByBoundaryRules, CountFirst, OwnTests, AllNumbered, NothingLost, AtTheBoundary}
use Rattle.demands.proofs.Lengths.{bad_count_lem}
use Rattle.demands.proofs.Demand1.{row_chain, through, by_its_rules}
use Rattle.silamogo.proofs.Determined.{answered_injective, ordered_injective, classed_injective, positioned_injective}
use Rattle.silamogo.proofs.Determined.{sampled_injective, measured_injective}
use Rattle.demands.proofs.RuleNumbers.{numbered_by, numbered_mapped, each_absent, convert_no_zero, nan_absent, canonical_absent}

by_migrate : (from to : Kind) (input : List ℕ)
    → By (left_rules from input ++ each_of (λ v. convert_rules v to) 0 (samples_of from input)) (answer_of from to input)
unfolding answer_of bits_to
by_migrate from to input = by_same (left_rules from input ++ each_of (λ v. convert_rules v to) 0 (samples_of from input)) done
    (ap (chain (left_rules from input))
    (row_chain (bits_to to) (λ v. convert_rules v to) (λ v. bits_of (converted_to v to)) (λ v. through bits_of v to) 0 (samples_of from input)))

by_boundary_rules : ByBoundaryRules
unfolding classify_of sample_position compare_of total_of min_of max_of clamp_of convert_of records_order key_length record_read key_exit
    read_exit cmp.compare_of cmp.total_of choose.min_of choose.max_of choose.clamp_of convert.convert_of lexical.compare_of write_of read_of
by_boundary_rules = record {
  classify = λ s. by_chain _ _;
  position = λ s. by_chain _ _;
  compare = λ a b. by_chain (two_rules a b ++ value_rules (value_for a) (value_for b)) _;
  total_order = λ a b. by_chain (two_rules a b ++ value_rules (value_for a) (value_for b)) _;
  min = λ a b. by_chain (two_rules a b ++ choice_rules (value_for a) (value_for b)) _;
  max = λ a b. by_chain (two_rules a b ++ choice_rules (value_for a) (value_for b)) _;
  clamp = λ v lower upper. by_chain (three_rules v lower upper ++ clamp_rules (value_for v) (value_for lower) (value_for upper)) _;
  convert = λ v to. by_chain (kind_rules v to ++ convert_rules (value_for v) (kind_for to)) _;
  compare_records =
      λ ns xs ms ys. by_chain (two_records_rules ns xs ms ys ++ record_rules (record_for (paired_samples ns xs)) (record_for (paired_samples ms ys))) _;
  write_key = λ ns bs room. by_chain (field_rules ns bs ++ write_rules (record_for (paired_samples ns bs)) room) _;
  read_key = λ ns key room. by_chain (room_rules ns room ++ read_rules (shape_for ns) key) _;
  migrate = by_migrate;
  key_buffer = λ ns bs buffer n p h. refused_unchanged _ buffer h;
  lent_bits = λ ns key bits n p h. refused_unchanged _ bits h;
}

in_boundary_order : InBoundaryOrder
unfolding numbers_of
in_boundary_order = record {
  classify_position = λ s. refl;
  compare_min_max = λ a b. refl;
  clamp = λ v lower upper. refl;
  convert = λ v to. refl;
  compare_records = λ ns xs ms ys. refl;
  write_key = λ ns bs. refl;
  read_key = λ ns room. refl;
  migrate = λ from input. refl;
}

-- ---- what the boundary tests

count_first : CountFirst
unfolding records_order key_length record_read
count_first = record {
  compare_records = λ ns xs ms ys h. rw h;
  write_key = λ ns bs room h. rw h;
  read_key = λ ns key room h. rw h;
}

unnamed_in : (ks : List Kind) (n : ℕ) → is_nothing (kind_in ks n) ≡ true → length ks ≤ n
unnamed_in [] n h = omega arith
unnamed_in (k ∷ ks) zero h = absurd (true≢false (sym h))
unnamed_in (k ∷ ks) (suc n) h = let q = unnamed_in ks n h in omega arith

unnamed_means : (n : ℕ) → unnamed n ≡ true → 11 ≤ n
unfolding unnamed
unnamed_means n h = unnamed_in all_kinds n h

means_unnamed : (n : ℕ) → 11 ≤ n → unnamed n ≡ true
unfolding unnamed
means_unnamed n h = rw (← past_all n h)

own_tests : OwnTests
unfolding too_wide
own_tests = record {
  bad_count_lem = bad_count_lem;
  no_kind = λ n. (unnamed_means n, means_unnamed n);
  too_wide_lem = λ s. (leb-true (2 ^ width_of (kind_for s.kind)) s.bits, le-leb (2 ^ width_of (kind_for s.kind)) s.bits);
}

-- ---- answers in numbers

all_numbered : AllNumbered
unfolding numbers_of each_of
all_numbered = record {
  classify = λ s. numbered_by (by_boundary_rules.classify s) refl;
  position = λ s. numbered_by (by_boundary_rules.position s) refl;
  compare = λ a b. numbered_by (by_boundary_rules.compare a b) refl;
  total_order = λ a b. numbered_by (by_boundary_rules.total_order a b) refl;
  min = λ a b. numbered_by (by_boundary_rules.min a b) refl;
  max = λ a b. numbered_by (by_boundary_rules.max a b) refl;
  clamp = λ v lower upper. numbered_by (by_boundary_rules.clamp v lower upper) refl;
  convert = λ v to. numbered_by (by_boundary_rules.convert v to) (convert_no_zero (value_for v) (kind_for to));
  compare_records = λ ns xs ms ys. numbered_by (by_boundary_rules.compare_records ns xs ms ys) refl;
  write_key = λ ns bs room. numbered_by (by_boundary_rules.write_key ns bs room) (nan_absent 0 refl 0 (fields_of (record_for (paired_samples ns bs))));
  read_key = λ ns key room. numbered_mapped (λ r. done) (record_read ns key room)
      (numbered_by (by_boundary_rules.read_key ns key room) (canonical_absent 0 refl 0 (key_numbers (kinds_in (shape_for ns)) key)));
  row_clamp =
      λ lower upper row. numbered_by (by_its_rules.row_clamp (bounds_of lower upper) row)
      (each_absent 0 (λ (x : Float). unordered 0 (sample_order x (bounds_of lower upper).lower) ∷ []) (λ x. refl) 0 row);
  u8_to_u16_lem =
      λ src dst. numbered_by (by_its_rules.u8_to_u16_lem src dst)
      (each_absent 0 (λ (n : ℕ). convert_rules (U8 n) kind.U16) (λ n. convert_no_zero (U8 n) kind.U16) 0 src);
  u16_to_u8_lem =
      λ src dst. numbered_by (by_its_rules.u16_to_u8_lem src dst)
      (each_absent 0 (λ (n : ℕ). convert_rules (U16 n) kind.U8) (λ n. convert_no_zero (U16 n) kind.U8) 0 src);
  u16_to_f32_lem =
      λ src dst. numbered_by (by_its_rules.u16_to_f32_lem src dst)
      (each_absent 0 (λ (n : ℕ). convert_rules (U16 n) kind.F32) (λ n. convert_no_zero (U16 n) kind.F32) 0 src);
  f32_to_u16_lem =
      λ src dst. numbered_by (by_its_rules.f32_to_u16_lem src dst)
      (each_absent 0 (λ (x : Float). convert_rules (F32 x 0) kind.U16) (λ x. convert_no_zero (F32 x 0) kind.U16) 0 src);
}

nothing_lost : NothingLost
nothing_lost = record {
  numbered = all_numbered;
  answers = answered_injective;
  orders = ordered_injective;
  classes = classed_injective;
  positions = positioned_injective;
  lengths = measured_injective;
  values = sampled_injective;
}

pub at_the_boundary : AtTheBoundary
at_the_boundary = record {
  in_order = in_boundary_order;
  by_its_rules = by_boundary_rules;
  count_first = count_first;
  own_tests = own_tests;
  nothing_lost = nothing_lost;
}
