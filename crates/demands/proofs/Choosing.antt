-- The sentences of demand 2 on records, and on choosing and clamping.
use Prim.Native.Nat.{ℕ}
use mathlib.Core.Path.{◌≡◌, ◌∙◌, ap}
use Rattle.float.specs.declared.Order.{Order}
use Rattle.float.specs.declared.Order.TheVariants.{Equal, Unordered}
use Rattle.value.specs.Outcome.{Outcome, gives, refuses}
use Rattle.record.specs.declared.Record.{Record}
use Rattle.record.specs.declared.Shape.{Shape}
use Rattle.record.specs.Record.{fields_of}
use Rattle.lexical.specs.Lexical.{lexical_of, deciding_of}
use Rattle.lexical.specs.Lexical as lexical
use Rattle.lexical.proofs.Given.{compared_records, records_compared}
use Rattle.key.specs.Keyed.{Usable, OfShape}
use Rattle.key.proofs.Demand3.{records_order_lem}
use Rattle.laws_cmp.specs.Laws.{OneShape, DecidesAt}
use Rattle.laws_cmp.proofs.Choices.{min_by_less, min_by_equal, min_by_greater, max_by_less, max_by_equal, max_by_greater, min_unordered, max_unordered}
use Rattle.laws_cmp.proofs.Fields.{equal_every}
use Rattle.laws_cmp.proofs.FirstField.{decides_order, decides_index, some_decides}
use Rattle.laws_cmp.proofs.Records.{records_partial_order, integer_records_linear_order}
use Rattle.laws_cmp.proofs.RecordChoices.{record_min_less, record_min_equal, record_min_greater, record_max_less, record_max_equal, record_max_greater}
use Rattle.laws_cmp.proofs.RecordChoices.{record_min_unordered, record_max_unordered}
use Rattle.demands.specs.Choosing.{Records, Choosing}
use Rattle.demands.proofs.Refusing.{rule_seven, one_shape, compare_refuses, min_refuses, max_refuses}
use Rattle.demands.proofs.Clamping.{clamps, range_made, range_bad, samples}

-- ---- records

by_fields : (a b : Record) → OneShape a b → (o : Order) → lexical_of (fields_of a) (fields_of b) ≡ o → lexical.compare_of a b ≡ gives o
by_fields a b s o = records_compared a b o s.0 s.1 s.2

unused_places : (a b a' b' : Record) → a.count ≡ a'.count → b.count ≡ b'.count → fields_of a ≡ fields_of a' → fields_of b ≡ fields_of b'
    → lexical.compare_of a b ≡ lexical.compare_of a' b'
unfolding lexical.compare_of
unused_places a b a' b' m n h k = cc

module _ (a b : Record) (s : OneShape a b) (i : ℕ) (o : Order) (d : DecidesAt i (fields_of a) (fields_of b) o) where
  first_decides : lexical.compare_of a b ≡ gives o
  first_decides = by_fields a b s o (decides_order (fields_of a) (fields_of b) i o d)

  -- the place of 8
  eight_at : ◌≡◌ {A = Outcome Record} (refuses 8 (deciding_of (fields_of a) (fields_of b))) (refuses 8 i)
  eight_at = ap (refuses 8) (decides_index (fields_of a) (fields_of b) i o d)

of_shape : (s : Shape) → Usable s → (a b : Record) → OfShape s a → OfShape s b → OneShape a b
of_shape s u a b h k = let c = compared_records a b _ (records_order_lem s a b u h k) in (c.0, c.1, c.2)

pub of_records : Records
of_records = record {
  first_decides = first_decides;
  all_equal = λ a b s e. by_fields a b s Equal (equal_every (fields_of a) (fields_of b) e);
  decided = λ a b s. some_decides (fields_of a) (fields_of b) s.2;
  min_unordered = λ a b s i d. record_min_unordered a b (first_decides a b s i Unordered d) ∙ eight_at a b s i Unordered d;
  max_unordered = λ a b s i d. record_max_unordered a b (first_decides a b s i Unordered d) ∙ eight_at a b s i Unordered d;
  compare_refuses = compare_refuses;
  min_refuses = min_refuses;
  max_refuses = max_refuses;
  one_shape = one_shape;
  of_shape = of_shape;
  unused_places = unused_places;
  partial_order = records_partial_order;
  integer_order = integer_records_linear_order;
}

-- ---- choosing

pub of_choosing : Choosing
of_choosing = record {
  values = record {
    min_less = min_by_less;
    min_equal = min_by_equal;
    min_greater = min_by_greater;
    max_less = max_by_less;
    max_equal = max_by_equal;
    max_greater = max_by_greater;
  };
  records = record {
    min_less = record_min_less;
    min_equal = record_min_equal;
    min_greater = record_min_greater;
    max_less = record_max_less;
    max_equal = record_max_equal;
    max_greater = record_max_greater;
  };
  min_unordered = min_unordered;
  max_unordered = max_unordered;
  rule_seven = rule_seven;
  clamps = clamps;
  range_made = range_made;
  range_bad = range_bad;
  samples = samples;
}
