-- The clauses of min_by and max_by of vstd/std_specs/cmp.rs over the fixed comparison of records, each from the definition at the order that it names.
use mathlib.Core.Path.{◌≡◌}
use Rattle.float.specs.declared.Order.{Order}
use Rattle.float.specs.declared.Order.TheVariants.{Less, Equal, Greater, Unordered}
use Rattle.value.specs.Outcome.{gives, refuses}
use Rattle.cmp.specs.Inner.{chosen_by}
use Rattle.record.specs.declared.Record.{Record}
use Rattle.record.specs.Record.{fields_of}
use Rattle.lexical.specs.Lexical.{deciding_of, compare_of, min_of, max_of}
use Rattle.lexical.proofs.Given.{kinds_shape, compared_records}

module _ (a b : Record) where
  min_at : (o : Order) → compare_of a b ≡ gives o → min_of a b ≡ chosen_by (deciding_of (fields_of a) (fields_of b)) a b o
  unfolding min_of chosen_by
  min_at o h = let c = compared_records a b o h in rw (c.0, c.1, kinds_shape (fields_of a) (fields_of b) c.2, c.3)

  max_at : (o : Order) → compare_of a b ≡ gives o → max_of a b ≡ chosen_by (deciding_of (fields_of a) (fields_of b)) b a o
  unfolding max_of chosen_by
  max_at o h = let c = compared_records a b o h in rw (c.0, c.1, kinds_shape (fields_of a) (fields_of b) c.2, c.3)

  pub record_min_greater : compare_of a b ≡ gives Greater → min_of a b ≡ gives b
  unfolding chosen_by
  record_min_greater h = min_at Greater h

  pub record_min_less : compare_of a b ≡ gives Less → min_of a b ≡ gives a
  unfolding chosen_by
  record_min_less h = min_at Less h

  pub record_min_equal : compare_of a b ≡ gives Equal → min_of a b ≡ gives a
  unfolding chosen_by
  record_min_equal h = min_at Equal h

  pub record_max_greater : compare_of a b ≡ gives Greater → max_of a b ≡ gives a
  unfolding chosen_by
  record_max_greater h = max_at Greater h

  pub record_max_less : compare_of a b ≡ gives Less → max_of a b ≡ gives b
  unfolding chosen_by
  record_max_less h = max_at Less h

  pub record_max_equal : compare_of a b ≡ gives Equal → max_of a b ≡ gives b
  unfolding chosen_by
  record_max_equal h = max_at Equal h

  -- what is unordered is 8, with the index of the field that decides
  pub record_min_unordered : compare_of a b ≡ gives Unordered → min_of a b ≡ refuses 8 (deciding_of (fields_of a) (fields_of b))
  unfolding chosen_by
  record_min_unordered h = min_at Unordered h

  pub record_max_unordered : compare_of a b ≡ gives Unordered → max_of a b ≡ refuses 8 (deciding_of (fields_of a) (fields_of b))
  unfolding chosen_by
  record_max_unordered h = max_at Unordered h
