-- Refusals 9, 10 and 11 in other words: no other rule of the list has the number, so the call is refused with it exactly when its own rule holds; and
-- what the rule tests is read as a statement on counts and lengths.
use Prim.Native.Nat.{ℕ, ◌≤◌, ◌<◌}
use mathlib.Core.Path.{◌≡◌, refl, ap}
use mathlib.Core.Logic.Iff
use mathlib.Core.Logic.{inl, inr, ◌↔◌}
use mathlib.Core.Bool.{Bool, true, false, not}
use mathlib.Core.List.{List, [], ◌∷◌}
use native.Mathlib.Omega.{arith}
use borrow.Author.Tests.{eqb-true, eq-eqb, ltb-true, lt-ltb, not-false}
use lib.Dec.{eqb, ltb}
use lib.ListN.{length}
use Rattle.value.specs.declared.Kind.{Kind}
use Rattle.value.specs.Outcome.{gives, refuses, refuse_if}
use Rattle.value.specs.Rules.{rule, numbers_of}
use Rattle.record.specs.declared.Record.{Record}
use Rattle.record.specs.declared.Shape.{Shape}
use Rattle.record.specs.Record.{fields_of, bad_count, kinds_in, record_of, set_of, get_of, push_of, shape_of}
use Rattle.key.specs.Key.{nan_rules, bytes_in, key_numbers, canonical_rules, fields_from, write_of, read_of}
use Rattle.key.specs.Keyed.{record_key}
use Rattle.key.proofs.FieldLists.{key_length_lem}
use Rattle.demands.specs.Lengths.{NoneOrMany, Lengths}
use Rattle.demands.proofs.RuleNumbers.{nan_absent, canonical_absent, first_exactly, true_otherwise, either}

-- ---- what the tests say

pub bad_count_lem : (n : ℕ) → (bad_count n ≡ true) ↔ NoneOrMany n
bad_count_lem n = Iff.trans (either (eqb n 0) (ltb 12 n)) (
  (λ h. elim h [ inl e ↦ inl (eqb-true n 0 e) | inr l ↦ inr (ltb-true 12 n l) ]),
  λ h. elim h [ inl e ↦ inl (eq-eqb n 0 e) | inr l ↦ inr (lt-ltb 12 n l) ],
)

past_twelve : (at : ℕ) → (ltb 11 at ≡ true) ↔ (12 ≤ at)
past_twelve at = ((λ h. omega (arith, ltb-true 11 at h)), λ h. lt-ltb 11 at (omega arith))

shorter : (m n : ℕ) → (ltb m n ≡ true) ↔ (m < n)
shorter m n = ((λ h. ltb-true m n h), λ h. lt-ltb m n h)

unequal : (m n : ℕ) → (not (eqb m n) ≡ true) ↔ (m ≡ n → ⊥)
unequal m n = true_otherwise (not (eqb m n)) ((λ h. eqb-true m n (not-false (eqb m n) h)), λ q. ap not (eq-eqb m n q))

-- ---- the calls

write_ten : (r : Record) (room : ℕ) → bad_count r.count ≡ false → (write_of r room ≡ refuses 10 0) ↔ (room < length (record_key r))
unfolding write_of
write_ten r room c =
    let n = length (record_key r) in
    let nans = nan_absent 10 refl 0 (fields_of r) in
    rw c (Iff.trans (first_exactly 10 (ltb room n) (nan_rules 0 (fields_of r)) n nans) (shorter room n))

module _ (s : Shape) (key : List ℕ) where
  abbrev numbers : List (Kind × ℕ)
  numbers = key_numbers (kinds_in s) key

  abbrev length_test : Bool
  length_test = not (eqb (length key) (bytes_in (kinds_in s)))

  read_nine : bad_count s.count ≡ false → (read_of s key ≡ refuses 9 0) ↔ (length key ≡ bytes_in (kinds_in s) → ⊥)
  unfolding read_of
  read_nine c =
      let others = canonical_absent 9 refl 0 numbers in
      rw c (Iff.trans (first_exactly 9 length_test (canonical_rules 0 numbers) (record_of (fields_from numbers)) others)
      (unequal (length key) (bytes_in (kinds_in s))))

  read_eleven : (read_of s key ≡ refuses 11 0) ↔ NoneOrMany s.count
  unfolding read_of numbers_of
  read_eleven =
      let others = canonical_absent 11 refl 0 numbers in
      Iff.trans (first_exactly 11 (bad_count s.count) (rule 9 0 length_test ∷ canonical_rules 0 numbers) (record_of (fields_from numbers))
      others) (bad_count_lem s.count)

write_eleven : (r : Record) (room : ℕ) → (write_of r room ≡ refuses 11 0) ↔ NoneOrMany r.count
unfolding write_of numbers_of
write_eleven r room =
    let n = length (record_key r) in
    let nans = nan_absent 11 refl 0 (fields_of r) in
    Iff.trans (first_exactly 11 (bad_count r.count) (rule 10 0 (ltb room n) ∷ nan_rules 0 (fields_of r)) n nans) (bad_count_lem r.count)

-- a rule that stands alone
alone_exactly : {A : Type 0} (n : ℕ) (t : Bool) (a : A) → (refuse_if t n 0 (gives a) ≡ refuses n 0) ↔ (t ≡ true)
unfolding numbers_of
alone_exactly n t a = first_exactly n t [] a refl

pub of_lengths : Lengths
unfolding shape_of set_of get_of push_of
of_lengths = record {
  shape_eleven = λ r. Iff.trans (alone_exactly 11 (bad_count r.count) _) (bad_count_lem r.count);
  write_eleven = write_eleven;
  read_eleven = read_eleven;
  set_eleven = λ r at v. Iff.trans (alone_exactly 11 (ltb 11 at) _) (past_twelve at);
  get_eleven = λ r at. Iff.trans (alone_exactly 11 (ltb 11 at) _) (past_twelve at);
  push_eleven = λ r v. Iff.trans (alone_exactly 11 (ltb 11 r.count) _) (past_twelve r.count);
  write_ten = write_ten;
  read_nine = read_nine;
  key_length_lem = λ r. key_length_lem (fields_of r);
}
