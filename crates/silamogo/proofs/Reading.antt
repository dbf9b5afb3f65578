-- A record that was read has as many fields as the row of bits has places.
use mathlib.Core.Path.{◌≡◌, refl, sym, ◌∙◌, ap}
use mathlib.Core.List.{List}
use Prim.Native.Nat.{ℕ, ◌≤◌}
use lib.Dec.{eqb}
use lib.ListN.{length}
use borrow.Author.Tests.{eqb-true, not-false}
use Rattle.std.specs.Prelude.{Result, Ok, not}
use Rattle.value.specs.declared.Refusal.{Refusal}
use Rattle.value.specs.Outcome.{Outcome, gives, refuses, outcome_of}
use Rattle.value.specs.Rules.{chain}
use Rattle.value.proofs.Outcomes.{refuse_passes}
use Rattle.float.proofs.Tests.{clash}
use Rattle.record.specs.declared.Record.{Record}
use Rattle.record.specs.declared.Recorded.{Recorded}
use Rattle.record.specs.declared.Shape.{Shape}
use Rattle.record.specs.Record.{bad_count, recorded_of}
use Rattle.key.specs.Key.{read_of}
use Rattle.key.proofs.ReadSteps.{read_count}
use Rattle.silamogo.specs.Samples.{any_unnamed}
use Rattle.silamogo.specs.Records.{shape_for, room_rules}
use Rattle.silamogo.proofs.Filling.{shape_places}

module _ (ns : List ℕ) (room : ℕ) {checked : Result (Unit {0}) Refusal} (rules : outcome_of checked ≡ chain (room_rules ns room) (gives tt)) where
  checked_room : checked ≡ Ok tt → length ns ≡ room
  checked_room q =
      let past-11 = refuse_passes (bad_count (length ns)) 11 0 _ tt (sym rules ∙ ap outcome_of q) in
      let past-7 = refuse_passes (any_unnamed ns) 7 0 _ tt past-11.1 in
      let past-9 = refuse_passes (not (eqb (length ns) room)) 9 0 _ tt past-7.1 in
      eqb-true (length ns) room (not-false _ past-9.0)

  pub read_room : checked ≡ Ok tt → (key : List ℕ) {s : Shape} {x : Recorded} → s ≡ shape_for ns → x ≡ recorded_of (read_of s key) → x.outcome ≡ Ok tt
      → (x.«record».count ≤ 12) × (room ≡ x.«record».count)
  read_room q key {s} {x} s-is x-is done = go (read_of (shape_for ns) key) refl
    where
      x-said : x ≡ recorded_of (read_of (shape_for ns) key)
      x-said = rw s-is at x-is

      go : (o : Outcome Record) → read_of (shape_for ns) key ≡ o → (x.«record».count ≤ 12) × (room ≡ x.«record».count)
      go (gives r) e = let few = read_count (shape_for ns) key r (shape_places ns) e in
          rw (x-said, e) (rw (← few.0) at few.1, sym (checked_room q) ∙ sym few.0)
      go (refuses n p) e = let refused = rw (x-said, e) at done in clash cc
