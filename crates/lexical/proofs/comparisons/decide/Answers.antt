-- The tests of rules 11 and 7 in their order; past them the counts are one, so that the comparison walks both records to their ends.
use Prim.Native.Nat.{ℕ, ◌≤◌}
use mathlib.Core.Path.{◌≡◌, sym, ◌∙◌, ap}
use mathlib.Core.Bool.{false}
use native.Mathlib.Omega.{arith}
use lib.ListN.{take}
use borrow.Author.Rules.{rules}
use Rattle.record.specs.Record.{fields_of}
use Rattle.lexical.specs.Lexical.{shapes_differ}
use Rattle.lexical.specs.Inner.{decision_from}
use Rattle.lexical.proofs.Deciding.{good_counts, decide_given}
use Rattle.lexical.proofs.OneShape.{one_count}
use Rattle.lexical.proofs.comparisons.decide.Goals as goal
use Rattle.lexical.proofs.comparisons.decide.Goals.{Else-shapes_differ}

counts : (c : Else-shapes_differ) → (c.args.a.count ≤ 12) × (c.args.b.count ≤ 12)
counts c = good_counts c.args.a c.args.b c.bad_counts.ensures c.if-bad_counts.false

alike : (c : Else-shapes_differ) → shapes_differ (fields_of c.args.a) (fields_of c.args.b) ≡ false
alike c = sym c.shapes_differ.ensures ∙ c.if-shapes_differ.false

count : (c : Else-shapes_differ) → c.args.a.count ≡ c.args.b.count
count c =
    let h = counts c in
    one_count c.args.a c.args.b (search rules) (search rules) h.0 h.1 (alike c)

pub compare_from-requires : goal.compare_from-requires
compare_from-requires c =
    let e = (goal.at.compare_from-requires c).Else-shapes_differ in
    let h = counts e in
    (omega arith, ap (λ (n : ℕ). shapes_differ (fields_of c.args.a) (take n c.args.b.fields)) (count e) ∙ alike e)

pub returns : goal.returns
returns c =
    let a = c.args.a in
    let b = c.args.b in
    let e = (goal.at.returns c).Else-shapes_differ in
    decide_given a b c.bad_counts.ensures c.if-bad_counts.false (alike e)
    (c.compare_from.ensures ∙ ap (λ (n : ℕ). decision_from 0 (fields_of a) (take n b.fields)) (count e))
