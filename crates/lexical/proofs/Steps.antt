-- One step over the fields that are left: those from a place on are the field there and those behind it.
use Prim.Native.Nat.{ℕ, zero, suc, ◌+◌, ◌-◌, ◌≤◌, ◌<◌}
use mathlib.Core.Path.{◌≡◌, refl, sym, ◌∙◌}
use mathlib.Core.Bool.{false, ◌||◌}
use mathlib.Core.List.{List, ◌∷◌}
use native.Mathlib.Omega.{arith}
use native.Mathlib.Nat.{add-zero}
use native.Mathlib.Numerals.{add-one, sub-one}
use lib.ListN.{length, take, drop}
use lib.Seq.{drop-cons}
use Rattle.float.specs.declared.Order.{Order}
use Rattle.float.specs.declared.Order.TheVariants.{Less, Equal, Greater, Unordered}
use Rattle.float.specs.Order.{is_equal, or_else}
use Rattle.float.proofs.Tests.{neither}
use Rattle.value.specs.declared.Value.TheVariants.{U8}
use Rattle.cmp.specs.Compare.{kinds_differ, value_order}
use Rattle.record.proofs.Twelve.{Twelve}
use Rattle.record.specs.declared.Field.{Field}
use Rattle.record.specs.declared.Record.{Record}
use Rattle.lexical.specs.declared.comparisons.Decision.{Decision}
use Rattle.record.specs.Record.{field_for, value_at}
use Rattle.lexical.specs.Lexical.{lexical_of, deciding_of, shapes_differ}
use Rattle.lexical.specs.Inner.{decision_from}

-- the fields from a place on
abbrev pub left_in : Record → ℕ → ℕ → List Field
left_in r at left = take left (drop at r.fields)

left_cons : (l : List Field) (at left : ℕ) → (left ≡ 0 → ⊥) → at < length l
    → take left (drop at l) ≡ field_for (value_at l at) ∷ take (left - 1) (drop (at + 1) l)
left_cons l at zero some h = absurd (some refl)
left_cons l at (suc n) some h = rw (add-one at, sub-one (suc n), drop-cons l at (field_for (U8 0)) h)

pub not_equal : (o : Order) → (o ≡ Equal → ⊥) → is_equal o ≡ false
not_equal Less n = refl
not_equal Equal n = absurd (n refl)
not_equal Greater n = refl
not_equal Unordered n = refl

-- an order that is not Equal decides
stops : (at : ℕ) (o p : Order) → is_equal o ≡ false → ◌≡◌ {A = Decision} (record { order = o; at = at }) (record { order = or_else o p; at = at + 0 })
stops at Less p h = rw (add-zero at)
stops at Equal p h = cc
stops at Greater p h = rw (add-zero at)
stops at Unordered p h = rw (add-zero at)

-- with no field left all were Equal
pub decided_equal : (a b : Record) (at left : ℕ) → left ≡ 0
    → ◌≡◌ {A = Decision} (record { order = Equal; at = at }) (decision_from at (left_in a at left) (left_in b at left))
unfolding lexical_of deciding_of
decided_equal a b at left h = rw (h, add-zero at)

module _ (a b : Record) (at left : ℕ) (ta : Twelve a) (tb : Twelve b) (some : left ≡ 0 → ⊥) (h : at + left ≤ 12) where
  here : (r : Record) → Twelve r → left_in r at left ≡ field_for (value_at r.fields at) ∷ left_in r (at + 1) (left - 1)
  here r t = left_cons r.fields at left some (omega arith)

  pub shapes_step : shapes_differ (left_in a at left) (left_in b at left)
      ≡ (kinds_differ (value_at a.fields at) (value_at b.fields at) || shapes_differ (left_in a (at + 1) (left - 1)) (left_in b (at + 1) (left - 1)))
  unfolding shapes_differ
  shapes_step = rw (here a ta, here b tb)

  one_shape : shapes_differ (left_in a at left) (left_in b at left) ≡ false
      → (kinds_differ (value_at a.fields at) (value_at b.fields at) ≡ false)
      × (shapes_differ (left_in a (at + 1) (left - 1)) (left_in b (at + 1) (left - 1)) ≡ false)
  one_shape s = neither (kinds_differ (value_at a.fields at) (value_at b.fields at)) _ (sym shapes_step ∙ s)

  pub kinds_here : shapes_differ (left_in a at left) (left_in b at left) ≡ false → kinds_differ (value_at a.fields at) (value_at b.fields at) ≡ false
  kinds_here s = (one_shape s).0

  pub shape_behind : shapes_differ (left_in a at left) (left_in b at left) ≡ false
      → shapes_differ (left_in a (at + 1) (left - 1)) (left_in b (at + 1) (left - 1)) ≡ false
  shape_behind s = (one_shape s).1

  -- the field here is Equal, and those behind it decide
  pub decided_behind : Equal ≡ value_order (value_at a.fields at) (value_at b.fields at)
      → decision_from (at + 1) (left_in a (at + 1) (left - 1)) (left_in b (at + 1) (left - 1)) ≡ decision_from at (left_in a at left) (left_in b at left)
  unfolding lexical_of deciding_of
  decided_behind q =
      let d = deciding_of (left_in a (at + 1) (left - 1)) (left_in b (at + 1) (left - 1)) in
      let e : at + 1 + d ≡ at + suc d = omega arith in
      rw (here a ta, here b tb, ← q, e)

  -- the field here decides
  pub decided_here : (o : Order) → is_equal o ≡ false → o ≡ value_order (value_at a.fields at) (value_at b.fields at)
      → ◌≡◌ {A = Decision} (record { order = o; at = at }) (decision_from at (left_in a at left) (left_in b at left))
  unfolding lexical_of deciding_of
  decided_here o n q = rw (here a ta, here b tb, ← q, n) (stops at o _ n)
