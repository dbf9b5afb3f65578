-- To another kind a NaN never converts, an infinity and minus zero only between float kinds; and no refusal hides a number that the kind has.
use mathlib.Core.Path.{◌≡◌, refl, sym, ◌∙◌, ap, subst}
use mathlib.Core.Bool.{Bool, true, false, ◌&&◌}
use Prim.Native.Nat.{ℕ}
use borrow.Author.Tests.{eq-eqb}
use Rattle.float.specs.Format.{Format, sign_in}
use Rattle.float.specs.Number.{Exact, not_number, infinite, finite, none, number_of}
use Rattle.float.proofs.Tests.{clash}
use Rattle.value.specs.declared.Kind.{Kind}
use Rattle.value.specs.declared.Value.{Value}
use Rattle.value.specs.Kinds.{kind_of, kind_number, Form, floating, form_of, is_integer}
use Rattle.value.specs.Meaning as value
use Rattle.value.specs.Meaning.{real, exact_in, exact_of, value_of}
use Rattle.value.specs.Outcome.{gives, refuses}
use Rattle.convert.specs.Convert.{is_minus_zero, convert_of, made_in}
use Rattle.convert.specs.Inner.{into_of}
use Rattle.convert.proofs.Accepted.{Accepted, infinity_accepted, accepts_float}
use Rattle.convert.proofs.MinusZero.{is_minus_zero_lem, minus_zero_float}
use Rattle.convert.proofs.Exactly.{into_gives, other_kind, sound, complete}

module _ (v : Value) (to : Kind) (other : kind_number (kind_of v) ≡ kind_number to → ⊥) where
  -- no refusal hides a number that exists
  pub refused_none : (n p : ℕ) → convert_of v to ≡ refuses n p →
      (value.number_of v ≡ none → ⊥) → (is_minus_zero (exact_of v) && is_integer (form_of to)) ≡ false
      → (b : ℕ) → value.number_of (value_of to b) ≡ value.number_of v → ⊥
  refused_none n p h d z b q = clash (cc (complete v to other b d z q, h))

  pub nan_never : exact_of v ≡ not_number → convert_of v to ≡ refuses 1 0
  unfolding into_of
  nan_never q = other_kind v to other ∙ ap (into_of to) q

  pub infinity_refused : (s : Bool) → exact_of v ≡ infinite s → is_integer (form_of to) ≡ true → convert_of v to ≡ refuses 2 0
  unfolding into_of
  infinity_refused s q t = other_kind v to other ∙ simp (q, t)

  -- what a float kind accepts it gives, and that stands for the same
  float_passes : (x : Exact) (f : Format) → exact_of v ≡ x → form_of to ≡ floating f → Accepted (floating f) x
      → (w : Value) × (convert_of v to ≡ gives w) × (exact_of w ≡ x)
  float_passes x f q t a =
      let own : Accepted (form_of to) x = subst (λ (form : Form). Accepted form x) (sym t) a in
      let g = other_kind v to other ∙ into_gives to (exact_of v) (subst (Accepted (form_of to)) (sym q) own) in
      (made_in to (exact_of v), g, (sound v to other (made_in to (exact_of v)) g).4 ∙ q)

  pub infinity_passes : (s : Bool) (f : Format) → exact_of v ≡ infinite s → form_of to ≡ floating f
      → (w : Value) × (convert_of v to ≡ gives w) × (exact_of w ≡ infinite s)
  infinity_passes s f q t = float_passes (infinite s) f q t (infinity_accepted f s)

  pub minus_zero_passes : (f : Format) → exact_of v ≡ finite true 0 → form_of to ≡ floating f
      → (w : Value) × (convert_of v to ≡ gives w) × (exact_of w ≡ finite true 0)
  minus_zero_passes f q t =
      let own = is_minus_zero_lem (exact_in (real f (sign_in f))) (minus_zero_float f (sign_in f) ∙ eq-eqb (sign_in f) (sign_in f) refl) in
      float_passes (finite true 0) f q t (accepts_float f (sign_in f) (finite true 0) refl (ap number_of own))
