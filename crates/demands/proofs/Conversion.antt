-- The sentences of demand 2 on conversion, from the laws of convert.
use mathlib.Core.Path.{◌≡◌, refl, sym, ◌∙◌, ap, subst}
use mathlib.Core.Bool.{Bool, true, false, ◌&&◌, true≢false, and-true, and-false}
use mathlib.Core.Logic.{◌↔◌}
use Prim.Native.Nat.{ℕ, ◌*◌, ◌^◌, ◌<◌}
use native.Mathlib.Nat.{mul_assoc}
use native.Mathlib.Omega.{arith}
use borrow.Author.Tests.{eq-eqb, eqb-true}
use lib.IntN.{pos}
use Rattle.float.specs.Format.{Format, mag_in, sign_in}
use Rattle.float.specs.Number.{Exact, finite, number_of}
use Rattle.float.proofs.Tests.{clash}
use Rattle.half.specs.Small.{IsOver}
use Rattle.value.specs.declared.Kind.{Kind}
use Rattle.value.specs.declared.Kind.TheVariants as kind
use Rattle.value.specs.declared.Value.{Value}
use Rattle.value.specs.declared.Value.TheVariants.{F16}
use Rattle.value.specs.Kinds.{Form, floating, form_of, is_integer, kind_of, kind_number}
use Rattle.value.specs.Meaning.{Content, natural, integer, real, content_of, bits_in, exact_in, unit, step_of, exact_of, bits_of, f32_value}
use Rattle.value.specs.Outcome.{gives}
use Rattle.value.proofs.KindNumbers.{number_injective}
use Rattle.value.proofs.MadeValues.{bits_made, value_kind}
use Rattle.value.proofs.Ranges.{form_in, content_form}
use Rattle.value.proofs.OwnBits.{bits_small, value_again, exact_again}
use Rattle.convert.specs.Convert.{is_minus_zero, encode_of, held_in, convert_of}
use Rattle.convert.proofs.Encode.{held_of, held_has}
use Rattle.convert.proofs.Exactly.{same_kind, other_kind, sound, exactly}
use Rattle.convert.proofs.FromHalf.{entry_means, entry_moved}
use Rattle.convert.proofs.Infinities.{refused_none, nan_never, infinity_refused, infinity_passes, minus_zero_passes}
use Rattle.convert.proofs.MinusZero.{is_minus_zero_lem, integer_signless, minus_zero_float}
use Rattle.convert.proofs.Returning.{returns_same}
use Rattle.convert.proofs.Widening.{widened}
use Rattle.demands.specs.Conversion.{Other, IsMinusZero, HoldsNumberOf, Conversion}
use Rattle.demands.proofs.Widening.{widens_means}

pub other : (v : Value) (to : Kind) → Other v to → kind_number (kind_of v) ≡ kind_number to → ⊥
other v to h q = h (number_injective (kind_of v) to q)

-- ---- minus zero

not_true : (t : Bool) → (t ≡ true → ⊥) → t ≡ false
not_true true h = absurd (h refl)
not_true false h = refl

-- the rule's test passes
pub signless : (x : Exact) (integer : Bool) → ((is_minus_zero x && integer) ≡ false) ↔ (integer ≡ true → x ≡ finite true 0 → ⊥)
signless x true = (
  (λ h i q. true≢false (sym (ap is_minus_zero q) ∙ sym (and-true _) ∙ h)),
  λ h. and-true _ ∙ not_true (is_minus_zero x) (λ t. h refl (is_minus_zero_lem x t)),
)
signless x false = ((λ h i. absurd (true≢false (sym i))), λ h. and-false (is_minus_zero x))

minus_zero_content : (c : Content) → (exact_in c ≡ finite true 0) ↔ ((f : Format) × (form_in c ≡ floating f) × (bits_in c ≡ sign_in f))
minus_zero_content (natural k n) = ((λ q. absurd (true≢false (sym (ap is_minus_zero q) ∙ integer_signless (pos n)))), λ h. clash (cc h.1))
minus_zero_content (integer k z) = ((λ q. absurd (true≢false (sym (ap is_minus_zero q) ∙ integer_signless z))), λ h. clash (cc h.1))
minus_zero_content (real f b) = (
  (λ q. (f, refl, eqb-true b (sign_in f) (sym (minus_zero_float f b) ∙ ap is_minus_zero q))),
  λ h. let own : f ≡ h.0 = cc h.1 in is_minus_zero_lem (exact_in (real f b)) (minus_zero_float f b ∙ eq-eqb b (sign_in f) (h.2 ∙ ap sign_in (sym own))),
)

minus_zero_means : (v : Value) → IsMinusZero v ↔ ((f : Format) × (form_of (kind_of v) ≡ floating f) × (bits_of v ≡ sign_in f))
minus_zero_means v =
    subst (λ (form : Form). IsMinusZero v ↔ ((f : Format) × (form ≡ floating f) × (bits_of v ≡ sign_in f))) (content_form v) (minus_zero_content (content_of v))

-- ---- the claims

held_means : (f : Format) (m : ℕ) → (held_in f m ≡ true) ↔ ((a : ℕ) × (mag_in f a * step_of f ≡ m))
held_means f m = (λ h. (encode_of f m, held_has f m h), λ has. subst (λ (n : ℕ). held_in f n ≡ true) has.1 (held_of f has.0))

table_means : (m b : ℕ) → m < 1024 → IsOver m b
    → ((k : ℕ) × (exact_of (f32_value b) ≡ finite false k) × (k * 2 ^ 24 ≡ m * unit)) × (convert_of (F16 m) kind.F32 ≡ gives (f32_value b))
unfolding unit
table_means m b h over =
    ((m * 2 ^ 1050, entry_means m b h over, mul_assoc m (2 ^ 1050) (2 ^ 24)), other_kind (F16 m) kind.F32 (λ q. omega arith) ∙ entry_moved m b h over)

-- what the laws of convert ask for, and what they give
module _ (v : Value) (to : Kind) (o : Other v to) where
  no_sign_lost : HoldsNumberOf v to → (is_minus_zero (exact_of v) && is_integer (form_of to)) ≡ false
  no_sign_lost has = (signless (exact_of v) (is_integer (form_of to))).1 has.2

  gives_exactly : ((w : Value) × (convert_of v to ≡ gives w)) ↔ HoldsNumberOf v to
  gives_exactly =
      let e = exactly v to (other v to o) in (
        (λ given. let h = e.0 given in (h.0, h.2, (signless (exact_of v) (is_integer (form_of to))).0 h.1)),
        λ has. e.1 (has.0, no_sign_lost has, has.1),
      )

pub of_conversion : Conversion
of_conversion = record {
  exactly = gives_exactly;
  same_number = λ v to h w g. let s = sound v to (other v to h) w g in (s.2, s.3, ap number_of s.4);
  none_hidden = λ v to h n p g has. refused_none v to (other v to h) n p g has.0 (no_sign_lost v to h has) has.1.0 has.1.1;
  held_means = held_means;
  sign_kept = λ v to h w g. (sound v to (other v to h) w g).4;
  minus_zero_means = minus_zero_means;
  minus_zero_passes = λ v to f h. minus_zero_passes v to (other v to h) f;
  infinity_passes = λ v to s f h. infinity_passes v to (other v to h) s f;
  infinity_stops = λ v to s h. infinity_refused v to (other v to h) s;
  nan_never = λ v to h. nan_never v to (other v to h);
  same_kind = same_kind;
  widens_means = widens_means;
  widened = λ v to r h. widened v to r (other v to h);
  there_and_back = λ v to r h. returns_same v to r (other v to h);
  table_means = table_means;
  pattern_made = λ k b. (value_kind k b, bits_made k b);
  value_of_bits = λ v r. (bits_small v r, value_again v r, exact_again v r);
}
