-- A value in range is told by its kind and its bits: what it stands for is read off its form and its bits, and so the value made of them has the
-- same bits and stands for the same.
use mathlib.Core.Path.{◌≡◌, refl, sym, ◌∙◌, ap, subst}
use Prim.Native.Nat.{ℕ, ◌-◌, ◌^◌, ◌≤◌, ◌<◌}
use native.Mathlib.Omega.{arith}
use lib.IntN.{ℤ, pos}
use Rattle.float.specs.Number.{Exact, times}
use Rattle.float.specs.Order.{pattern_in}
use Rattle.value.specs.declared.Kind.{Kind}
use Rattle.value.specs.declared.Value.{Value}
use Rattle.value.specs.Kinds.{kind_of, Form, unsigned, signed, floating, form_of, width_in, width_of}
use Rattle.value.specs.Meaning.{Content, natural, integer, real, content_of, FitsSigned, twos_of, bits_in, bits_of, InRange}
use Rattle.value.specs.Meaning.{whole_of, unit, step_of, exact_in, exact_of, from_twos, value_of}
use Rattle.value.proofs.MadeValues.{value_bits, value_kind}
use Rattle.value.proofs.TwosComplement.{fits_below, from_twos_lem}
use Rattle.value.proofs.Widths.{Sized, kind_sized}
use Rattle.value.proofs.Ranges.{form_in, content_form, Ranged, content_ranged, twice_half, bits_range, made_in_range}

abbrev stands_for : Form → ℕ → Exact
stands_for (unsigned k) b = times unit (whole_of (pos b))
stands_for (signed k) b = times unit (whole_of (from_twos (2 ^ (k - 1)) b))
stands_for (floating f) b = times (step_of f) (pattern_in f b)

twos_again : (k : ℕ) (z : ℤ) → 1 ≤ k → FitsSigned (2 ^ (k - 1)) z → from_twos (2 ^ (k - 1)) (twos_of (2 ^ k - 1) z) ≡ z
twos_again k z s r =
    subst (λ (n : ℕ). from_twos (2 ^ (k - 1)) (twos_of (n - 1) z) ≡ z) (twice_half k s) (from_twos_lem (2 ^ (k - 1)) z (fits_below (2 ^ (k - 1)) z r))

content_told : (x : Content) → Sized (form_in x) → Ranged x → stands_for (form_in x) (bits_in x) ≡ exact_in x
content_told (natural k n) s r = refl
content_told (integer k z) s r = ap (λ (y : ℤ). times unit (whole_of y)) (twos_again k z (omega (arith, s.0)) r)
content_told (real f b) s r = refl

module _ (v : Value) (r : InRange v) where
  own_sized : Sized (form_in (content_of v))
  own_sized = subst Sized (sym (content_form v)) (kind_sized (kind_of v))

  pub bits_small : bits_of v < 2 ^ width_of (kind_of v)
  bits_small = subst (λ (form : Form). bits_of v < 2 ^ width_in form) (content_form v) (bits_range (content_of v) own_sized (content_ranged v r))

  told : stands_for (form_of (kind_of v)) (bits_of v) ≡ exact_of v
  told = subst (λ (form : Form). stands_for form (bits_of v) ≡ exact_of v) (content_form v) (content_told (content_of v) own_sized (content_ranged v r))

pub value_again : (v : Value) → InRange v → bits_of (value_of (kind_of v) (bits_of v)) ≡ bits_of v
value_again v r = value_bits (kind_of v) (bits_of v) (bits_small v r)

pub exact_again : (v : Value) → InRange v → exact_of (value_of (kind_of v) (bits_of v)) ≡ exact_of v
exact_again v r =
    let u = value_of (kind_of v) (bits_of v) in
    sym (told u (made_in_range (kind_of v) (bits_of v)))
    ∙ ap (λ (k : Kind). stands_for (form_of k) (bits_of u)) (value_kind (kind_of v) (bits_of v))
    ∙ ap (stands_for (form_of (kind_of v))) (value_again v r)
    ∙ told v r
