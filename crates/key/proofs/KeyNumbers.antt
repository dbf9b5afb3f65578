-- The number of a key from a value's bits, and the bits from the number: each form once, over the weight of its sign bit.
use mathlib.Core.Path.{◌≡◌, refl, sym, ◌∙◌, ap, subst}
use mathlib.Core.Bool.{Bool, true, false}
use Rattle.std.specs.Prelude.{None, Some}
use Prim.Native.Nat.{ℕ, ◌+◌, ◌-◌, ◌*◌, ◌%◌, ◌^◌, ◌≤◌, ◌<◌}
use native.Mathlib.Nat.{mod-eq_of_lt, mod-eq-sub-mod, pow-suc}
use native.Mathlib.Omega.{arith}
use lib.IntN.{ℤ, pos, negsuc}
use lib.Pow.{pow_mono}
use Rattle.float.specs.Format.{fraction_of, exponent_of, abs_of}
use Rattle.float.specs.Number.{is_none}
use Rattle.float.specs.Order.{pattern_in}
use Rattle.float.proofs.Language.{times_none, none_pattern}
use Rattle.value.specs.declared.Kind.{Kind}
use Rattle.value.specs.declared.Value.{Value}
use Rattle.value.specs.Kinds.{Form, unsigned, signed, floating, form_of, width_in, kind_of, bytes_of}
use Rattle.value.specs.Meaning.{Content, natural, integer, real, content_of, InRange, FitsSigned, twos_of, bits_of, step_of, exact_in, exact_of}
use Rattle.value.specs.Meaning as value
use Rattle.key.specs.declared.Weights.{Weights}
use Rattle.key.specs.Key.{shifted, key_in, key_number, bits_from, not_canonical}
use Rattle.key.specs.Inner.{weights_for, InWeights, number_by_weights, bits_by_weights, nan_by_weights, foreign_by_weights, value_by_number}
use Rattle.value.proofs.Widths.{Sized, kind_sized}
use Rattle.value.proofs.Ranges.{form_in, content_form, Ranged, content_ranged, twice_half, bits_range}

-- ---- the sign bit turned

module _ (half n : ℕ) where
  pub turned_low : n < half → n + half ≡ (n + half) % (2 * half)
  turned_low h = let l : n + half < 2 * half = omega arith in sym (mod-eq_of_lt l)

  pub turned_high : half ≤ n → n < 2 * half → n - half ≡ (n + half) % (2 * half)
  turned_high h l =
      let g : 2 * half ≤ n + half = omega arith in
      let r : n + half - 2 * half ≡ n - half = omega arith in
      let s : n + half - 2 * half < 2 * half = omega arith in
      sym (mod-eq-sub-mod g ∙ mod-eq_of_lt s ∙ r)

-- ---- the forms

half_room : (i : ℕ) → i ≤ 63 → 2 ^ i ≤ 2 ^ 63
half_room i h = pow_mono {i = i} {j = 63} h

pub form_room : (form : Form) (n : ℕ) → Sized form → n < 2 ^ width_in form → InWeights (weights_for form) n
form_room (unsigned k) n s h = tt
form_room (signed k) n s h = (half_room (k - 1) (omega arith), rw (twice_half k (omega (arith, s.0))) h)
form_room (floating f) n s h = (half_room (fraction_of f + exponent_of f) (omega arith), omega (arith, pow-suc 2 (fraction_of f + exponent_of f)))

-- the sign bit of z's pattern turned is z + half
turned_shifted : (half : ℕ) (z : ℤ) → FitsSigned half z → (twos_of (2 * half - 1) z + half) % (2 * half) ≡ shifted half z
turned_shifted half (pos n) h = sym (turned_low half n h) ∙ omega arith
turned_shifted half (negsuc n) h = sym (turned_high half (2 * half - 1 - n) (omega arith) (omega arith)) ∙ omega arith

content_number : (x : Content) → Sized (form_in x) → Ranged x → number_by_weights (weights_for (form_in x)) (value.bits_in x) ≡ key_in x
content_number (natural k n) s r = refl
content_number (integer k z) s r = rw (← twice_half k (omega (arith, s.0))) (turned_shifted (2 ^ (k - 1)) z r)
content_number (real f b) s r = refl

pub form_bits : (form : Form) (n : ℕ) → Sized form → bits_by_weights (weights_for form) n ≡ bits_from form n
form_bits (unsigned k) n s = refl
form_bits (signed k) n s = ap (λ (m : ℕ). (n + 2 ^ (k - 1)) % m) (twice_half k (omega (arith, s.0)))
form_bits (floating f) n s = refl

pub form_foreign : (form : Form) (n : ℕ) → foreign_by_weights (weights_for form) (bits_by_weights (weights_for form) n) ≡ not_canonical form n
unfolding abs_of
form_foreign (unsigned k) n = refl
form_foreign (signed k) n = refl
form_foreign (floating f) n = refl

-- ---- no number

content_none : (x : Content) → nan_by_weights (weights_for (form_in x)) (value.bits_in x) ≡ is_none (exact_in x)
unfolding abs_of
content_none (natural k n) = refl
content_none (integer k (pos n)) = refl
content_none (integer k (negsuc n)) = refl
content_none (real f b) = sym (times_none (step_of f) (pattern_in f b) ∙ none_pattern (fraction_of f) (exponent_of f) b)

-- ---- a value, by its kind and its bits

module _ (v : Value) {k : Kind} {b : ℕ} {l : Weights} (k_is : k ≡ kind_of v) (b-is : b ≡ bits_of v) (l-is : l ≡ weights_for (form_of k)) where
  own_weights : l ≡ weights_for (form_in (content_of v))
  own_weights = l-is ∙ ap (λ (j : Kind). weights_for (form_of j)) k_is ∙ sym (ap weights_for (content_form v))

  pub value_none : nan_by_weights l b ≡ is_none (exact_of v)
  value_none = rw (own_weights, b-is) (content_none (content_of v))

  module _ (r : InRange v) where
    own_sized : Sized (form_in (content_of v))
    own_sized = subst Sized (sym (content_form v)) (kind_sized (kind_of v))

    pub value_room : InWeights l b
    value_room = rw (own_weights, b-is) (form_room (form_in (content_of v)) (bits_of v) own_sized (bits_range (content_of v) own_sized (content_ranged v r)))

    pub value_number : number_by_weights l b ≡ key_number v
    value_number = rw (own_weights, b-is) (content_number (content_of v) own_sized (content_ranged v r))

-- ---- a number of as many bytes as the kind has

pub number_room : (k : Kind) {n : ℕ} {l : Weights} → l ≡ weights_for (form_of k) → n < 256 ^ bytes_of k → InWeights l n
number_room k {n} q h = rw q (form_room (form_of k) n (kind_sized k) (rw (kind_sized k).2 at h))

module _ (k : Kind) {l : Weights} (l-is : l ≡ weights_for (form_of k)) {m n b : ℕ} (m-is : m ≡ n) (b-is : b ≡ bits_by_weights l m)
    {t : Bool} (t-is : t ≡ foreign_by_weights l b) where
  own_bits : b ≡ bits_from (form_of k) n
  own_bits = b-is ∙ ap (λ (i : Weights). bits_by_weights i m) l-is ∙ form_bits (form_of k) m (kind_sized k) ∙ ap (bits_from (form_of k)) m-is

  own_test : t ≡ not_canonical (form_of k) n
  own_test =
      t-is ∙ ap (foreign_by_weights l) b-is ∙ ap (λ (i : Weights). foreign_by_weights i (bits_by_weights i m)) l-is
      ∙ form_foreign (form_of k) m ∙ ap (not_canonical (form_of k)) m-is

  pub no_value : t ≡ true → None ≡ value_by_number k n
  no_value f = rw (← own_test, f)

  pub some_value : t ≡ false → {v : Value} → v ≡ value.value_of k b → Some v ≡ value_by_number k n
  some_value f q = rw (← own_test, f, q, own_bits)
