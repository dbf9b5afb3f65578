-- Every number of a kind is one that the kind's ends let in, so what is past them lies beyond all of these. What is not past them isn't beyond:
-- a float kind reaches its largest magnitude with both signs, and of an integer kind the number itself is one.
use mathlib.Core.Path.{◌≡◌, refl, sym, ◌∙◌, ap, subst}
use mathlib.Core.Logic.{◌⊎◌, inl, inr}
use mathlib.Core.Bool.{Bool, true, false, cond}
use Prim.Native.Nat.{ℕ, zero, suc, ◌+◌, ◌-◌, ◌*◌, ◌/◌, ◌^◌, ◌≤◌, ◌<◌}
use native.Mathlib.Nat.{lt_of_le_of_lt, div-lt_iff_lt-mul, div-add-mod', zero-div, eq-or-lt_of_le, le_of_eq, pow-suc}
use native.Mathlib.Omega.{arith}
use borrow.Author.Tests.{ltb-true, ltb-false}
use lib.Dec.{eqb}
use lib.IntN.{ℤ, pos, negsuc}
use Rattle.float.specs.declared.Order.{Order}
use Rattle.float.specs.declared.Order.TheVariants.{Less, Equal, Greater}
use Rattle.float.specs.Format.{Format, fraction_of, exponent_of, inf_in, sign_in}
use Rattle.float.specs.ClassMeaning.{largest_in}
use Rattle.float.specs.Number.{Exact, finite, is_none, times, number, number_of, signed_of}
use Rattle.float.specs.Order.{order_z, pattern_in}
use Rattle.float.proofs.Comparing.{by_sign, by_sign_lem}
use Rattle.float.proofs.Naturals.{order_less, order_greater, order_equal}
use Rattle.float.proofs.SameNumber.{integer_equal}
use Rattle.float.proofs.Magnitude.{mag_largest}
use Rattle.float.proofs.Formats.{two_or_more, inf_range}
use Rattle.float.proofs.Tests.{clash}
use Rattle.value.specs.declared.Kind.{Kind}
use Rattle.value.specs.declared.Value.{Value}
use Rattle.value.specs.Kinds.{Form, unsigned, signed, floating, form_of, width_in}
use Rattle.value.specs.Meaning as value
use Rattle.value.specs.Meaning.{Content, natural, integer, real, content_of, bits_in, unit, step_of, exact_in, value_of}
use Rattle.value.proofs.Units.{unit_pos}
use Rattle.value.proofs.TwosComplement.{fits_below}
use Rattle.value.proofs.MadeValues.{value_bits, value_kind}
use Rattle.value.proofs.Ranges.{form_in, content_form, Ranged, content_ranged, made_in_range}
use Rattle.convert.specs.Convert.{is_minus_zero, outside, out_of_form, out_of_range, encode_of, held_in, with_sign}
use Rattle.convert.proofs.Accepted.{Accepted, accepts_unsigned, accepts_signed, accepts_float}
use Rattle.convert.proofs.Encode.{held_of}
use Rattle.convert.proofs.MinusZero.{some_magnitude}
use Rattle.convert.proofs.Patterns.{made_small, encode_below, finite_made}
use Rattle.convert.proofs.Wholes.{limit_is}
use Rattle.demands.specs.Conversion.{HasPattern}
use Rattle.demands.specs.WhichRefusal.{EachIs, Beyond}

-- ---- past the ends

-- the largest magnitude of a format, in units
abbrev largest_units : Format → ℕ
largest_units f = largest_in f * step_of f

-- a larger magnitude of the same sign, or any but 0 of the other
past : (s t : Bool) (m n : ℕ) → 0 < m → (s ≡ t → n < m) → order_z (signed_of t n) (signed_of s m) ≡ cond s Greater Less
past false false m n p l = order_less n m (l refl)
past false true m zero p l = order_less 0 m p
past false true m (suc n) p l = refl
past true t zero n p l = absurd (omega arith)
past true false (suc m) n p l = refl
past true true (suc m) zero p l = refl
past true true (suc m) (suc n) p l = let g = l refl in order_greater m n (omega arith)

quotient_less : (m n : ℕ) → n / unit < m / unit → n < m
quotient_less m n h =
    let l : n < m / unit * unit = (div-lt_iff_lt-mul {k = unit} {x = n} {y = m / unit} unit_pos).0 h in
    omega (arith, div-add-mod' m unit)

pub quotient_pos : (m : ℕ) → 0 < m / unit → 0 < m
quotient_pos m h = quotient_less m 0 (subst (λ (n : ℕ). n < m / unit) (sym (zero-div unit)) h)

past_outside : (low high : ℕ) (s t : Bool) (m n : ℕ) → outside low high t (n / unit) ≡ false → outside low high s (m / unit) ≡ true
    → order_z (signed_of t n) (signed_of s m) ≡ cond s Greater Less
past_outside low high s t m n h k =
    let l : n / unit ≤ cond t low high = ltb-false _ _ (sym (limit_is low high t (n / unit)) ∙ h) in
    let g : cond s low high < m / unit = ltb-true _ _ (sym (limit_is low high s (m / unit)) ∙ k) in
    past s t m n (quotient_pos m (omega arith))
    (λ q. quotient_less m n (lt_of_le_of_lt l (subst (λ (b : Bool). cond b low high < m / unit) q g)))

-- one is let in, the other is not
past_ends : (form : Form) (s t : Bool) (m n : ℕ) → out_of_form form t n ≡ false → out_of_form form s m ≡ true
    → order_z (signed_of t n) (signed_of s m) ≡ cond s Greater Less
past_ends (unsigned k) s t m n h g = past_outside 0 (2 ^ k - 1) s t m n h g
past_ends (signed k) s t m n h g = past_outside (2 ^ (k - 1)) (2 ^ (k - 1) - 1) s t m n h g
past_ends (floating f) s t m n h g =
    let l : n ≤ largest_units f = ltb-false _ _ h in
    let k : largest_units f < m = ltb-true _ _ g in
    past s t m n (omega arith) (λ q. omega arith)

-- ---- every number of a kind is let in

content_in : (c : Content) (x : Exact) → Ranged c → is_none x ≡ false → is_minus_zero x ≡ false → number_of (exact_in c) ≡ number_of x → Accepted (form_in c) x
content_in (natural k n) x r t z h = accepts_unsigned k n x z r h
content_in (integer k i) x r t z h = accepts_signed k i x z (fits_below (2 ^ (k - 1)) i r) h
content_in (real f b) x r t z h = accepts_float f _ x t h

made_form : (to : Kind) (b : ℕ) → form_in (content_of (value_of to b)) ≡ form_of to
made_form to b = content_form (value_of to b) ∙ ap form_of (value_kind to b)

made_in : (to : Kind) (b : ℕ) (x : Exact) → is_none x ≡ false → is_minus_zero x ≡ false → value.number_of (value_of to b) ≡ number_of x
    → out_of_range (form_of to) x ≡ false
made_in to b x t z h =
    let accepted = content_in (content_of (value_of to b)) x (content_ranged (value_of to b) (made_in_range to b)) t z h in
    subst (λ (form : Form). out_of_range form x ≡ false) (made_form to b) accepted.in_range

each_past : (to : Kind) (s : Bool) (m : ℕ) → out_of_form (form_of to) s m ≡ true → EachIs (cond s Greater Less) to (number (signed_of s m))
each_past to s m g b (pos n) h = past_ends (form_of to) s false m n (made_in to b (finite false n) refl refl h) g
each_past to s m g b (negsuc n) h =
    past_ends (form_of to) s true m (suc n) (made_in to b (finite true (suc n)) refl (some_magnitude true (suc n) (omega arith)) h) g

pub past_beyond : (to : Kind) (s : Bool) (m : ℕ) → out_of_form (form_of to) s m ≡ true → Beyond (number (signed_of s m)) to
past_beyond to false m g = inl (each_past to false m g)
past_beyond to true m g = inr (each_past to true m g)

-- ---- a number that the kind has is not beyond

pub held_not_beyond : (v : Value) (to : Kind) (z : ℤ) → value.number_of v ≡ number z → HasPattern v to → Beyond (value.number_of v) to → ⊥
held_not_beyond v to z q h (inl each) = clash (cc (each h.0 z (h.1 ∙ q), q, integer_equal z))
held_not_beyond v to z q h (inr each) = clash (cc (each h.0 z (h.1 ∙ q), q, integer_equal z))

-- ---- a float kind reaches its largest magnitude with both signs

equal_or : {o p : Order} (i j : Bool) → cond i (cond j Equal o) o ≡ p → (Equal ≡ p) ⊎ (o ≡ p)
equal_or true true h = inl h
equal_or true false h = inr h
equal_or false j h = inr h

-- the end n of the sign t is not passed by a magnitude that is no larger
not_past : (s t : Bool) (m n : ℕ) → m ≤ n → by_sign t n s m ≡ cond t Greater Less → ⊥
not_past false false m n l h = elim (eq-or-lt_of_le l) [
  | inl q ↦ clash (cc (order_equal n m (sym q), h))
  | inr k ↦ clash (cc (order_greater n m k, h))
]
not_past true true m n l h = elim (eq-or-lt_of_le l) [
  | inl q ↦ clash (cc (order_equal m n q, h))
  | inr k ↦ clash (cc (order_less m n k, h))
]
not_past true false m n l h = elim (equal_or (eqb n 0) (eqb m 0) h) [ inl e ↦ clash cc | inr e ↦ clash cc ]
not_past false true m n l h = elim (equal_or (eqb n 0) (eqb m 0) h) [ inl e ↦ clash cc | inr e ↦ clash cc ]

content_pattern : (c : Content) (f : Format) → form_in c ≡ floating f → exact_in c ≡ times (step_of f) (pattern_in f (bits_in c))
content_pattern (natural k n) f q = clash cc
content_pattern (integer k z) f q = clash cc
content_pattern (real g b) f q =
    let e : g ≡ f = cc in
    ap (λ (h : Format). times (step_of h) (pattern_in h b)) e

largest_held : (f : Format) → held_in f (largest_units f) ≡ true
largest_held f = subst (λ (n : ℕ). held_in f (n * step_of f) ≡ true) (mag_largest (fraction_of f) (exponent_of f) (two_or_more f)) (held_of f (inf_in f - 1))

module _ (to : Kind) (f : Format) (q : form_of to ≡ floating f) where
  largest_reached : (s : Bool) → (b : ℕ) × (value.number_of (value_of to b) ≡ number (signed_of s (largest_units f)))
  largest_reached s =
      let x = encode_of f (largest_units f) in
      let b = with_sign f s x in
      let finite-abs = encode_below f (largest_units f) (le_of_eq refl) (largest_held f) in
      let low : x < sign_in f = omega (arith, (inf_range f).1, finite-abs) in
      let fits : b < 2 ^ width_in (floating f) = omega (arith, made_small f s x low, pow-suc 2 (fraction_of f + exponent_of f)) in
      let bits = value_bits to b (subst (λ (form : Form). b < 2 ^ width_in form) (sym q) fits) in
      let exact = content_pattern (content_of (value_of to b)) f (made_form to b ∙ q)
      ∙ ap (λ (n : ℕ). times (step_of f) (pattern_in f n)) bits
      ∙ finite_made f s (largest_units f) (le_of_eq refl) (largest_held f) in
      (b, ap number_of exact)

  not_each : (s t : Bool) (m : ℕ) → m ≤ largest_units f → EachIs (cond t Greater Less) to (number (signed_of s m)) → ⊥
  not_each s t m l each =
      let r = largest_reached t in
      not_past s t m (largest_units f) l (sym (by_sign_lem t (largest_units f) s m) ∙ each r.0 (signed_of t (largest_units f)) r.1)

  pub inside_not_beyond : (s : Bool) (m : ℕ) → out_of_form (floating f) s m ≡ false → Beyond (number (signed_of s m)) to → ⊥
  inside_not_beyond s m h (inl each) = not_each s false m (ltb-false _ _ h) each
  inside_not_beyond s m h (inr each) = not_each s true m (ltb-false _ _ h) each
