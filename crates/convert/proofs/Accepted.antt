-- The six rules all pass exactly when some value of the form has the number, and not for minus zero to an integer form; what is made then stands
-- for the same, the sign of a zero too: by the three forms.
use mathlib.Core.Path.{◌≡◌, refl, sym, ◌∙◌, ap, subst}
use mathlib.Core.Logic.{◌⊎◌, inl, inr}
use mathlib.Core.Bool.{Bool, true, false, not, ◌&&◌, true≢false, and-true, and-false}
use Prim.Native.Nat.{ℕ, zero, suc, ◌-◌, ◌*◌, ◌/◌, ◌%◌, ◌^◌, ◌≤◌, ◌<◌}
use native.Mathlib.Nat.{mul-div_cancel, mul-mod_left, mul-le-mul_right, div-add-mod', zero-mul, zero-div}
use native.Mathlib.Omega.{arith}
use borrow.Author.Tests.{eq-eqb, eqb-true, ltb-false, le-ltb, not-false}
use lib.Dec.{eqb}
use lib.IntN.{ℤ, pos, negsuc, neg_ℤ, nat_abs}
use lib.Signed.{mag}
use lib.Pow.{pow_pos}
use Rattle.float.specs.Format.{Format, fraction_of, exponent_of, abs_in, inf_in, mag_in, negative_in, sign_in}
use Rattle.float.specs.ClassMeaning.{largest_in}
use Rattle.float.specs.Number.{Exact, not_number, infinite, finite, is_none, times, none, number, infinity_of, number_of, signed_of}
use Rattle.float.specs.Order.{pattern_in}
use Rattle.float.proofs.Naturals.{three_ways}
use Rattle.float.proofs.Magnitude.{abs_signed, mag_grows, mag_largest}
use Rattle.float.proofs.Comparing.{pattern_nan, pattern_infinite, pattern_finite}
use Rattle.float.proofs.Formats.{two_or_more, inf_range}
use Rattle.float.proofs.Tests.{clash}
use Rattle.value.specs.Kinds.{Form, unsigned, signed, floating, is_integer}
use Rattle.value.specs.Meaning.{whole_of, unit, step_of}
use Rattle.value.specs.Outcome.{gives}
use Rattle.value.specs.Rules.{chain}
use Rattle.value.proofs.Units.{unit_pos}
use Rattle.value.proofs.Outcomes.{refuse_passes}
use Rattle.convert.specs.Convert.{into_rules, is_infinite, is_minus_zero, has_fraction, outside, out_of_range, not_held, held_in, pattern_for, sign_for}
use Rattle.convert.specs.Convert.{magnitude_for, abs_for, integer_for}
use Rattle.convert.proofs.Encode.{held_of}
use Rattle.convert.proofs.MinusZero.{minus_magnitude}
use Rattle.convert.proofs.Patterns.{made_small, encode_below, finite_made, infinite_made}

-- none of the six rules holds
pub record Accepted (form : Form) (x : Exact) : Type 0 where
  pub some_number : is_none x ≡ false
  pub no_infinity : (is_infinite x && is_integer form) ≡ false
  pub no_minus_zero : (is_minus_zero x && is_integer form) ≡ false
  pub no_fraction : (has_fraction x && is_integer form) ≡ false
  pub in_range : out_of_range form x ≡ false
  pub held : not_held form x ≡ false

pub rules_accept : {A : Type 0} (form : Form) (x : Exact) (result a : A) → chain (into_rules form x) (gives result) ≡ gives a → Accepted form x × (result ≡ a)
rules_accept form x result r h =
    let a = refuse_passes _ _ _ _ r h in
    let b = refuse_passes _ _ _ _ r a.1 in
    let c = refuse_passes _ _ _ _ r b.1 in
    let d = refuse_passes _ _ _ _ r c.1 in
    let e = refuse_passes _ _ _ _ r d.1 in
    let f = refuse_passes _ _ _ _ r e.1 in
    (record { some_number = a.0; no_infinity = b.0; no_minus_zero = c.0; no_fraction = d.0; in_range = e.0; held = f.0 }, cc)

pub rules_give : {A : Type 0} (form : Form) (x : Exact) (result : A) → Accepted form x → chain (into_rules form x) (gives result) ≡ gives result
rules_give form x result a = simp (a.some_number, a.no_infinity, a.no_minus_zero, a.no_fraction, a.in_range, a.held)

-- what the made value means
abbrev pub exact_for : Form → Exact → Exact
exact_for (unsigned k) x = times unit (whole_of (pos (magnitude_for x)))
exact_for (signed k) x = times unit (whole_of (integer_for x))
exact_for (floating f) x = times (step_of f) (pattern_in f (pattern_for f x))

-- ---- signs and magnitudes

abbrev is_negative : ℤ → Bool
is_negative (pos n) = false
is_negative (negsuc n) = true

signed_mag : (s : Bool) (m : ℕ) (z : ℤ) → number z ≡ number_of (finite s m) → nat_abs z ≡ m
signed_mag s m z h = let q : z ≡ signed_of s m = cc in ap nat_abs q ∙ abs_signed s m

-- minus m is not negative only for 0
negated : (m n : ℕ) → pos n ≡ neg_ℤ (pos m) → m ≡ 0
negated zero n h = refl
negated (suc m) n h = cc

-- without a fraction, the whole part has the magnitude
whole_part : (m : ℕ) → (not (eqb (m % unit) 0) && true) ≡ false → m / unit * unit ≡ m
whole_part m h = let z : m % unit ≡ 0 = eqb-true _ _ (not-false _ (sym (and-true _) ∙ h)) in omega (arith, div-add-mod' m unit)

-- ---- accepted: the made value stands for the same

made_unsigned : (k : ℕ) (s : Bool) (m : ℕ) → m / unit * unit ≡ m → is_minus_zero (finite s m) ≡ false → out_of_range (unsigned k) (finite s m) ≡ false
    → finite false (m / unit * unit) ≡ finite s m
made_unsigned k false m w z h = ap (finite false) w
made_unsigned k true m w z h =
    let l : m / unit ≤ 0 = ltb-false _ _ h in
    let q : m / unit ≡ 0 = omega arith in
    absurd (omega (arith, minus_magnitude m z, sym w ∙ ap (λ (n : ℕ). n * unit) q ∙ zero-mul unit))

made_signed : (s : Bool) (n m : ℕ) → n * unit ≡ m → is_minus_zero (finite s m) ≡ false → times unit (whole_of (signed_of s n)) ≡ finite s m
made_signed false n m w z = ap (finite false) w
made_signed true zero m w z = absurd (omega (arith, minus_magnitude m z, zero-mul unit))
made_signed true (suc n) m w z = ap (finite true) w

pub made_float : (f : Format) (x : Exact) → Accepted (floating f) x → exact_for (floating f) x ≡ x
made_float f not_number a = absurd (true≢false a.some_number)
made_float f (infinite s) a = infinite_made f s
made_float f (finite s m) a = finite_made f s m (ltb-false _ _ a.in_range) (not-false _ a.held)

pub made_same : (form : Form) (x : Exact) → Accepted form x → exact_for form x ≡ x
made_same (floating f) x a = made_float f x a
made_same (unsigned k) not_number a = absurd (true≢false a.some_number)
made_same (unsigned k) (infinite s) a = absurd (true≢false a.no_infinity)
made_same (unsigned k) (finite s m) a = made_unsigned k s m (whole_part m a.no_fraction) (sym (and-true _) ∙ a.no_minus_zero) a.in_range
made_same (signed k) not_number a = absurd (true≢false a.some_number)
made_same (signed k) (infinite s) a = absurd (true≢false a.no_infinity)
made_same (signed k) (finite s m) a = made_signed s (m / unit) m (whole_part m a.no_fraction) (sym (and-true _) ∙ a.no_minus_zero)

-- the whole part fits the kind
pub unsigned_fits : (k : ℕ) (x : Exact) → Accepted (unsigned k) x → magnitude_for x < 2 ^ k
unsigned_fits k not_number a = absurd (true≢false a.some_number)
unsigned_fits k (infinite s) a = absurd (true≢false a.no_infinity)
unsigned_fits k (finite true m) a = let l : m / unit ≤ 0 = ltb-false _ _ a.in_range in omega (arith, pow_pos k)
unsigned_fits k (finite false m) a = let l : m / unit ≤ 2 ^ k - 1 = ltb-false _ _ a.in_range in omega (arith, pow_pos k)

minus_fits : (half n : ℕ) → 0 < half → n ≤ half → mag (signed_of true n) < half
minus_fits half zero z h = z
minus_fits half (suc n) z h = h

pub signed_fits : (k : ℕ) (x : Exact) → Accepted (signed k) x → mag (integer_for x) < 2 ^ (k - 1)
signed_fits k not_number a = absurd (true≢false a.some_number)
signed_fits k (infinite s) a = absurd (true≢false a.no_infinity)
signed_fits k (finite true m) a = minus_fits (2 ^ (k - 1)) (m / unit) (pow_pos (k - 1)) (ltb-false _ _ a.in_range)
signed_fits k (finite false m) a = let l : m / unit ≤ 2 ^ (k - 1) - 1 = ltb-false _ _ a.in_range in omega (arith, pow_pos (k - 1))

-- the abs lies below the sign bit, so the pattern has the format's bits
pub abs_small : (f : Format) (x : Exact) → Accepted (floating f) x → abs_for f x < sign_in f
abs_small f not_number a = absurd (true≢false a.some_number)
abs_small f (infinite s) a = (inf_range f).1
abs_small f (finite s m) a = omega (arith, (inf_range f).1, encode_below f m (ltb-false _ _ a.in_range) (not-false _ a.held))

pub pattern_small : (f : Format) (x : Exact) → Accepted (floating f) x → pattern_for f x < 2 * sign_in f
pattern_small f x a = made_small f (sign_for x) (abs_for f x) (abs_small f x a)

-- ---- some value has the number: accepted

module _ (form : Form) (s : Bool) (m : ℕ) where
  -- for an integer form there is no fraction when the magnitude is a whole number of units
  no_fraction_in : (n : ℕ) → m ≡ n * unit → (has_fraction (finite s m) && is_integer form) ≡ false
  no_fraction_in n q = ap (λ (t : Bool). not t && is_integer form) (eq-eqb _ _ (ap (λ (x : ℕ). x % unit) q ∙ mul-mod_left n unit))

whole_units : (m n : ℕ) → m ≡ n * unit → m / unit ≡ n
whole_units m n q = ap (λ (x : ℕ). x / unit) q ∙ mul-div_cancel n unit_pos

inside_unsigned : (k : ℕ) (s : Bool) (m n : ℕ) → n < 2 ^ k → number (pos (n * unit)) ≡ number_of (finite s m) → m ≡ n * unit
    → out_of_range (unsigned k) (finite s m) ≡ false
inside_unsigned k false m n l h q = let w = whole_units m n q in le-ltb (2 ^ k - 1) (m / unit) (omega arith)
inside_unsigned k true m n l h q =
    let z : m ≡ 0 = negated m (n * unit) cc in
    let w : m / unit ≡ 0 = ap (λ (x : ℕ). x / unit) z ∙ zero-div unit in
    le-ltb 0 (m / unit) (omega arith)

-- a number is neither none nor an infinity
only_finite : {A : Type 0} (z : ℤ) (t : Bool) → (number z ≡ none) ⊎ (number z ≡ infinity_of t) → A
only_finite z t (inl h) = clash cc
only_finite z true (inr h) = clash cc
only_finite z false (inr h) = clash cc

pub accepts_unsigned : (k n : ℕ) (x : Exact) → is_minus_zero x ≡ false → n < 2 ^ k → number_of (times unit (whole_of (pos n))) ≡ number_of x
    → Accepted (unsigned k) x
accepts_unsigned k n not_number z l h = only_finite _ true (inl h)
accepts_unsigned k n (infinite t) z l h = only_finite _ t (inr h)
accepts_unsigned k n (finite s m) z l h =
    let q : m ≡ n * unit = sym (signed_mag s m (pos (n * unit)) h) in
    record {
      some_number = refl;
      no_infinity = refl;
      no_minus_zero = and-true _ ∙ z;
      no_fraction = no_fraction_in (unsigned k) s m n q;
      in_range = inside_unsigned k s m n l h q;
      held = refl;
    }

-- an integer as a sign and a magnitude
whole_signed : (z : ℤ) (u : ℕ) → number_of (times u (whole_of z)) ≡ number (signed_of (is_negative z) (nat_abs z * u))
whole_signed (pos n) u = refl
whole_signed (negsuc n) u = refl

inside_signed : (half : ℕ) (z : ℤ) (s : Bool) (m : ℕ) → mag z < half
    → number (signed_of (is_negative z) (nat_abs z * unit)) ≡ number_of (finite s m) → m ≡ nat_abs z * unit
    → outside half (half - 1) s (m / unit) ≡ false
inside_signed half (pos n) false m l h q = let w = whole_units m n q in le-ltb (half - 1) (m / unit) (omega arith)
inside_signed half (pos n) true m l h q = let w = whole_units m n q in le-ltb half (m / unit) (omega arith)
inside_signed half (negsuc n) true m l h q = let w = whole_units m (suc n) q in le-ltb half (m / unit) (omega arith)
inside_signed half (negsuc n) false m l h q =
    let z : suc n * unit ≡ 0 = negated (suc n * unit) m cc in
    let b : 1 * unit ≤ suc n * unit = mul-le-mul_right unit (omega arith) in
    absurd (omega (arith, unit_pos))

pub accepts_signed : (k : ℕ) (z : ℤ) (x : Exact) → is_minus_zero x ≡ false → mag z < 2 ^ (k - 1) → number_of (times unit (whole_of z)) ≡ number_of x
    → Accepted (signed k) x
accepts_signed k z not_number o l h = only_finite _ true (inl (sym (whole_signed z unit) ∙ h))
accepts_signed k z (infinite t) o l h = only_finite _ t (inr (sym (whole_signed z unit) ∙ h))
accepts_signed k z (finite s m) o l h =
    let g = sym (whole_signed z unit) ∙ h in
    let q : m ≡ nat_abs z * unit = sym (signed_mag s m (signed_of (is_negative z) (nat_abs z * unit)) g) ∙ abs_signed (is_negative z) (nat_abs z * unit) in
    record {
      some_number = refl;
      no_infinity = refl;
      no_minus_zero = and-true _ ∙ o;
      no_fraction = no_fraction_in (signed k) s m (nat_abs z) q;
      in_range =
          inside_signed (2 ^ (k - 1)) z s m l g q;
      held = refl;
    }

-- the magnitude is that of the abs of a finite pattern
finite_magnitude : (f : Format) (c : ℕ) (s : Bool) (m : ℕ) → number_of (times (step_of f) (pattern_in f c)) ≡ number_of (finite s m)
    → (abs_in f c < inf_in f)
    × (m ≡ mag_in f (abs_in f c) * step_of f)
finite_magnitude f c s m h = elim (three_ways (abs_in f c) (inf_in f)) [
  | inl l ↦
      let n = mag_in f (abs_in f c) * step_of f in
      let t = negative_in f c in
      let g : number (signed_of t n) ≡ number_of (finite s m) =
      ap (λ (x : Exact). number_of (times (step_of f) x)) (sym (pattern_finite (fraction_of f) (exponent_of f) c l)) ∙ h in
      (l, sym (signed_mag s m (signed_of t n) g) ∙ abs_signed t n)
  | inr (inl e) ↦ only_finite (signed_of s m) (negative_in f c)
      (inr (sym h ∙ ap (λ (x : Exact). number_of (times (step_of f) x)) (pattern_infinite (fraction_of f) (exponent_of f) c e)))
  | inr (inr g) ↦ only_finite (signed_of s m) true
      (inl (sym h ∙ ap (λ (x : Exact). number_of (times (step_of f) x)) (pattern_nan (fraction_of f) (exponent_of f) c g)))
]

-- a float format has both infinities
pub infinity_accepted : (f : Format) (s : Bool) → Accepted (floating f) (infinite s)
infinity_accepted f s = record { some_number = refl; no_infinity = refl; no_minus_zero = refl; no_fraction = refl; in_range = refl; held = refl }

pub accepts_float : (f : Format) (c : ℕ) (x : Exact) → is_none x ≡ false
    → number_of (times (step_of f) (pattern_in f c)) ≡ number_of x → Accepted (floating f) x
accepts_float f c not_number t h = absurd (true≢false t)
accepts_float f c (infinite s) t h = infinity_accepted f s
accepts_float f c (finite s m) t h =
    let x = abs_in f c in
    let g = finite_magnitude f c s m h in
    let top : mag_in f x ≤ largest_in f =
    subst (λ (n : ℕ). mag_in f x ≤ n) (mag_largest (fraction_of f) (exponent_of f) (two_or_more f))
    (mag_grows (fraction_of f) x (inf_in f - 1) (omega (arith, g.0))) in
    let b : m ≤ largest_in f * step_of f =
    subst (λ (n : ℕ). n ≤ largest_in f * step_of f) (sym g.1) (mul-le-mul_right (step_of f) top) in
    record {
      some_number = refl;
      no_infinity = refl;
      no_minus_zero = and-false (is_minus_zero (finite s m));
      no_fraction = and-false (has_fraction (finite s m));
      in_range = le-ltb (largest_in f * step_of f) m b;
      held = ap not (ap (held_in f) g.1 ∙ held_of f x);
    }
