-- Conversions that always succeed: where the target has room for every number of the source, only a NaN is refused.
use mathlib.Core.Path.{◌≡◌, refl, sym, ◌∙◌, ap, subst}
use mathlib.Core.Logic.{inl, inr}
use mathlib.Core.Bool.{Bool, true, false, not, and-false, true≢false}
use Prim.Native.Nat.{ℕ, zero, suc, ◌+◌, ◌-◌, ◌*◌, ◌/◌, ◌%◌, ◌^◌, ◌≤◌, ◌<◌}
use native.Mathlib.Nat.{add_comm, lt_of_lt_of_le, mul_assoc, mul-lt-mul_of_pos_right, mod-lt, div-lt_iff_lt-mul, pow-suc}
use native.Mathlib.Omega.{arith}
use borrow.Author.Tests.{leb-true, le-leb, le-ltb}
use lib.IntN.{ℤ, pos, negsuc, nat_abs}
use lib.Ieee.{size}
use lib.Ieee.Digits.{size-le}
use lib.Pow.{pow_pos, pow-add, pow_mono, high_ones}
use lib.Signed.{mag}
use Rattle.float.specs.Format.{Format, f16, f32, f64, fraction_of, exponent_of, inf_of, negative_of, abs_of, mag_at, mag_of}
use Rattle.float.specs.Number.{Exact, finite, is_none, times, none}
use Rattle.float.specs.Order.{pattern_of, pattern_in}
use Rattle.float.proofs.Naturals.{three_ways}
use Rattle.float.proofs.Comparing.{pattern_nan, pattern_infinite, pattern_finite}
use Rattle.value.specs.declared.Kind.{Kind}
use Rattle.value.specs.declared.Value.{Value}
use Rattle.value.specs.Kinds.{Form, unsigned, signed, floating, form_of, kind_of, kind_number}
use Rattle.value.specs.Meaning.{Content, natural, integer, real, content_of, InRange, whole_of, unit, step_of, exact_in, exact_of, number_of}
use Rattle.value.specs.Outcome.{gives}
use Rattle.value.proofs.TwosComplement.{fits_below}
use Rattle.value.proofs.Ranges.{form_in, content_form, Ranged, content_ranged}
use Rattle.convert.specs.Convert.{is_minus_zero, has_fraction, held_in, encode_of, made_in, convert_of}
use Rattle.convert.specs.Widening.{widens}
use Rattle.convert.proofs.Binary.{over_up}
use Rattle.convert.proofs.Holds.{held_when, exact_within}
use Rattle.convert.proofs.MinusZero.{integer_signless}
use Rattle.convert.proofs.Accepted.{Accepted, infinity_accepted, accepts_unsigned, accepts_signed}
use Rattle.convert.proofs.Exactly.{none_is, into_gives, other_kind}

-- ---- a number of few digits, in a float format

abbrev step_bits : Format → ℕ
step_bits f16 = 1050
step_bits f32 = 925
step_bits f64 = 0

-- the place of the leading digit of the largest number
abbrev top_place : Format → ℕ
top_place f = fraction_of f + (2 ^ exponent_of f - 3) + step_bits f

step_is : (f : Format) → step_of f ≡ 2 ^ step_bits f
unfolding step_of
step_is f16 = refl
step_is f32 = refl
step_is f64 = refl

-- q * 2^j has as many digits as q, and j more
size_product : (q j d : ℕ) → q < 2 ^ d → size (q * 2 ^ j) ≤ d + j
size_product q j d h = size-le (q * 2 ^ j) (d + j) (subst (λ (n : ℕ). q * 2 ^ j < n) (sym (pow-add 2 d j)) (mul-lt-mul_of_pos_right h (pow_pos j)))

module _ (f : Format) (s : Bool) (q j d : ℕ) (few : q < 2 ^ d) (short : d ≤ suc (fraction_of f)) (low : step_bits f ≤ j)
    (high : d + j ≤ suc (top_place f)) where
  abbrev dropped : ℕ
  dropped = size (q * 2 ^ j) - suc (fraction_of f) - step_bits f

  nothing_left : q * 2 ^ j % 2 ^ (dropped + step_bits f) ≡ 0
  nothing_left = let z = size_product q j d few in (over_up q j (dropped + step_bits f) (omega arith)).0

  within_largest : q * 2 ^ j ≤ (2 ^ suc (fraction_of f) - 1) * 2 ^ (2 ^ exponent_of f - 3) * step_of f
  within_largest =
      let z = size_product q j d few in
      rw (step_is f) (exact_within (fraction_of f) (step_bits f) (q * 2 ^ j) dropped refl (2 ^ exponent_of f - 3) (omega arith) nothing_left)

  is_held : held_in f (q * 2 ^ j) ≡ true
  unfolding held_in encode_of
  is_held = rw (step_is f) (held_when (fraction_of f) (step_bits f) (q * 2 ^ j) dropped refl nothing_left)

  few_accepted : Accepted (floating f) (finite s (q * 2 ^ j))
  few_accepted = record {
    some_number = refl;
    no_infinity = refl;
    no_minus_zero = and-false (is_minus_zero (finite s (q * 2 ^ j)));
    no_fraction = and-false (has_fraction (finite s (q * 2 ^ j)));
    in_range = le-ltb _ _ within_largest;
    held = ap not is_held;
  }

-- ---- what the values of a form stand for

abbrev pub Holds : Form → Exact → Type 0
Holds (unsigned k) x = (n : ℕ) × (n < 2 ^ k) × (x ≡ times unit (whole_of (pos n)))
Holds (signed k) x = (z : ℤ) × (mag z < 2 ^ (k - 1)) × (x ≡ times unit (whole_of z))
Holds (floating f) x = (c : ℕ) × (x ≡ times (step_of f) (pattern_in f c))

-- a whole number of few digits
whole_accepted : (f : Format) (s : Bool) (n k : ℕ) → n < 2 ^ k → k ≤ suc (fraction_of f) → Accepted (floating f) (finite s (n * unit))
unfolding unit
whole_accepted f16 s n k h l = few_accepted f16 s n 1074 k h l (omega arith) (omega arith)
whole_accepted f32 s n k h l = few_accepted f32 s n 1074 k h l (omega arith) (omega arith)
whole_accepted f64 s n k h l = few_accepted f64 s n 1074 k h l (omega arith) (omega arith)

abs_few : (z : ℤ) (h : ℕ) → mag z < 2 ^ h → nat_abs z < 2 ^ suc h
abs_few (pos n) h l = let t : 2 ^ suc h ≡ 2 ^ h * 2 = pow-suc 2 h in omega arith
abs_few (negsuc n) h l = let t : 2 ^ suc h ≡ 2 ^ h * 2 = pow-suc 2 h in omega arith

integer_accepted : (f : Format) (z : ℤ) (k : ℕ) → nat_abs z < 2 ^ k → k ≤ suc (fraction_of f) → Accepted (floating f) (times unit (whole_of z))
integer_accepted f (pos n) k h l = whole_accepted f false n k h l
integer_accepted f (negsuc n) k h l = whole_accepted f true (suc n) k h l

-- a float in a format whose fraction is as long, its step as small and its range as wide: the fields are a number of few digits and a place
module _ (f g : Format) (longer : fraction_of f ≤ fraction_of g) (finer : step_bits g ≤ step_bits f) (wider : top_place f ≤ top_place g) where
  abbrev p : ℕ
  p = fraction_of f

  abbrev e : ℕ
  e = exponent_of f

  placed : (s : Bool) (k r : ℕ) → suc k < 2 ^ e - 1 → r < 2 ^ p → Accepted (floating g) (finite s ((2 ^ p + r) * 2 ^ k * 2 ^ step_bits f))
  placed s k r l h =
      let t : 2 ^ suc p ≡ 2 ^ p * 2 = pow-suc 2 p in
      let q : (2 ^ p + r) * 2 ^ (k + step_bits f) ≡ (2 ^ p + r) * 2 ^ k * 2 ^ step_bits f =
      ap (λ (n : ℕ). (2 ^ p + r) * n) (pow-add 2 k (step_bits f)) ∙ sym (mul_assoc (2 ^ p + r) (2 ^ k) (2 ^ step_bits f)) in
      subst (λ (m : ℕ). Accepted (floating g) (finite s m)) q
      (few_accepted g s (2 ^ p + r) (k + step_bits f) (suc p) (omega arith) (omega arith) (omega arith) (omega arith))

  fields_accepted : (s : Bool) (E r : ℕ) → E < 2 ^ e - 1 → r < 2 ^ p → Accepted (floating g) (finite s (mag_at p E r * step_of f))
  fields_accepted s zero r l h = rw (step_is f) (few_accepted g s r (step_bits f) p h (omega arith) finer (omega arith))
  fields_accepted s (suc k) r l h = rw (step_is f) (placed s k r l h)

  float_accepted : (c : ℕ) → is_none (times (step_of f) (pattern_of p e c)) ≡ false → Accepted (floating g) (times (step_of f) (pattern_of p e c))
  unfolding mag_of
  float_accepted c t = elim (three_ways (abs_of p e c) (inf_of p e)) [
    | inl l ↦
        let i : inf_of p e ≡ (2 ^ e - 1) * 2 ^ p = ap (λ (n : ℕ). 2 ^ n - 2 ^ p) (add_comm p e) ∙ high_ones e p in
        let field : abs_of p e c / 2 ^ p < 2 ^ e - 1 = (div-lt_iff_lt-mul {k = 2 ^ p} {x = abs_of p e c} {y = 2 ^ e - 1} (pow_pos p)).1
        (subst (λ (n : ℕ). abs_of p e c < n) i l) in
        subst (λ (x : Exact). Accepted (floating g) (times (step_of f) x)) (sym (pattern_finite p e c l))
        (fields_accepted (negative_of p e c) (abs_of p e c / 2 ^ p) (abs_of p e c % 2 ^ p) field (mod-lt (abs_of p e c) (pow_pos p)))
    | inr (inl q) ↦
        subst (λ (x : Exact). Accepted (floating g) (times (step_of f) x)) (sym (pattern_infinite p e c q))
        (infinity_accepted g (negative_of p e c))
    | inr (inr n) ↦ absurd (true≢false (ap (λ (x : Exact). is_none (times (step_of f) x)) (sym (pattern_nan p e c n)) ∙ t))
  ]

-- of two formats, the one with the longer fraction has the smaller step and the wider range
longer_wider : (f g : Format) → fraction_of f ≤ fraction_of g → (step_bits g ≤ step_bits f) × (top_place f ≤ top_place g)
longer_wider f16 f16 h = (omega arith, omega arith)
longer_wider f16 f32 h = (omega arith, omega arith)
longer_wider f16 f64 h = (omega arith, omega arith)
longer_wider f32 f16 h = absurd (omega arith)
longer_wider f32 f32 h = (omega arith, omega arith)
longer_wider f32 f64 h = (omega arith, omega arith)
longer_wider f64 f16 h = absurd (omega arith)
longer_wider f64 f32 h = absurd (omega arith)
longer_wider f64 f64 h = (omega arith, omega arith)

room : (from to : Form) (x : Exact) → Holds from x → widens from to ≡ true → is_none x ≡ false → Accepted to x
room (unsigned j) (unsigned k) x h w t =
    subst (Accepted (unsigned k)) (sym h.2) (accepts_unsigned k h.0 _ refl (lt_of_lt_of_le h.1 (pow_mono (leb-true j k w))) refl)
room (unsigned j) (signed k) x h w t =
    subst (Accepted (signed k)) (sym h.2) (accepts_signed k (pos h.0) _ refl (lt_of_lt_of_le h.1 (pow_mono (leb-true j (k - 1) w))) refl)
room (unsigned j) (floating f) x h w t = subst (Accepted (floating f)) (sym h.2) (whole_accepted f false h.0 j h.1 (leb-true _ _ w))
room (signed j) (unsigned k) x h w t = absurd (true≢false (sym w))
room (signed j) (signed k) x h w t =
    let l : j ≤ k = leb-true j k w in
    subst (Accepted (signed k)) (sym h.2) (accepts_signed k h.0 _ (integer_signless h.0) (lt_of_lt_of_le h.1 (pow_mono (omega arith))) refl)
room (signed j) (floating f) x h w t =
    let l : j ≤ suc (fraction_of f) = leb-true _ _ w in
    subst (Accepted (floating f)) (sym h.2) (integer_accepted f h.0 (suc (j - 1)) (abs_few h.0 (j - 1) h.1) (omega arith))
room (floating f) (unsigned k) x h w t = absurd (true≢false (sym w))
room (floating f) (signed k) x h w t = absurd (true≢false (sym w))
room (floating f) (floating g) x h w t =
    let l : fraction_of f ≤ fraction_of g = leb-true _ _ w in
    let r = longer_wider f g l in
    subst (Accepted (floating g)) (sym h.1) (float_accepted f g l r.0 r.1 h.0 (sym (ap is_none h.1) ∙ t))

-- ---- of values

holds_in : (x : Content) → Ranged x → Holds (form_in x) (exact_in x)
holds_in (natural k n) r = (n, r, refl)
holds_in (integer k z) r = (z, fits_below (2 ^ (k - 1)) z r, refl)
holds_in (real f b) r = (b, refl)

-- a kind with room for every number of the value's own has it
pub has_room : (v : Value) (to : Kind) → InRange v → widens (form_of (kind_of v)) (form_of to) ≡ true →
    (number_of v ≡ none → ⊥) → Accepted (form_of to) (exact_of v)
has_room v to r h n =
    let holds = subst (λ (form : Form). Holds form (exact_of v)) (content_form v) (holds_in (content_of v) (content_ranged v r)) in
    room (form_of (kind_of v)) (form_of to) (exact_of v) holds h (none_is (exact_of v) n)

-- as its own has
own_room : (form : Form) → widens form form ≡ true
own_room (unsigned k) = le-leb k k (omega arith)
own_room (signed k) = le-leb k k (omega arith)
own_room (floating f) = le-leb (fraction_of f) (fraction_of f) (omega arith)

pub own_accepted : (v : Value) → InRange v → (number_of v ≡ none → ⊥) → Accepted (form_of (kind_of v)) (exact_of v)
own_accepted v r n = has_room v (kind_of v) r (own_room (form_of (kind_of v))) n

-- a widening conversion refuses nothing but a NaN
pub widened : (v : Value) (to : Kind) → InRange v → (kind_number (kind_of v) ≡ kind_number to → ⊥)
    → widens (form_of (kind_of v)) (form_of to) ≡ true → (number_of v ≡ none → ⊥)
    → (w : Value) × (convert_of v to ≡ gives w)
widened v to r d h n = (made_in to (exact_of v), other_kind v to d ∙ into_gives to (exact_of v) (has_room v to r h n))
