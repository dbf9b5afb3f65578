-- Of a finite number four of the rules are left: minus zero, a rest by the unit, past the ends, not held. No rest is a whole number, past the ends
-- is beyond the kind's numbers, and what passes all four is held: so sign and number tell which of 13, 3, 4, 5 it is, and it tells them.
use mathlib.Core.Path.{◌≡◌, refl, sym, ◌∙◌, ap, subst}
use mathlib.Core.Bool.{Bool, true, false, not, ◌&&◌, cond, true≢false, and-true, and-false, and-eq-true_iff}
use Prim.Native.Nat.{ℕ, zero, suc, ◌-◌, ◌*◌, ◌/◌, ◌%◌, ◌^◌, ◌≤◌, ◌<◌}
use native.Mathlib.Nat.{div-add-mod', mul-div_cancel, mul-mod_left, zero-mul, zero-mod}
use native.Mathlib.Omega.{arith}
use mathlib.Core.Logic.{◌↔◌}
use borrow.Author.Tests.{lt-ltb, le-ltb, ltb-true, ltb-false, eq-eqb, eqb-true, not-false}
use lib.Dec.{T, ltb}
use lib.IntN.{ℤ, pos, negsuc, nat_abs}
use lib.Pow.{pow_pos}
use Rattle.float.specs.Format.{f16}
use Rattle.float.specs.ClassMeaning.{largest_in}
use Rattle.float.specs.Number.{Exact, not_number, infinite, finite, times, Number, none, number, number_of, signed_of}
use Rattle.float.proofs.Magnitude.{abs_signed}
use Rattle.float.proofs.Tests.{clash}
use Rattle.value.specs.declared.Kind.{Kind}
use Rattle.value.specs.declared.Kind.TheVariants as kind
use Rattle.value.specs.declared.Value.{Value}
use Rattle.value.specs.Kinds.{Form, unsigned, signed, floating, form_of, is_integer, kind_of}
use Rattle.value.specs.Meaning as value
use Rattle.value.specs.Meaning.{whole_of, unit, step_of, exact_of, position_of}
use Rattle.value.specs.Outcome.{Outcome, gives, refuses, refuse_if}
use Rattle.value.specs.Rules.{chain}
use Rattle.value.proofs.Units.{unit_pos}
use Rattle.value.proofs.Outcomes.{refuses_same}
use Rattle.convert.specs.Convert.{into_rules, is_minus_zero, outside, out_of_form, out_of_range, not_held_in, not_held, has_fraction, made_in, convert_of}
use Rattle.convert.specs.Inner.{into_of}
use Rattle.cmp.proofs.Numbers.{whole_position}
use Rattle.convert.proofs.Exactly.{other_kind}
use Rattle.convert.proofs.MinusZero.{is_minus_zero_lem, some_magnitude, integer_signless}
use Rattle.convert.proofs.Wholes.{limit_is}
use Rattle.convert.proofs.Infinities.{refused_none}
use Rattle.demands.specs.Conversion.{Other, IsMinusZero, HasPattern}
use Rattle.demands.specs.WhichRefusal.{IsFinite, IsWhole, Beyond, Within, WhichRefusal, TowardsF16}
use Rattle.demands.proofs.Conversion.{other, of_conversion}
use Rattle.demands.proofs.Widening.{has_nought}
use Rattle.demands.proofs.Beyond.{quotient_pos, past_beyond, held_not_beyond, inside_not_beyond}

-- ---- the last four rules of six

-- what a finite number comes to
abbrev last_four : {A : Type 0} → Bool → Bool → Bool → Bool → A → Outcome A
last_four z a b c r = refuse_if z 13 0 (refuse_if a 3 0 (refuse_if b 4 0 (refuse_if c 5 0 (gives r))))

-- the number of a refusal tells which rule it was
module _ {A : Type 0} (r : A) where
  is_thirteen : (z a b c : Bool) → last_four z a b c r ≡ refuses 13 0 → z ≡ true
  is_thirteen true a b c h = refl
  is_thirteen false true b c h = absurd (omega (arith, (refuses_same h).0))
  is_thirteen false false true c h = absurd (omega (arith, (refuses_same h).0))
  is_thirteen false false false true h = absurd (omega (arith, (refuses_same h).0))
  is_thirteen false false false false h = clash cc

  is_three : (z a b c : Bool) → last_four z a b c r ≡ refuses 3 0 → a ≡ true
  is_three true a b c h = absurd (omega (arith, (refuses_same h).0))
  is_three false true b c h = refl
  is_three false false true c h = absurd (omega (arith, (refuses_same h).0))
  is_three false false false true h = absurd (omega (arith, (refuses_same h).0))
  is_three false false false false h = clash cc

  is_four : (z a b c : Bool) → last_four z a b c r ≡ refuses 4 0 → (a ≡ false) × (b ≡ true)
  is_four true a b c h = absurd (omega (arith, (refuses_same h).0))
  is_four false true b c h = absurd (omega (arith, (refuses_same h).0))
  is_four false false true c h = (refl, refl)
  is_four false false false true h = absurd (omega (arith, (refuses_same h).0))
  is_four false false false false h = clash cc

  is_five : (z a b c : Bool) → last_four z a b c r ≡ refuses 5 0 → (b ≡ false) × (c ≡ true)
  is_five true a b c h = absurd (omega (arith, (refuses_same h).0))
  is_five false true b c h = absurd (omega (arith, (refuses_same h).0))
  is_five false false true c h = absurd (omega (arith, (refuses_same h).0))
  is_five false false false true h = (refl, refl)
  is_five false false false false h = clash cc

-- a NaN is 1; an infinity is 2, or it is given
finite_refused : {A : Type 0} (form : Form) (x : Exact) (r : A) (n : ℕ) → 3 ≤ n → chain (into_rules form x) (gives r) ≡ refuses n 0
    → (s : Bool) × (m : ℕ) × (x ≡ finite s m)
finite_refused form not_number r n l h = absurd (omega (arith, (refuses_same h).0))
finite_refused (unsigned k) (infinite s) r n l h = absurd (omega (arith, (refuses_same h).0))
finite_refused (signed k) (infinite s) r n l h = absurd (omega (arith, (refuses_same h).0))
finite_refused (floating f) (infinite s) r n l h = clash cc
finite_refused form (finite s m) r n l h = (s, m, refl)

finite_number : (x : Exact) → IsFinite (number_of x) → (s : Bool) × (m : ℕ) × (x ≡ finite s m)
finite_number not_number h = clash (cc h.1)
finite_number (infinite true) h = clash (cc h.1)
finite_number (infinite false) h = clash (cc h.1)
finite_number (finite s m) h = (s, m, refl)

-- ---- whole: no rest by the unit

whole_magnitude : (z : ℤ) (s : Bool) (m : ℕ) → number (signed_of s m) ≡ number_of (times unit (whole_of z)) → m ≡ nat_abs z * unit
whole_magnitude (pos n) s m h =
    let q : signed_of s m ≡ signed_of false (n * unit) = cc in
    sym (abs_signed s m) ∙ ap nat_abs q ∙ abs_signed false (n * unit)
whole_magnitude (negsuc n) s m h =
    let q : signed_of s m ≡ signed_of true (suc n * unit) = cc in
    sym (abs_signed s m) ∙ ap nat_abs q ∙ abs_signed true (suc n * unit)

whole_number : (s : Bool) (n u : ℕ) → number_of (times u (whole_of (signed_of s n))) ≡ number_of (finite s (n * u))
whole_number false n u = refl
whole_number true zero u = rw (zero-mul u) refl
whole_number true (suc n) u = refl

-- the test of 3
abbrev fractional : Form → Bool → ℕ → Bool
fractional form s m = has_fraction (finite s m) && is_integer form

module _ {n : Number} (s : Bool) (m : ℕ) (is : n ≡ number (signed_of s m)) where
  whole_rest : IsWhole n → m % unit ≡ 0
  whole_rest w = ap (λ (k : ℕ). k % unit) (whole_magnitude w.0 s m (sym is ∙ w.1)) ∙ mul-mod_left (nat_abs w.0) unit

  rest_whole : m % unit ≡ 0 → IsWhole n
  rest_whole z =
      let q : m ≡ m / unit * unit = omega (arith, div-add-mod' m unit) in
      (signed_of s (m / unit), is ∙ ap (λ (k : ℕ). number (signed_of s k)) q ∙ sym (whole_number s (m / unit) unit))

  -- to an integer kind only what is whole passes
  whole_passes : (form : Form) → (is_integer form ≡ true → IsWhole n) → fractional form s m ≡ false
  whole_passes (unsigned k) w = and-true _ ∙ ap not (eq-eqb _ _ (whole_rest (w refl)))
  whole_passes (signed k) w = and-true _ ∙ ap not (eq-eqb _ _ (whole_rest (w refl)))
  whole_passes (floating f) w = and-false (has_fraction (finite s m))

  whole_passed : (form : Form) → fractional form s m ≡ false → is_integer form ≡ true → IsWhole n
  whole_passed form h i =
      let none : has_fraction (finite s m) ≡ false = sym (and-true _) ∙ ap (λ (t : Bool). has_fraction (finite s m) && t) (sym i) ∙ h in
      rest_whole (eqb-true _ _ (not-false _ none))

  fraction_holds : (form : Form) → fractional form s m ≡ true → (is_integer form ≡ true) × (IsWhole n → ⊥)
  fraction_holds (unsigned k) h = (refl, λ w. true≢false (sym h ∙ whole_passes (unsigned k) (λ i. w)))
  fraction_holds (signed k) h = (refl, λ w. true≢false (sym h ∙ whole_passes (signed k) (λ i. w)))
  fraction_holds (floating f) h = absurd (true≢false (sym h ∙ and-false (has_fraction (finite s m))))

-- ---- minus zero has no fraction and lies in every range

-- the test of 13
abbrev masked : Form → Bool → ℕ → Bool
masked form s m = is_minus_zero (finite s m) && is_integer form

some_unmasked : (form : Form) (s : Bool) (m : ℕ) → 0 < m → masked form s m ≡ false
some_unmasked form s m h = ap (λ (t : Bool). t && is_integer form) (some_magnitude s m h)

above_none : (low high : ℕ) (s : Bool) (m : ℕ) → outside low high s (m / unit) ≡ true → 0 < m
above_none low high s m h =
    let l : cond s low high < m / unit = ltb-true _ _ (sym (limit_is low high s (m / unit)) ∙ h) in
    quotient_pos m (omega arith)

past_some : (form : Form) (s : Bool) (m : ℕ) → out_of_form form s m ≡ true → 0 < m
past_some (unsigned k) s m h = above_none 0 (2 ^ k - 1) s m h
past_some (signed k) s m h = above_none (2 ^ (k - 1)) (2 ^ (k - 1) - 1) s m h
past_some (floating f) s m h = let l = ltb-true (largest_in f * step_of f) m h in omega arith

-- ---- the conversion to another kind

-- only a float kind lacks a number: 5
unheld_float : (form : Form) (m : ℕ) → not_held_in form m ≡ true → is_integer form ≡ false
unheld_float (unsigned k) m h = sym h
unheld_float (signed k) m h = sym h
unheld_float (floating f) m h = refl

module _ (v : Value) (to : Kind) (o : Other v to) where
  answers : (x : Exact) → exact_of v ≡ x → convert_of v to ≡ chain (into_rules (form_of to) x) (gives (made_in to x))
  unfolding into_of
  answers x q = other_kind v to (other v to o) ∙ ap (into_of to) q

  refused_finite : (n : ℕ) → 3 ≤ n → convert_of v to ≡ refuses n 0 → (s : Bool) × (m : ℕ) × (exact_of v ≡ finite s m)
  refused_finite n l h = finite_refused (form_of to) (exact_of v) (made_in to (exact_of v)) n l (sym (answers (exact_of v) refl) ∙ h)

  module _ (s : Bool) (m : ℕ) (q : exact_of v ≡ finite s m) where
    number_is : value.number_of v ≡ number (signed_of s m)
    number_is = ap number_of q

    by_tests : {z a b c : Bool} → masked (form_of to) s m ≡ z → fractional (form_of to) s m ≡ a →
        out_of_form (form_of to) s m ≡ b → not_held_in (form_of to) m ≡ c
        → convert_of v to ≡ last_four z a b c (made_in to (finite s m))
    by_tests i j k l = answers (finite s m) q ∙ cc (i, j, k, l)

    tested : (n : ℕ) → convert_of v to ≡ refuses n 0
        → last_four (masked (form_of to) s m) (fractional (form_of to) s m)
        (out_of_form (form_of to) s m) (not_held_in (form_of to) m) (made_in to (finite s m))
        ≡ refuses n 0
    tested n h = sym (by_tests refl refl refl refl) ∙ h

    is_zero : masked (form_of to) s m ≡ true → IsMinusZero v × (is_integer (form_of to) ≡ true)
    is_zero h = let t = (and-eq-true_iff (is_minus_zero (finite s m)) (is_integer (form_of to))).0 h in (q ∙ is_minus_zero_lem (finite s m) t.0, t.1)

    -- past the last three, some pattern has the number
    passed : (t : Bool) → masked (form_of to) s m ≡ t → fractional (form_of to) s m ≡ false → out_of_form (form_of to) s m ≡ false
        → not_held_in (form_of to) m ≡ false → HasPattern v to
    passed true e i j k = (0, has_nought to ∙ sym (ap number_of (is_zero e).0))
    passed false e i j k = ((of_conversion.exactly v to o).0 (made_in to (finite s m), by_tests e i j k)).1

    is_beyond : out_of_form (form_of to) s m ≡ true → Beyond (value.number_of v) to
    is_beyond h = subst (λ (n : Number). Beyond n to) (sym number_is) (past_beyond to s m h)

    not_beyond : (form : Form) → form_of to ≡ form → (is_integer (form_of to) ≡ true → IsWhole (value.number_of v))
        → out_of_form (form_of to) s m ≡ false → Beyond (value.number_of v) to → ⊥
    not_beyond (unsigned k) e w h b =
        held_not_beyond v to _ number_is (passed _ refl (whole_passes s m number_is (form_of to) w) h (ap (λ (form : Form). not_held_in form m) e)) b
    not_beyond (signed k) e w h b =
        held_not_beyond v to _ number_is (passed _ refl (whole_passes s m number_is (form_of to) w) h (ap (λ (form : Form). not_held_in form m) e)) b
    not_beyond (floating f) e w h b =
        inside_not_beyond to f e s m (subst (λ (form : Form). out_of_form form s m ≡ false) e h) (subst (λ (n : Number). Beyond n to) number_is b)

    -- ---- 13, 3, 4 and 5, by what the test says

    of_three : (t : Bool) → fractional (form_of to) s m ≡ t → is_integer (form_of to) ≡ true → (IsWhole (value.number_of v) → ⊥)
        → convert_of v to ≡ refuses 3 0
    of_three true e i w =
        let some : m ≡ 0 → ⊥ = λ z. w (rest_whole s m number_is (ap (λ (n : ℕ). n % unit) z ∙ zero-mod unit)) in
        by_tests (some_unmasked (form_of to) s m (omega arith)) e refl refl
    of_three false e i w = absurd (w (whole_passed s m number_is (form_of to) e i))

    of_four : (t : Bool) → out_of_form (form_of to) s m ≡ t → (is_integer (form_of to) ≡ true → IsWhole (value.number_of v))
        → Beyond (value.number_of v) to → convert_of v to ≡ refuses 4 0
    of_four true e w b = by_tests (some_unmasked (form_of to) s m (past_some (form_of to) s m e)) (whole_passes s m number_is (form_of to) w) e refl
    of_four false e w b = absurd (not_beyond (form_of to) refl w e b)

    three_of : convert_of v to ≡ refuses 3 0 → (is_integer (form_of to) ≡ true) × (IsWhole (value.number_of v) → ⊥)
    three_of h =
        let t = is_three (made_in to (finite s m)) (masked (form_of to) s m) _ (out_of_form (form_of to) s m) (not_held_in (form_of to) m) (tested 3 h) in
        fraction_holds s m number_is (form_of to) t

    four_of : convert_of v to ≡ refuses 4 0 → (is_integer (form_of to) ≡ true → IsWhole (value.number_of v)) × Beyond (value.number_of v) to
    four_of h =
        let t = is_four (made_in to (finite s m)) (masked (form_of to) s m) _ _ (not_held_in (form_of to) m) (tested 4 h) in
        (whole_passed s m number_is (form_of to) t.0, is_beyond t.1)

    five_of : convert_of v to ≡ refuses 5 0 → (is_integer (form_of to) ≡ false) × (Beyond (value.number_of v) to → ⊥)
    five_of h =
        let t = is_five (made_in to (finite s m)) (masked (form_of to) s m) (fractional (form_of to) s m) _ _ (tested 5 h) in
        let i = unheld_float (form_of to) m t.1 in
        (i, not_beyond (form_of to) refl (λ j. absurd (true≢false (sym j ∙ i))) t.0)

    module _ (i : is_integer (form_of to) ≡ false) where
      no_fraction : fractional (form_of to) s m ≡ false
      no_fraction = whole_passes s m number_is (form_of to) (λ j. absurd (true≢false (sym j ∙ i)))

      unmasked : masked (form_of to) s m ≡ false
      unmasked = ap (λ (t : Bool). is_minus_zero (finite s m) && t) i ∙ and-false (is_minus_zero (finite s m))

      of_five : (Beyond (value.number_of v) to → ⊥) → (HasPattern v to → ⊥) → (t u : Bool) → out_of_form (form_of to) s m ≡ t → not_held_in (form_of to) m ≡ u
          → convert_of v to ≡ refuses 5 0
      of_five within no-pattern true u e d = absurd (within (is_beyond e))
      of_five within no-pattern false true e d = by_tests unmasked no_fraction e d
      of_five within no-pattern false false e d = absurd (no-pattern (passed false unmasked no_fraction e d))

  -- an integer is not minus zero, and has no fraction
  integer_tests : (z : ℤ) → exact_of v ≡ times unit (whole_of z) → {b c : Bool} → out_of_range (form_of to) (times unit (whole_of z)) ≡ b
      → not_held (form_of to) (times unit (whole_of z)) ≡ c → convert_of v to ≡ last_four false false b c (made_in to (times unit (whole_of z)))
  integer_tests (pos n) q h k =
      by_tests false (n * unit) q refl (whole_passes false (n * unit) (ap number_of q) (form_of to) (λ i. (pos n, ap number_of q))) h k
  integer_tests (negsuc n) q h k =
      by_tests true (suc n * unit) q (ap (λ (t : Bool). t && is_integer (form_of to)) (integer_signless (negsuc n)))
      (whole_passes true (suc n * unit) (ap number_of q) (form_of to) (λ i. (negsuc n, ap number_of q))) h k

-- ---- towards f16

-- the largest f16 is 65504
largest_half : largest_in f16 * step_of f16 ≡ 65504 * unit
unfolding unit step_of
largest_half = refl

module _ (v : Value) (s : Bool) (m : ℕ) (o : Other v kind.F16) (q : exact_of v ≡ finite s m) where
  past_largest : (65504 * unit < m → out_of_form (floating f16) s m ≡ true) × (m ≤ 65504 * unit → out_of_form (floating f16) s m ≡ false)
  past_largest = (
    (λ h. lt-ltb _ m (subst (λ (n : ℕ). n < m) (sym largest_half) h)),
    λ h. le-ltb _ m (subst (λ (n : ℕ). m ≤ n) (sym largest_half) h),
  )

  four_half : (convert_of v kind.F16 ≡ refuses 4 0) ↔ (65504 * unit < m)
  four_half = (
    (λ h.
        let t = is_four (made_in kind.F16 (finite s m)) (masked (floating f16) s m) (fractional (floating f16) s m) _ (not_held_in (floating f16) m)
        (tested v kind.F16 o s m q 4 h) in
        subst (λ (n : ℕ). n < m) largest_half (ltb-true _ _ t.1)),
    λ h. by_tests v kind.F16 o s m q (unmasked v kind.F16 o s m q refl) (no_fraction v kind.F16 o s m q refl) (past_largest.0 h) refl,
  )

  unheld : (t : Bool) → not_held_in (floating f16) m ≡ t → m ≤ 65504 * unit → (HasPattern v kind.F16 → ⊥) → convert_of v kind.F16 ≡ refuses 5 0
  unheld true e l no-pattern = by_tests v kind.F16 o s m q (unmasked v kind.F16 o s m q refl) (no_fraction v kind.F16 o s m q refl) (past_largest.1 l) e
  unheld false e l no-pattern =
      absurd (no-pattern (passed v kind.F16 o s m q false (unmasked v kind.F16 o s m q refl) (no_fraction v kind.F16 o s m q refl) (past_largest.1 l) e))

  five_half : (convert_of v kind.F16 ≡ refuses 5 0)
      ↔ ((m ≤ 65504 * unit) × ((b : ℕ) → value.number_of (value.value_of kind.F16 b) ≡ value.number_of v → ⊥))
  five_half = (
    (λ h.
        let t = is_five (made_in kind.F16 (finite s m)) (masked (floating f16) s m) (fractional (floating f16) s m) (out_of_form (floating f16) s m)
        (not_held_in (floating f16) m) (tested v kind.F16 o s m q 5 h) in
        let some : value.number_of v ≡ none → ⊥ = λ n. clash (cc (number_is v kind.F16 o s m q, n)) in
        let signless = and-false (is_minus_zero (exact_of v)) in
        (subst (λ (n : ℕ). m ≤ n) largest_half (ltb-false _ _ t.0), refused_none v kind.F16 (other v kind.F16 o) 5 0 h some signless)),
    λ h. unheld (not_held_in (floating f16) m) refl h.0 (λ has. h.1 has.0 has.1),
  )

pub towards_f16 : TowardsF16
towards_f16 = record { four_to_f16 = four_half; five_to_f16 = five_half }

-- ---- two integer kinds

integer_exact : (v : Value) → is_integer (form_of (kind_of v)) ≡ true → exact_of v ≡ times unit (whole_of (position_of v))
integer_exact v i = whole_position v (subst T (sym i) tt)

units_above : (end n : ℕ) → end < n → ltb end (n * unit / unit) ≡ true
units_above end n h = rw (mul-div_cancel n unit_pos) (lt-ltb end n h)

units_below : (end n : ℕ) → n ≤ end → ltb end (n * unit / unit) ≡ false
units_below end n h = rw (mul-div_cancel n unit_pos) (le-ltb end n h)

not_within_out : (form : Form) (z : ℤ) → is_integer form ≡ true → (Within form z → ⊥) → out_of_range form (times unit (whole_of z)) ≡ true
not_within_out (unsigned k) (pos n) i h = units_above (2 ^ k - 1) n (omega (arith, h, pow_pos k))
not_within_out (unsigned k) (negsuc n) i h = units_above 0 (suc n) (omega arith)
not_within_out (signed k) (pos n) i h = units_above (2 ^ (k - 1) - 1) n (omega (arith, h, pow_pos (k - 1)))
not_within_out (signed k) (negsuc n) i h = units_above (2 ^ (k - 1)) (suc n) (omega (arith, h))
not_within_out (floating f) z i h = absurd (true≢false (sym i))

within_in : (form : Form) (z : ℤ) → Within form z
    → (out_of_range form (times unit (whole_of z)) ≡ false) × (not_held form (times unit (whole_of z)) ≡ false)
within_in (unsigned k) (pos n) h = (units_below (2 ^ k - 1) n (omega arith), refl)
within_in (unsigned k) (negsuc n) h = absurd h
within_in (signed k) (pos n) h = (units_below (2 ^ (k - 1) - 1) n (omega arith), refl)
within_in (signed k) (negsuc n) h = (units_below (2 ^ (k - 1)) (suc n) (omega arith), refl)
within_in (floating f) z h = absurd h

-- ---- the claim

pub which_refusal : WhichRefusal
which_refusal = record {
  thirteen = λ v to o. (
    λ h. let (s, m, q) = refused_finite v to o 13 (omega arith) h in
        is_zero v to o s m q (is_thirteen (made_in to (finite s m)) _ (fractional (form_of to) s m) (out_of_form (form_of to) s m) (not_held_in (form_of to) m)
        (tested v to o s m q 13 h)),
    λ h. by_tests v to o true 0 h.0 (ap (λ (t : Bool). true && t) h.1) refl refl refl,
  );
  three = λ v to o. (
    λ h. let (s, m, q) = refused_finite v to o 3 (omega arith) h in
        let t = three_of v to o s m q h in
        ((signed_of s m, ap number_of q), t.0, t.1),
    λ h. let (s, m, q) = finite_number (exact_of v) h.0 in of_three v to o s m q _ refl h.1 h.2,
  );
  four = λ v to o. (
    λ h. let (s, m, q) = refused_finite v to o 4 (omega arith) h in
        let t = four_of v to o s m q h in
        ((signed_of s m, ap number_of q), t.0, t.1),
    λ h. let (s, m, q) = finite_number (exact_of v) h.0 in of_four v to o s m q _ refl h.1 h.2,
  );
  five = λ v to o. (
    λ h. let (s, m, q) = refused_finite v to o 5 (omega arith) h in
        let t = five_of v to o s m q h in
        ((signed_of s m, ap number_of q), t.0, t.1, of_conversion.none_hidden v to o 5 0 h),
    λ h. let (s, m, q) = finite_number (exact_of v) h.0 in
        let some : value.number_of v ≡ none → ⊥ = λ n. clash (cc (number_is v to o s m q, n)) in
        of_five v to o s m q h.1 h.2 (λ has. h.3 (some, has, λ j. absurd (true≢false (sym j ∙ h.1)))) _ _ refl refl,
  );
  within_given = λ v to o i h.
      let t = within_in (form_of to) (position_of v) h in
      (_, integer_tests v to o (position_of v) (integer_exact v i) t.0 t.1);
  outside_four = λ v to o i j h. integer_tests v to o (position_of v) (integer_exact v i) (not_within_out (form_of to) (position_of v) j h) refl;
}
