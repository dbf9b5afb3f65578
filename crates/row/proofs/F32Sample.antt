-- One f32 sample into u16, by what its bits stand for.
use mathlib.Core.Path.{◌≡◌, refl, sym, ◌∙◌, ap}
use mathlib.Core.Bool.{Bool, true, false, cond}
use Prim.Native.Nat.{ℕ, ◌+◌, ◌-◌, ◌*◌, ◌/◌, ◌%◌, ◌^◌, ◌≤◌}
use native.Mathlib.Nat.{eq_of_mul-eq-mul_right, div-add-mod', add-zero, zero-mul}
use borrow.Author.Tests.{le-ltb, ltb-true}
use lib.Dec.{lit<}
use lib.Ieee.{Float, nan, inf, fin, binary32, is_nan, to_bits}
use Rattle.float.specs.Format.{Format, f32, fraction_of, exponent_of, abs_of, inf_in, nan_in}
use Rattle.float.specs.Number.{Exact, not_number, infinite, finite, times}
use Rattle.float.specs.Order.{pattern_of, pattern_in}
use Rattle.float.proofs.Comparing.{pattern_nan}
use Rattle.value.specs.declared.Kind.TheVariants as kind
use Rattle.value.specs.declared.Value.TheVariants.{F32}
use Rattle.value.specs.Meaning.{bits_of, unit, step_of, float_bits, nan_word}
use Rattle.value.specs.Outcome.{gives, refuses, mapped}
use Rattle.value.proofs.Units.{step_pos}
use Rattle.convert.specs.Convert.{outside, convert_of}
use Rattle.convert.specs.Inner.{into_of}
use Rattle.row.specs.Convert.{f32_to_u16}
use Rattle.row.proofs.FloatValue.{steps_units}
use Rattle.row.proofs.IntoUnsigned.{into_fraction, into_outside, into_inside, u16_made}

abbrev pub exact_of : Float → Exact
exact_of x = pattern_of 23 8 (to_bits binary32 x)

-- the word beside a NaN is the one that the logic writes for it
pub bits_are : (x : Float) → float_bits binary32 x 0 ≡ to_bits binary32 x
unfolding float_bits is_nan to_bits abs_of
bits_are nan = refl
bits_are (inf s) = refl
bits_are (fin s m e) = refl

-- whatever word stands beside a NaN, it is no number
word_none : (f : Format) (w : ℕ) → nan_in f (inf_in f + 2 ^ (fraction_of f - 1)) ≡ true → pattern_in f (nan_word f w) ≡ not_number
word_none f w q = go (nan_in f w) refl
  where
    go : (t : Bool) → nan_in f w ≡ t → pattern_in f (cond t w (inf_in f + 2 ^ (fraction_of f - 1))) ≡ not_number
    go true h = pattern_nan (fraction_of f) (exponent_of f) w (ltb-true _ _ h)
    go false h = pattern_nan (fraction_of f) (exponent_of f) _ (ltb-true _ _ q)

pub same_pattern : (x : Float) (w : ℕ) → pattern_of 23 8 (float_bits binary32 x w) ≡ pattern_of 23 8 (to_bits binary32 x)
unfolding float_bits abs_of is_nan to_bits
same_pattern nan w = word_none f32 w refl ∙ sym (pattern_nan 23 8 (to_bits binary32 nan) (lit< tt))
same_pattern (inf s) w = refl
same_pattern (fin s m e) w = refl

-- so the word beside a sample changes nothing
pub any_word : (x : Float) (w : ℕ) → mapped bits_of (convert_of (F32 x w) kind.U16) ≡ f32_to_u16 x
unfolding f32_to_u16 convert_of into_of
any_word x w = ap (λ (X : Exact). mapped bits_of (into_of kind.U16 (times (step_of f32) X))) (same_pattern x w ∙ sym (same_pattern x 0))

module _ (x : Float) where
  by_exact : {X : Exact} → exact_of x ≡ X → f32_to_u16 x ≡ mapped bits_of (into_of kind.U16 (times (step_of f32) X))
  unfolding f32_to_u16 convert_of into_of
  by_exact q = ap (λ (b : ℕ). mapped bits_of (into_of kind.U16 (times (step_of f32) (pattern_of 23 8 b)))) (bits_are x)
      ∙ ap (λ (X : Exact). mapped bits_of (into_of kind.U16 (times (step_of f32) X))) q

  pub nan_refused : exact_of x ≡ not_number → f32_to_u16 x ≡ refuses 1 0
  unfolding into_of
  nan_refused q = by_exact q

  pub infinity_refused : {s : Bool} → exact_of x ≡ infinite s → f32_to_u16 x ≡ refuses 2 0
  unfolding into_of
  infinity_refused q = by_exact q

  pub minus_zero_refused : exact_of x ≡ finite true 0 → f32_to_u16 x ≡ refuses 13 0
  unfolding into_of
  minus_zero_refused q = by_exact q ∙ ap (λ (k : ℕ). mapped bits_of (into_of kind.U16 (finite true k))) (zero-mul (step_of f32))

  module _ (s : Bool) (a : ℕ) (q : exact_of x ≡ finite s a) where
    pub fraction_refused : ((n : ℕ) → a ≡ n * 2 ^ 149 → ⊥) → f32_to_u16 x ≡ refuses 3 0
    fraction_refused h = by_exact q
        ∙ ap (mapped bits_of) (into_fraction kind.U16 16 refl s (a * step_of f32) (λ r. h (a * step_of f32 / unit) (whole_steps r)))
      where
        whole_steps : a * step_of f32 % unit ≡ 0 → a ≡ a * step_of f32 / unit * 2 ^ 149
        whole_steps r =
            let n = a * step_of f32 / unit in
            let m : a * step_of f32 ≡ n * unit = sym (div-add-mod' (a * step_of f32) unit) ∙ ap (λ (k : ℕ). n * unit + k) r ∙ add-zero (n * unit) in
            eq_of_mul-eq-mul_right (step_of f32) (step_pos f32) a (n * 2 ^ 149) (m ∙ sym (steps_units n))

    module _ (n : ℕ) (w : a ≡ n * 2 ^ 149) where
      in_units : f32_to_u16 x ≡ mapped bits_of (into_of kind.U16 (finite s (n * unit)))
      in_units = by_exact q ∙ ap (λ (k : ℕ). mapped bits_of (into_of kind.U16 (finite s k))) (ap (λ (k : ℕ). k * step_of f32) w ∙ steps_units n)

      pub outside_refused : outside 0 65535 s n ≡ true → f32_to_u16 x ≡ refuses 4 0
      outside_refused h = in_units ∙ ap (mapped bits_of) (into_outside kind.U16 16 refl n s h)

  pub inside_given : (n : ℕ) → exact_of x ≡ finite false (n * 2 ^ 149) → n ≤ 65535 → f32_to_u16 x ≡ gives n
  inside_given n q h = in_units false (n * 2 ^ 149) q n refl ∙ into_inside kind.U16 16 refl n u16_made (le-ltb 65535 n h)
