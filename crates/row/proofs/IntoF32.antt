-- One u16 sample into f32: the language's cast has the number.
use mathlib.Core.Path.{◌≡◌, refl, sym, ◌∙◌, ap}
use mathlib.Core.Bool.{Bool, true, false, cond}
use Prim.Native.Nat.{ℕ, ◌*◌, ◌^◌, ◌<◌}
use native.Mathlib.Omega.{arith}
use lib.Dec.{T}
use lib.IntN.{pos}
use lib.Ieee.{binary32, fits, to_bits, of_bits, of_int}
use lib.Ieee.Bits.{of_bits-to_bits, to_bits-lt}
use lib.Ieee.Exact.{HasValue}
use lib.Ieee.Fits.{of_int-fits}
use lib.Ieee.Back.{round_whole}
use Rattle.float.specs.Format.{f32, negative_of, abs_of, infinite_of, nan_of, mag_of}
use Rattle.float.specs.Number.{Exact, not_number, infinite, finite, times}
use Rattle.float.specs.Number as float-number
use Rattle.float.specs.Order.{pattern_of}
use Rattle.float.proofs.Tests.{clash}
use Rattle.value.specs.declared.Kind.TheVariants as kind
use Rattle.value.specs.declared.Value.TheVariants.{U16}
use Rattle.value.specs.Meaning.{number_of, unit, step_of, value_of}
use Rattle.value.specs.Outcome.{gives, mapped}
use Rattle.value.proofs.MadeValues.{value_bits}
use Rattle.convert.specs.Convert.{encode_of, made_in}
use Rattle.convert.proofs.Encode.{encode_held}
use Rattle.convert.proofs.Exactly.{complete}
use Rattle.row.specs.Convert.{u16_to_f32, float_of}
use Rattle.row.specs.Inner.{as_f32}
use Rattle.row.proofs.FloatValue.{value_pattern, over_more, steps_units}

-- ---- the fields of a finite pattern

finite_fields : (p e b : ℕ) (s : Bool) (a : ℕ) → pattern_of p e b ≡ finite s a → (negative_of p e b ≡ s) × (mag_of p (abs_of p e b) ≡ a)
unfolding pattern_of
finite_fields p e b s a = go (nan_of p e b) (infinite_of p e b)
  where
    go : (n i : Bool) → cond n not_number (cond i (infinite (negative_of p e b)) (finite (negative_of p e b) (mag_of p (abs_of p e b)))) ≡ finite s a
        → (negative_of p e b ≡ s) × (mag_of p (abs_of p e b) ≡ a)
    go true i h = clash cc
    go false true h = clash cc
    go false false h = (cc, cc)

positive_abs : (p e b : ℕ) → negative_of p e b ≡ false → abs_of p e b ≡ b
unfolding abs_of
positive_abs p e b h = simp h

-- ---- the cast

module _ (n : ℕ) (small : n < 2 ^ 16) where
  abbrev pub bits : ℕ
  bits = to_bits binary32 (as_f32 n)

  cast_fits : T (fits binary32 (as_f32 n))
  cast_fits = of_int-fits binary32 (pos n)

  pub cast_value : HasValue (as_f32 n) false n 1
  unfolding of_int
  cast_value = round_whole binary32 false n (omega arith)

  cast_pattern : pattern_of 23 8 bits ≡ finite false (n * 2 ^ 149)
  cast_pattern = value_pattern binary32 (as_f32 n) false (n * 2 ^ 149) cast_fits (over_more (as_f32 n) false n (2 ^ 149) cast_value)

  pub encoded : encode_of f32 (n * unit) ≡ bits
  encoded =
      let fields = finite_fields 23 8 bits false (n * 2 ^ 149) cast_pattern in
      let m : mag_of 23 bits ≡ n * 2 ^ 149 = ap (mag_of 23) (sym (positive_abs 23 8 bits fields.0)) ∙ fields.1 in
      ap (encode_of f32) (sym (ap (λ (k : ℕ). k * step_of f32) m ∙ steps_units n)) ∙ encode_held f32 bits

  pub same_number : number_of (value_of kind.F32 bits) ≡ number_of (U16 n)
  unfolding value_of
  same_number =
      ap (λ (b : ℕ). float-number.number_of (times (step_of f32) (pattern_of 23 8 b))) (value_bits kind.F32 bits (to_bits-lt binary32 (as_f32 n) cast_fits))
      ∙ ap (λ (x : Exact). float-number.number_of (times (step_of f32) x)) cast_pattern
      ∙ ap (λ (k : ℕ). float-number.number_of (finite false k)) (steps_units n)

  pub u16_float : u16_to_f32 n ≡ gives (as_f32 n)
  unfolding u16_to_f32 made_in
  u16_float =
      ap (mapped float_of) (complete (U16 n) kind.F32 (λ q. omega arith) bits (λ q. clash cc) refl same_number)
      ∙ ap (λ (b : ℕ). gives (of_bits binary32 b)) encoded
      ∙ ap gives (of_bits-to_bits binary32 (as_f32 n) cast_fits)
