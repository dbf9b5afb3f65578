-- The pattern that a conversion makes has the sign and the number it was made of.
use mathlib.Core.Path.{◌≡◌, sym, ◌∙◌, ap, subst}
use mathlib.Core.Bool.{Bool, true, false}
use mathlib.Core.Logic.{inl, inr}
use Prim.Native.Nat.{ℕ, ◌+◌, ◌-◌, ◌*◌, ◌≤◌, ◌<◌}
use native.Mathlib.Nat.{mul-lt-mul_of_pos_right}
use native.Mathlib.Omega.{arith}
use borrow.Author.Tests.{le-leb, lt-leb}
use Rattle.float.specs.Format.{Format, fraction_of, exponent_of, abs_in, inf_in, mag_in, negative_in, sign_in}
use Rattle.float.specs.ClassMeaning.{largest_in}
use Rattle.float.specs.Number.{infinite, finite, times}
use Rattle.float.specs.Order.{pattern_in}
use Rattle.float.proofs.Naturals.{lt_or_ge}
use Rattle.float.proofs.Magnitude.{abs_clear, abs_set, mag_rises, mag_largest}
use Rattle.float.proofs.Comparing.{pattern_infinite, pattern_finite}
use Rattle.float.proofs.Formats.{two_or_more, inf_range}
use Rattle.value.specs.Meaning.{step_of}
use Rattle.value.proofs.Units.{step_pos}
use Rattle.convert.specs.Convert.{encode_of, held_in, with_sign}
use Rattle.convert.proofs.Encode.{held_has}

-- ---- the sign bit

pub made_abs : (f : Format) (s : Bool) (x : ℕ) → x < sign_in f → abs_in f (with_sign f s x) ≡ x
made_abs f true x h = abs_set (fraction_of f) (exponent_of f) (sign_in f + x) (omega arith) ∙ omega arith
made_abs f false x h = abs_clear (fraction_of f) (exponent_of f) x h

pub made_sign : (f : Format) (s : Bool) (x : ℕ) → x < sign_in f → negative_in f (with_sign f s x) ≡ s
made_sign f true x h = let l : sign_in f ≤ sign_in f + x = omega arith in le-leb _ _ l
made_sign f false x h = lt-leb _ _ h

pub made_small : (f : Format) (s : Bool) (x : ℕ) → x < sign_in f → with_sign f s x < 2 * sign_in f
made_small f true x h = omega arith
made_small f false x h = omega arith

-- ---- the made pattern

-- in range and held: the encoded abs is below the infinity's
pub encode_below : (f : Format) (m : ℕ) → m ≤ largest_in f * step_of f → held_in f m ≡ true → encode_of f m < inf_in f
encode_below f m h k = elim (lt_or_ge (encode_of f m) (inf_in f)) [
  | inl l ↦ l
  | inr g ↦
      let i = (inf_range f).0 in
      let above : mag_in f (inf_in f - 1) < mag_in f (encode_of f m) = mag_rises (fraction_of f) _ _ (omega arith) in
      let more : largest_in f < mag_in f (encode_of f m) =
      subst (λ (n : ℕ). n < mag_in f (encode_of f m)) (mag_largest (fraction_of f) (exponent_of f) (two_or_more f)) above in
      let over : largest_in f * step_of f < m =
      subst (λ (n : ℕ). largest_in f * step_of f < n) (held_has f m k) (mul-lt-mul_of_pos_right more (step_pos f)) in
      absurd (omega arith)
]

pub finite_made : (f : Format) (s : Bool) (m : ℕ) → m ≤ largest_in f * step_of f → held_in f m ≡ true
    → times (step_of f) (pattern_in f (with_sign f s (encode_of f m))) ≡ finite s m
finite_made f s m h k =
    let b : encode_of f m < inf_in f = encode_below f m h k in
    let l : encode_of f m < sign_in f = omega (arith, (inf_range f).1) in
    let a = made_abs f s (encode_of f m) l in
    ap (times (step_of f)) (pattern_finite (fraction_of f) (exponent_of f) (with_sign f s (encode_of f m)) (subst (λ (n : ℕ). n < inf_in f) (sym a) b))
    ∙ cc (a, made_sign f s (encode_of f m) l, held_has f m k)

pub infinite_made : (f : Format) (s : Bool) → times (step_of f) (pattern_in f (with_sign f s (inf_in f))) ≡ infinite s
infinite_made f s =
    let i = inf_in f in
    ap (times (step_of f)) (pattern_infinite (fraction_of f) (exponent_of f) (with_sign f s i) (made_abs f s i (inf_range f).1))
    ∙ ap infinite (made_sign f s i (inf_range f).1)
