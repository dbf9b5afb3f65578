-- A float's value as a fraction, and what its bits stand for: each tells the other.
use mathlib.Core.Path.{◌≡◌, sym, ◌∙◌, ap}
use mathlib.Core.Bool.{Bool}
use Prim.Native.Nat.{ℕ, ◌*◌, ◌^◌, ◌<◌}
use native.Mathlib.Nat.{mul-one, mul_assoc, mul_right_comm, eq_of_mul-eq-mul_right}
use lib.Dec.{T}
use lib.Pow.{pow-add}
use lib.Ieee.{Float, nan, inf, fin, Format, low, top, up, down, fits, to_bits, of_bits}
use lib.Ieee.Exact.{HasValue}
use lib.Ieee.Fits.{down_pos}
use Rattle.float.specs.Language.{own_of}
use Rattle.float.specs.Format.{f32}
use Rattle.float.specs.Number.{Exact, finite}
use Rattle.float.specs.Order.{pattern_in}
use Rattle.float.proofs.Language.{Means, means_nan, means_inf, means_fin, pattern_means, float_means}
use Rattle.float.proofs.Tests.{clash}
use Rattle.value.specs.Meaning.{unit, step_of}

-- ---- a value in smallest steps of the format

means_value : (f : Format) (s : Bool) (a : ℕ) {x : Float} {X : Exact} → Means f x X → HasValue x s a (2 ^ low f) → X ≡ finite s a
means_value f s a means_nan v = absurd v
means_value f s a (means_inf t) v = absurd v
means_value f s a (means_fin t m e b q) v =
    let same : b ≡ a = eq_of_mul-eq-mul_right (down e) (down_pos e) b a (sym q ∙ v.1) in
    cc (v.0, same)

value_means : (f : Format) (s : Bool) (a : ℕ) {x : Float} {X : Exact} → Means f x X → X ≡ finite s a → HasValue x s a (2 ^ low f)
value_means f s a means_nan h = clash cc
value_means f s a (means_inf t) h = clash cc
value_means f s a (means_fin t m e b q) h = let same : b ≡ a = cc in (cc, q ∙ ap (λ (k : ℕ). k * down e) same)

module _ (f : Format) (x : Float) (s : Bool) (a : ℕ) (h : T (fits f x)) where
  pub value_pattern : HasValue x s a (2 ^ low f) → pattern_in (own_of f) (to_bits f x) ≡ finite s a
  value_pattern v = means_value f s a (float_means f x h) v

  pub pattern_value : pattern_in (own_of f) (to_bits f x) ≡ finite s a → HasValue x s a (2 ^ low f)
  pattern_value q = value_means f s a (float_means f x h) q

pub bits_value : (f : Format) (b : ℕ) (s : Bool) (a : ℕ) → b < 2 * top f → pattern_in (own_of f) b ≡ finite s a
    → HasValue (of_bits f b) s a (2 ^ low f)
bits_value f b s a h q = value_means f s a (pattern_means f b h) q

-- a whole number over 1 and over any other k
pub over_more : (x : Float) (s : Bool) (n k : ℕ) → HasValue x s n 1 → HasValue x s (n * k) k
over_more nan s n k v = v
over_more (inf t) s n k v = v
over_more (fin t m e) s n k v = (v.0, ap (λ (j : ℕ). j * k) (sym (mul-one (m * up e)) ∙ v.1) ∙ mul_right_comm n (down e) k)

pub over_one : (x : Float) (s : Bool) (n k : ℕ) → 0 < k → HasValue x s (n * k) k → HasValue x s n 1
over_one nan s n k p v = v
over_one (inf t) s n k p v = v
over_one (fin t m e) s n k p v = (v.0, mul-one (m * up e) ∙ eq_of_mul-eq-mul_right k p (m * up e) (n * down e) (v.1 ∙ mul_right_comm n k (down e)))

-- ---- an f32's steps in units of 2^-1074

pub steps_units : (n : ℕ) → n * 2 ^ 149 * step_of f32 ≡ n * unit
unfolding unit step_of
steps_units n = mul_assoc n (2 ^ 149) (2 ^ 925) ∙ ap (λ (k : ℕ). n * k) (sym (pow-add 2 149 925))
