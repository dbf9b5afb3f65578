-- An f16 and an f32 with the same sign stand for one number when the f32's magnitude, in its own steps, is 2^125 times the f16's: of an entry of the
-- table it is, and of every other pattern that keeps its fraction and moves its exponent by 112.
use mathlib.Core.Path.{◌≡◌, refl, sym, ◌∙◌, ap, subst}
use mathlib.Core.Bool.{Bool, false}
use Prim.Native.Nat.{ℕ, suc, ◌+◌, ◌-◌, ◌*◌, ◌/◌, ◌%◌, ◌^◌, ◌≤◌, ◌<◌}
use native.Mathlib.Nat.{one-mul, add-mul, mul_assoc, mul_right_comm, mul-le-mul_right, lt_of_lt_of_le, lt_of_le_of_lt, le-div_iff_mul-le}
use native.Mathlib.Nat.{add-zero, add-mul-div_right, mul-div-mul_right, add-mul-mod_self_right, mul-div_cancel, mul-mod_left}
use native.Mathlib.Omega.{arith}
use borrow.Author.Tests.{lt-leb}
use lib.Dec.{lit<, lit≤}
use lib.Ieee.{binary32}
use lib.Arith.{mod-mul}
use lib.Pow.{pow_pos, pow-add}
use Rattle.float.specs.Format.{f16, f32, abs_in, inf_in, mag_at, mag_of, mag_in, negative_in, sign_in}
use Rattle.float.specs.Number.{Exact, infinite, finite, is_none, times}
use Rattle.float.specs.Order.{pattern_in}
use Rattle.float.proofs.Comparing.{pattern_infinite, pattern_finite, pattern_clear}
use Rattle.float.proofs.Magnitude.{abs_clear, mag_reflects, mag_small}
use Rattle.half.specs.Small.{IsOver}
use Rattle.value.specs.declared.Kind.TheVariants as kind
use Rattle.value.specs.declared.Value.TheVariants.{F16}
use Rattle.value.specs.Meaning.{exact_of, f32_value, step_of}
use Rattle.value.specs.Outcome.{gives}
use Rattle.value.proofs.FloatBits.{bits_pattern}
use Rattle.convert.specs.Convert.{with_sign, made_in}
use Rattle.convert.specs.Inner.{into_of}
use Rattle.convert.proofs.Accepted.{accepts_float}
use Rattle.convert.proofs.Exactly.{into_gives}
use Rattle.convert.proofs.Patterns.{made_abs, made_sign, infinite_made}
use Rattle.convert.proofs.Returning.{pattern_again}

-- what an f32 pattern stands for is made that pattern
pub into_pattern : (c : ℕ) (x : Exact) → is_none x ≡ false → x ≡ times (step_of f32) (pattern_in f32 c) → into_of kind.F32 x ≡ gives (f32_value c)
unfolding made_in
into_pattern c x t q =
    let y = times (step_of f32) (pattern_in f32 c) in
    let some : is_none y ≡ false = ap is_none (sym q) ∙ t in
    ap (into_of kind.F32) q
    ∙ into_gives kind.F32 y (accepts_float f32 c y some refl)
    ∙ ap (λ (n : ℕ). gives (f32_value n)) (pattern_again f32 c some)

module _ (b r : ℕ) (below : abs_in f16 b < inf_in f16) (small : r < inf_in f32) (scaled : mag_in f32 r ≡ mag_in f16 (abs_in f16 b) * 2 ^ 125) where
  abbrev wide : ℕ
  wide = with_sign f32 (negative_in f16 b) r

  wide_means : pattern_in f32 wide ≡ finite (negative_in f16 b) (mag_in f16 (abs_in f16 b) * 2 ^ 125)
  wide_means =
      let low : r < sign_in f32 = omega arith in
      let abs : abs_in f32 wide ≡ r = made_abs f32 (negative_in f16 b) r low in
      pattern_finite 23 8 wide (subst (λ (n : ℕ). n < inf_in f32) (sym abs) small)
      ∙ ap (λ (s : Bool). finite s (mag_in f32 (abs_in f32 wide))) (made_sign f32 (negative_in f16 b) r low)
      ∙ ap (λ (n : ℕ). finite (negative_in f16 b) (mag_in f32 n)) abs
      ∙ ap (finite (negative_in f16 b)) scaled

  same_exact : exact_of (F16 b) ≡ times (step_of f32) (pattern_in f32 wide)
  unfolding step_of
  same_exact =
      ap (times (2 ^ 1050)) (pattern_finite 10 5 b below)
      ∙ ap (finite (negative_in f16 b)) (sym (mul_assoc (mag_in f16 (abs_in f16 b)) (2 ^ 125) (2 ^ 925)))
      ∙ sym (ap (times (2 ^ 925)) wide_means)

  pub half_moved : into_of kind.F32 (exact_of (F16 b)) ≡ gives (f32_value wide)
  half_moved = into_pattern wide (exact_of (F16 b)) (ap (λ (x : Exact). is_none (times (step_of f16) x)) (pattern_finite 10 5 b below)) same_exact

-- ---- exponent field 0: by the table

below_last : (m : ℕ) → m < 1024 → m ≤ 1023
below_last m h = omega arith

pub entry_small : (m r : ℕ) → m < 1024 → IsOver m r → r ≤ 0x387f_c000
unfolding mag_of
entry_small m r h over =
    mag_reflects 23 r 0x387f_c000 (subst (λ (n : ℕ). n ≤ 1023 * 2 ^ 125) (sym over) (mul-le-mul_right (2 ^ 125) (below_last m h)))

pub low_moved : (b r : ℕ) → abs_in f16 b < 1024 → IsOver (abs_in f16 b) r
    → into_of kind.F32 (exact_of (F16 b)) ≡ gives (f32_value (with_sign f32 (negative_in f16 b) r))
low_moved b r low over =
    half_moved b r (lt_of_lt_of_le low (lit≤ tt)) (lt_of_le_of_lt (entry_small (abs_in f16 b) r low over) (lit< tt))
    (over ∙ sym (ap (λ (n : ℕ). n * 2 ^ 125) (mag_small 10 (abs_in f16 b) low)))

-- the entry at place m is m over 2^24 and the f32 of the f16 with the bits m
module _ (m r : ℕ) (h : m < 1024) (over : IsOver m r) where
  pub entry_means : exact_of (f32_value r) ≡ finite false (m * 2 ^ 1050)
  unfolding step_of
  entry_means =
      let last : r < inf_in f32 = lt_of_le_of_lt (entry_small m r h over) (lit< tt) in
      ap (λ (n : ℕ). times (2 ^ 925) (pattern_in f32 n)) (bits_pattern binary32 r (lt_of_lt_of_le last (lit≤ tt)))
      ∙ ap (times (2 ^ 925)) (pattern_clear 23 8 r last (lit≤ tt))
      ∙ ap (λ (n : ℕ). finite false (n * 2 ^ 925)) over
      ∙ ap (finite false) (mul_assoc m (2 ^ 125) (2 ^ 925))

  pub entry_moved : into_of kind.F32 (exact_of (F16 m)) ≡ gives (f32_value r)
  entry_moved =
      let clear : m < sign_in f16 = lt_of_lt_of_le h (lit≤ tt) in
      let abs : abs_in f16 m ≡ m = abs_clear 10 5 m clear in
      low_moved m r (subst (λ (n : ℕ). n < 1024) (sym abs) h) (subst (λ (n : ℕ). IsOver n r) (sym abs) over)
      ∙ ap (λ (s : Bool). gives (f32_value (with_sign f32 s r))) (lt-leb _ _ clear)

-- ---- any other exponent field: the fraction is kept, the exponent moves

regroup : (m a b c : ℕ) → m * a * (b * c) ≡ m * b * (a * c)
regroup m a b c = sym (mul_assoc (m * a) b c) ∙ ap (λ (n : ℕ). n * c) (mul_right_comm m a b) ∙ mul_assoc (m * b) a c

-- over the widths: d fraction bits more, and an exponent field that is j more
module _ (p d j x : ℕ) (normal : 2 ^ p ≤ x) where
  abbrev moved : ℕ
  moved = x * 2 ^ d + j * 2 ^ (p + d)

  wider_weight : 2 ^ (p + d) ≡ 2 ^ p * 2 ^ d
  wider_weight = pow-add 2 p d

  moved_field : moved / 2 ^ (p + d) ≡ x / 2 ^ p + j
  moved_field =
      add-mul-div_right (x * 2 ^ d) j (pow_pos (p + d))
      ∙ ap (λ (n : ℕ). x * 2 ^ d / n + j) wider_weight
      ∙ ap (λ (n : ℕ). n + j) (mul-div-mul_right x (2 ^ p) (pow_pos d))

  moved_fraction : moved % 2 ^ (p + d) ≡ x % 2 ^ p * 2 ^ d
  moved_fraction =
      add-mul-mod_self_right (x * 2 ^ d) j (2 ^ (p + d))
      ∙ ap (λ (n : ℕ). x * 2 ^ d % n) wider_weight
      ∙ mod-mul (x * 2 ^ d) (pow_pos p) (pow_pos d)
      ∙ ap (λ (n : ℕ). n % 2 ^ p * 2 ^ d + x * 2 ^ d % 2 ^ d) (mul-div_cancel x (pow_pos d))
      ∙ ap (λ (n : ℕ). x % 2 ^ p * 2 ^ d + n) (mul-mod_left x (2 ^ d))
      ∙ add-zero (x % 2 ^ p * 2 ^ d)

  mag_moved : mag_of (p + d) moved ≡ mag_of p x * 2 ^ (d + j)
  unfolding mag_of
  mag_moved =
      let k = x / 2 ^ p - 1 in
      let some : 1 ≤ x / 2 ^ p = (le-div_iff_mul-le {k = 2 ^ p} {x = 1} {y = x} (pow_pos p)).1 (subst (λ (n : ℕ). n ≤ x) (sym (one-mul (2 ^ p))) normal) in
      let field : x / 2 ^ p ≡ suc k = omega arith in
      let front : moved / 2 ^ (p + d) ≡ suc (k + j) = moved_field ∙ omega arith in
      let f = x % 2 ^ p in
      ap (λ (n : ℕ). mag_at (p + d) n (moved % 2 ^ (p + d))) front
      ∙ ap (λ (n : ℕ). (2 ^ (p + d) + n) * 2 ^ (k + j)) moved_fraction
      ∙ ap (λ (n : ℕ). (n + f * 2 ^ d) * 2 ^ (k + j)) wider_weight
      ∙ ap (λ (n : ℕ). n * 2 ^ (k + j)) (sym (add-mul (2 ^ p) f (2 ^ d)))
      ∙ ap (λ (n : ℕ). (2 ^ p + f) * 2 ^ d * n) (pow-add 2 k j)
      ∙ regroup (2 ^ p + f) (2 ^ d) (2 ^ k) (2 ^ j)
      ∙ ap (λ (n : ℕ). (2 ^ p + f) * 2 ^ k * n) (sym (pow-add 2 d j))
      ∙ ap (λ (n : ℕ). mag_at p n f * 2 ^ (d + j)) (sym field)

pub high_moved : (b : ℕ) → 1024 ≤ abs_in f16 b → abs_in f16 b < inf_in f16
    → into_of kind.F32 (exact_of (F16 b)) ≡ gives (f32_value (with_sign f32 (negative_in f16 b) (abs_in f16 b * 0x2000 + 0x3800_0000)))
high_moved b normal below = half_moved b (abs_in f16 b * 0x2000 + 0x3800_0000) below (omega arith) (mag_moved 10 13 112 (abs_in f16 b) normal)

-- ---- an infinity

pub infinite_moved : (b : ℕ) → abs_in f16 b ≡ inf_in f16 →
    into_of kind.F32 (exact_of (F16 b)) ≡ gives (f32_value (with_sign f32 (negative_in f16 b) (inf_in f32)))
infinite_moved b q =
    let is : exact_of (F16 b) ≡ infinite (negative_in f16 b) = ap (times (step_of f16)) (pattern_infinite 10 5 b q) in
    into_pattern (with_sign f32 (negative_in f16 b) (inf_in f32)) (exact_of (F16 b)) (ap is_none is) (is ∙ sym (infinite_made f32 (negative_in f16 b)))
