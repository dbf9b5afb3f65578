-- Keys of float patterns, over (p, e): in range, ordered as what the patterns stand for, read back with minus zero made plus zero, and written back.
-- A key is the signed abs moved up by the sign's weight, with the one place of minus zero left out; so it orders as signed abs do.
use mathlib.Core.Path.{◌≡◌, refl, ◌∙◌}
use mathlib.Core.Logic.{inl, inr}
use mathlib.Core.Bool.{true, false, ◌||◌, cond}
use Prim.Native.Nat.{ℕ, zero, suc, ◌+◌, ◌-◌, ◌*◌, ◌≤◌, ◌<◌}
use native.Mathlib.Omega.{arith}
use borrow.Author.Tests.{lt-ltb, le-ltb, lt-leb, le-leb, eq-eqb, ne_eqb, ltb-false}
use lib.Dec.{eqb}
use lib.Pow.{pow_pos}
use lib.IntN.{ℤ, nat_abs}
use Rattle.float.specs.Format.{sign_of, inf_of, negative_of, abs_of, nan_of}
use Rattle.float.specs.Number.{signed_of}
use Rattle.float.specs.Order.{order_n, compare_of}
use Rattle.float.proofs.Naturals.{lt_or_ge, three_ways}
use Rattle.float.proofs.Magnitude.{abs_clear, abs_set, abs_lt, abs_signed}
use Rattle.float.proofs.Comparing.{compare_signed}
use Rattle.key.specs.Key.{float_key, pattern_from}
use Rattle.key.proofs.SignedKeys.{spread, spread_order}

module _ (p e : ℕ) where
  weight : 0 < sign_of p e
  weight = pow_pos (p + e)

  -- ---- the key of a pattern

  key_clear : (b : ℕ) → b < sign_of p e → float_key (sign_of p e) b ≡ sign_of p e + b
  key_clear b h = simp (ne_eqb b (sign_of p e) (λ q. omega arith), lt-leb _ _ h)

  key_zero : (b : ℕ) → b ≡ sign_of p e → float_key (sign_of p e) b ≡ sign_of p e
  key_zero b q = simp (eq-eqb b (sign_of p e) q)

  key_set : (b : ℕ) → sign_of p e < b → float_key (sign_of p e) b ≡ 2 * sign_of p e - 1 - b
  key_set b h = let l : sign_of p e ≤ b = omega arith in simp (ne_eqb b (sign_of p e) (λ q. omega arith), le-leb _ _ l)

  pub key_below : (b : ℕ) → b < 2 * sign_of p e → float_key (sign_of p e) b < 2 * sign_of p e
  key_below b h = let z = weight in elim (three_ways b (sign_of p e)) [
    | inl l ↦ rw (key_clear b l) (omega arith)
    | inr (inl q) ↦ rw (key_zero b q) (omega arith)
    | inr (inr g) ↦ rw (key_set b g) (omega arith)
  ]

  -- ---- the order

  -- abs, read with the sign
  abbrev signed_abs : ℕ → ℤ
  signed_abs b = signed_of (negative_of p e b) (abs_of p e b)

  spread_minus : (s m : ℕ) → 0 < m → spread 1 s (signed_of true m) ≡ s - suc m
  spread_minus s zero h = absurd (omega arith)
  spread_minus s (suc m) h = omega arith

  key_spread : (b : ℕ) → float_key (sign_of p e) b ≡ spread 1 (sign_of p e) (signed_abs b)
  key_spread b = elim (three_ways b (sign_of p e)) [
    | inl l ↦ rw (key_clear b l, lt-leb _ _ l, abs_clear p e b l)
    | inr (inl q) ↦
        let g : sign_of p e ≤ b = omega arith in
        let z : b - sign_of p e ≡ 0 = omega arith in
        rw (key_zero b q, le-leb _ _ g, abs_set p e b g, z) (omega arith)
    | inr (inr l) ↦
        let g : sign_of p e ≤ b = omega arith in
        rw (key_set b l, le-leb _ _ g, abs_set p e b g, spread_minus (sign_of p e) (b - sign_of p e) (omega arith)) (omega arith)
  ]

  reaches : (b : ℕ) → b < 2 * sign_of p e → nat_abs (signed_abs b) + 1 ≤ sign_of p e
  reaches b h = rw (abs_signed (negative_of p e b) (abs_of p e b)) (omega (arith, abs_lt p e b h))

  -- two patterns that are no NaN
  pub key_order : (a b : ℕ) → 0 < inf_of p e → a < 2 * sign_of p e → b < 2 * sign_of p e → nan_of p e a ≡ false → nan_of p e b ≡ false
      → order_n (float_key (sign_of p e) a) (float_key (sign_of p e) b) ≡ compare_of p e a b
  key_order a b i h k m n =
      rw (key_spread a, key_spread b) (spread_order 1 (sign_of p e) (signed_abs a) (signed_abs b) (reaches a h) (reaches b k))
      ∙ compare_signed p e a b i refl refl (ltb-false _ _ m) (ltb-false _ _ n) refl refl

  -- ---- the pattern of a key

  from_low : (n : ℕ) → n < sign_of p e → pattern_from (sign_of p e) n ≡ 2 * sign_of p e - 1 - n
  from_low n h = simp (lt-ltb _ _ h)

  from_high : (n : ℕ) → sign_of p e ≤ n → pattern_from (sign_of p e) n ≡ n - sign_of p e
  from_high n h = simp (le-ltb _ _ h)

  pub from_below : (n : ℕ) → n < 2 * sign_of p e → pattern_from (sign_of p e) n < 2 * sign_of p e
  from_below n h = elim (lt_or_ge n (sign_of p e)) [
    | inl l ↦ rw (from_low n l) (omega arith)
    | inr g ↦ rw (from_high n g) (omega arith)
  ]

  -- minus zero has become plus zero, and nothing else has changed
  pub from_key : (b : ℕ) → b < 2 * sign_of p e → pattern_from (sign_of p e) (float_key (sign_of p e) b) ≡ cond (eqb b (sign_of p e)) 0 b
  from_key b h = elim (three_ways b (sign_of p e)) [
    | inl l ↦
        let g : sign_of p e ≤ sign_of p e + b = omega arith in
        rw (key_clear b l, from_high (sign_of p e + b) g, ne_eqb b (sign_of p e) (λ q. omega arith)) (omega arith)
    | inr (inl q) ↦ rw (key_zero b q, from_high (sign_of p e) (omega arith), eq-eqb b (sign_of p e) q) (omega arith)
    | inr (inr l) ↦
        let k : 2 * sign_of p e - 1 - b < sign_of p e = omega arith in
        rw (key_set b l, from_low (2 * sign_of p e - 1 - b) k, ne_eqb b (sign_of p e) (λ q. omega arith)) (omega arith)
  ]

  -- so it is canonical when the pattern is no NaN
  pub key_canonical : (b : ℕ) → b < 2 * sign_of p e → nan_of p e b ≡ false
      → (nan_of p e (pattern_from (sign_of p e) (float_key (sign_of p e) b)) || eqb (pattern_from (sign_of p e) (float_key (sign_of p e) b)) (sign_of p e))
      ≡ false
  key_canonical b h n = rw (from_key b h) (elim (three_ways b (sign_of p e)) [
    | inl l ↦ let d = ne_eqb b (sign_of p e) (λ q. omega arith) in rw (d, n, d)
    | inr (inl q) ↦
        let z = weight in
        rw (eq-eqb b (sign_of p e) q, abs_clear p e 0 z, le-ltb (inf_of p e) 0 (omega arith), ne_eqb 0 (sign_of p e) (λ r. omega arith))
    | inr (inr g) ↦ let d = ne_eqb b (sign_of p e) (λ q. omega arith) in rw (d, n, d)
  ])

  -- a number is the key of its pattern, unless that is minus zero
  pub key_from : (n : ℕ) → n < 2 * sign_of p e → (pattern_from (sign_of p e) n ≡ sign_of p e → ⊥) → float_key (sign_of p e) (pattern_from (sign_of p e) n) ≡ n
  key_from n h c = elim (lt_or_ge n (sign_of p e)) [
    | inl l ↦
        let d : 2 * sign_of p e - 1 - n ≡ sign_of p e → ⊥ = λ q. c (from_low n l ∙ q) in
        rw (from_low n l) (elim (three_ways (2 * sign_of p e - 1 - n) (sign_of p e)) [
          | inl k ↦ absurd (omega arith)
          | inr (inl q) ↦ absurd (d q)
          | inr (inr g) ↦ key_set (2 * sign_of p e - 1 - n) g ∙ omega arith
        ])
    | inr g ↦ rw (from_high n g) (key_clear (n - sign_of p e) (omega arith) ∙ omega arith)
  ]
