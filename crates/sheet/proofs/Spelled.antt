-- The fewest digits that hold a number are those that the definitions spell.
use Rattle.std.specs.Prelude.{None, Some}
use mathlib.Core.Path.{◌≡◌, refl, ap}
use mathlib.Core.Logic.{inl, inr}
use mathlib.Core.List.{List, [], ◌∷◌, ◌++◌}
use Prim.Native.Nat.{ℕ, zero, suc, ◌-◌, ◌/◌, ◌%◌, ◌^◌, ◌≤◌, ◌<◌}
use native.Mathlib.Nat.{pow-suc, pow-le-pow_right, one-le-pow}
use native.Mathlib.Omega.{arith}
use borrow.Author.Tests.{lt-ltb, le-ltb}
use Rattle.io.specs.Digits.{hex_digit_ascii, last_digits, IsDigitCount}
use Rattle.float.proofs.Naturals.{lt_or_ge}
use Rattle.sheet.specs.Lines.{decimal_in, decimal_digits, extreme_digits}

-- of a number below 10 the one digit, of another the digits of its tenth and one more
decimal_in_lem : (k n r : ℕ) → r ≤ k → IsDigitCount 10 1 n r → last_digits 10 r n ≡ decimal_in k n
decimal_in_lem zero n r h f = absurd (omega (arith, f.0))
decimal_in_lem (suc k) n zero h f = absurd (omega (arith, f.0))
decimal_in_lem (suc k) n (suc zero) h f =
    let low : n < 10 = omega (arith, f.1) in
    let e : n % 10 ≡ n = omega arith in
    rw (e, lt-ltb n 10 low) refl
decimal_in_lem (suc k) n (suc (suc r)) h f =
    let less : suc (suc r) - 1 ≡ suc r = omega arith in
    let least : 10 ^ suc r ≤ n = rw less at (f.2 (omega arith)) in
    let more : 10 ≤ n = omega (arith, pow-suc 10 r, one-le-pow r 10 (omega arith)) in
    let tenth : IsDigitCount 10 1 (n / 10) (suc r) =
    (omega arith, omega (arith, pow-suc 10 (suc r), f.1), λ l. let e : suc r - 1 ≡ r = omega arith in rw e (omega (arith, pow-suc 10 r))) in
    rw (le-ltb n 10 more) (ap (λ (l : List ℕ). l ++ (hex_digit_ascii (n % 10) ∷ [])) (decimal_in_lem k (n / 10) (suc r) (omega arith) tenth))

pub decimal_spelled : (n r : ℕ) → r ≤ 20 → IsDigitCount 10 1 n r → last_digits 10 r n ≡ decimal_digits n
unfolding decimal_digits
decimal_spelled = decimal_in_lem 20

-- a number that some places hold takes no more, unless more are asked for
pub fewest_most : (b least most n r : ℕ) → 0 < b → least ≤ most → n < b ^ most → IsDigitCount b least n r → r ≤ most
fewest_most b least most n r some h below f = elim (lt_or_ge most r) [
  | inl l ↦ let g : most ≤ r - 1 = omega arith in absurd (omega (arith, f.2 (omega arith), pow-le-pow_right some g))
  | inr g ↦ g
]

pub hex_spelled : (n r : ℕ) → r ≡ 8 → last_digits 16 r n ≡ extreme_digits (Some n)
unfolding extreme_digits
hex_spelled n r e = ap (λ (k : ℕ). last_digits 16 k n) e

pub nothing_spelled : 45 ∷ [] ≡ extreme_digits None
unfolding extreme_digits
nothing_spelled = refl
