-- Bytes and their numbers, low byte first.
use mathlib.Core.Path.{◌≡◌, refl, ap}
use mathlib.Core.List.{List, [], ◌∷◌}
use Prim.Native.Nat.{ℕ, zero, suc, ◌/◌, ◌^◌, ◌<◌}
use native.Mathlib.Nat.{pow-suc}
use native.Mathlib.Omega.{arith}
use lib.ListN.{length, take, get_or}
use Rattle.std.specs.Int.{from_le_bytes}
use Rattle.std.proofs.Common.{w16, w32}
use Rattle.bytewise.specs.Numbers.{little_endian, from_little_endian}

pub length_little : (w n : ℕ) → length (little_endian w n) ≡ w
unfolding little_endian
length_little zero n = refl
length_little (suc w) n = ap suc (length_little w (n / 256))

pub number_below : (w : ℕ) (bytes : List ℕ) → ((i : ℕ) → get_or bytes i 0 < 256) → from_little_endian (take w bytes) < 256 ^ w
unfolding from_little_endian
number_below zero bytes h = omega arith
number_below (suc w) [] h = rw (pow-suc 256 w) (let k = number_below w [] h in omega arith)
number_below (suc w) (x ∷ bytes) h = rw (pow-suc 256 w) (let k = number_below w bytes (λ i. h (suc i)) in let l = h 0 in omega (arith, k, l))

-- ---- two and four bytes are one number, by the machine's words and by the definition's

pub two_are : (l : List ℕ) → length l ≡ 2 → from_le_bytes w16 l ≡ from_little_endian l
unfolding from_little_endian
two_are (a ∷ b ∷ []) h = omega arith
two_are [] h = absurd (omega (arith, h))
two_are (a ∷ []) h = absurd (omega (arith, h))
two_are (a ∷ b ∷ c ∷ l) h = absurd (omega (arith, h))

pub four_are : (l : List ℕ) → length l ≡ 4 → from_le_bytes w32 l ≡ from_little_endian l
unfolding from_little_endian
four_are (a ∷ b ∷ c ∷ d ∷ []) h = omega arith
four_are [] h = absurd (omega (arith, h))
four_are (a ∷ []) h = absurd (omega (arith, h))
four_are (a ∷ b ∷ []) h = absurd (omega (arith, h))
four_are (a ∷ b ∷ c ∷ []) h = absurd (omega (arith, h))
four_are (a ∷ b ∷ c ∷ d ∷ e ∷ l) h = absurd (omega (arith, h))
