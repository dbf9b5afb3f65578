-- Numbers laid into bytes, low byte first.
use Rattle.std.specs.Int.{bytes_low_first, byte_at, to_le_bytes}
use borrow.Rule.Slice.PartMut.{put_mid}
use Rattle.std.proofs.Common.{◌≡◌, ℕ, zero, suc, ◌+◌, ◌/◌, ◌%◌, ◌^◌, ◌≤◌, List, ◌∷◌, ◌++◌, length, take, drop, sym, refl, ap, ◌∙◌, ◌-◌, arith, w64}
use Rattle.std.proofs.Common.{append_assoc, le_of_suc-le-suc, not-suc-le-zero}
use native.Mathlib.Nat.{div-div-eq-div-mul, div-one, pow-suc}
use lib.Seq.{sets, sets-eq, drop-drop}
use Rattle.bytewise.specs.Numbers.{little_endian}
use Rattle.bytewise.proofs.LittleEndian.{length_little}

-- ---- a number's own bytes

byte_is : (i n : ℕ) → byte_at i n ≡ n / 256 ^ i % 256
byte_is zero n = ap (λ (m : ℕ). m % 256) (sym (div-one n))
byte_is (suc i) n = refl

-- the first w of the machine's bytes, from byte i on
low_bytes : (w k i n : ℕ) → w ≤ k → take w (bytes_low_first i k n) ≡ little_endian w (n / 256 ^ i)
unfolding little_endian
low_bytes zero k i n h = refl
low_bytes (suc w) zero i n h = absurd (not-suc-le-zero h)
low_bytes (suc w) (suc k) i n h =
    ap (λ (l : List ℕ). byte_at i n ∷ l) (low_bytes w k (suc i) n (le_of_suc-le-suc h))
    ∙ rw (byte_is i n, pow-suc 256 i, ← div-div-eq-div-mul n (256 ^ i) 256) refl

-- a part of a list, and what was laid over it
over_is : (l part : List ℕ) (at k w : ℕ) → k ≡ w → length part ≡ w → at + w ≤ length l → put_mid at k l part ≡ sets l at part
over_is l part at k w q size room =
    let behind : drop k (drop at l) ≡ drop (at + length part) l = drop-drop k at l ∙ ap (λ (m : ℕ). drop m l) (omega (arith, size)) in
    sym (sets-eq part l at (rw size room) ∙ append_assoc (take at l) part (drop (at + length part) l)
    ∙ ap (λ (r : List ℕ). take at l ++ (part ++ r)) (sym behind))

pub stored : (l part : List ℕ) (at w n : ℕ) → w ≤ 8 → at + w ≤ length l → part ≡ take w (to_le_bytes w64 n)
    → put_mid at (at + w - at) l part ≡ sets l at (little_endian w n)
stored l part at w n wide room q =
    let own : part ≡ little_endian w n = q ∙ low_bytes w 8 0 n wide ∙ ap (little_endian w) (div-one n) in
    let size : length part ≡ w = ap length own ∙ length_little w n in
    over_is l part at (at + w - at) w (omega arith) size room ∙ ap (sets l at) own
