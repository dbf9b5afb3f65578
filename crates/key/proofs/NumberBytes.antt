-- Bytes laid into a buffer, and the bytes of a number, high byte first: the last of eight.
use mathlib.Core.Path.{◌≡◌, refl, sym, ◌∙◌, ap}
use mathlib.Core.List.{List, [], ◌∷◌, ◌++◌, append_assoc}
use Prim.Native.Nat.{ℕ, zero, suc, ◌+◌, ◌-◌, ◌*◌, ◌/◌, ◌%◌, ◌^◌, ◌≤◌, ◌<◌}
use native.Mathlib.Nat.{add_assoc, add-zero, pow-suc, pow-succ', div-div-eq-div-mul, pow-le-pow_right, lt_of_lt_of_le, zero-lt-suc}
use native.Mathlib.Numerals.{add-one}
use native.Mathlib.Omega.{arith}
use lib.ListN.{length, take, drop, get_or, length-append, length-drop, take-append-drop}
use lib.Seq.{length-take-le, take_all, take_at, drop_at, drop-drop, take-suc}
use borrow.Rule.Slice.PartMut.{put_mid}
use Rattle.std.specs.Int.{w64, byte_at, bytes_high_first, to_be_bytes}
use Rattle.bytewise.specs.Numbers.{big_endian, from_big_endian}
use Rattle.key.specs.Inner.{put}
use Rattle.bytewise.proofs.BigEndian.{length_big, number_snoc}

-- ---- laying bytes

pub put_nil : (at : ℕ) (l : List ℕ) → put at [] l ≡ l
unfolding put
put_nil at l = rw (add-zero at) (take-append-drop at l)

module _ (at : ℕ) (k l : List ℕ) (h : at + length k ≤ length l) where
  head_length : length (take at l ++ k) ≡ at + length k
  head_length = length-append (take at l) k ∙ ap (λ (j : ℕ). j + length k) (length-take-le at l (omega arith))

  put_split : put at k l ≡ (take at l ++ k) ++ drop (at + length k) l
  unfolding put
  put_split = sym (append_assoc (take at l) k (drop (at + length k) l))

  pub length_put : length (put at k l) ≡ length l
  length_put = rw (put_split, length-append, head_length, length-drop) (omega arith)

  -- more bytes behind them
  pub put_put : (m : List ℕ) → put (at + length k) m (put at k l) ≡ put at (k ++ m) l
  unfolding put
  put_put m =
      let q : List ℕ = drop (at + length k) l in
      let head : take (at + length k) (put at k l) ≡ take at l ++ k =
      ap (take (at + length k)) put_split ∙ take_at (take at l ++ k) q (at + length k) head_length in
      let tail : drop (at + length k + length m) (put at k l) ≡ drop (at + length (k ++ m)) l =
      ap (drop (at + length k + length m)) put_split
      ∙ sym (drop-drop (length m) (at + length k) ((take at l ++ k) ++ q))
      ∙ ap (drop (length m)) (drop_at (take at l ++ k) q (at + length k) head_length)
      ∙ drop-drop (length m) (at + length k) l
      ∙ ap (λ (j : ℕ). drop j l) (add_assoc at (length k) (length m) ∙ ap (λ (j : ℕ). at + j) (sym (length-append k m))) in
      rw (head, tail) (simp append_assoc)

-- what was written in a part of the buffer was laid there
pub mid_put : (at k : ℕ) (l part : List ℕ) → k ≡ length part → put_mid at k l part ≡ put at part l
unfolding put
mid_put at k l part e = rw (e, drop-drop (length part) at l)

-- the part is as long as it was asked for
pub part_length : (at k : ℕ) (l : List ℕ) → at + k ≤ length l → length (take (at + k - at) (drop at l)) ≡ k
part_length at k l h = length-take-le (at + k - at) (drop at l) (rw length-drop (omega arith)) ∙ omega arith

-- ---- writing a number: the last bytes of eight

high_behind : (j k n : ℕ) → drop j (bytes_high_first (j + k) n) ≡ bytes_high_first k n
high_behind zero k n = ap (λ (i : ℕ). bytes_high_first i n) (let e : 0 + k ≡ k = omega arith in e)
high_behind (suc j) k n = ap (λ (i : ℕ). drop (suc j) (bytes_high_first i n)) (let e : suc j + k ≡ suc (j + k) = omega arith in e) ∙ high_behind j k n

byte_behind : (k n : ℕ) → byte_at (suc k) n ≡ byte_at k (n / 256)
byte_behind zero n = refl
byte_behind (suc k) n = ap (λ (q : ℕ). q % 256) (ap (λ (m : ℕ). n / m) (pow-succ' 256 (suc k)) ∙ sym (div-div-eq-div-mul n 256 (256 ^ suc k)))

high_last : (k n : ℕ) → bytes_high_first (suc k) n ≡ bytes_high_first k (n / 256) ++ (n % 256 ∷ [])
high_last zero n = refl
high_last (suc k) n =
    ap (λ (x : ℕ). x ∷ bytes_high_first (suc k) n) (byte_behind k n)
    ∙ ap (λ (l : List ℕ). byte_at k (n / 256) ∷ l) (high_last k n)

high_big : (k n : ℕ) → bytes_high_first k n ≡ big_endian k n
unfolding big_endian
high_big zero n = refl
high_big (suc k) n = high_last k n ∙ ap (λ (l : List ℕ). l ++ (n % 256 ∷ [])) (high_big k (n / 256))

-- as many of the eight as there are places
pub last_bytes : (k n : ℕ) → k ≤ 8 → take (8 - (8 - k)) (drop (8 - k) (to_be_bytes w64 n)) ≡ big_endian k n
last_bytes k n h =
    let e : 8 - k + k ≡ 8 = omega arith in
    let behind : drop (8 - k) (to_be_bytes w64 n) ≡ big_endian k n =
    sym (ap (λ (i : ℕ). drop (8 - k) (bytes_high_first i n)) e) ∙ high_behind (8 - k) k n ∙ high_big k n in
    ap (take (8 - (8 - k))) behind ∙ take_all (8 - (8 - k)) (big_endian k n) (rw (length_big k n) (omega arith))

-- ---- reading a number: the first i bytes make m

module _ (bytes : List ℕ) where
  abbrev pub Gathered : ℕ → ℕ → Type 0
  Gathered m i = (m ≡ from_big_endian 0 (take i bytes)) × (m < 256 ^ i)

  pub gather_none : Gathered 0 0
  unfolding from_big_endian
  gather_none = (refl, omega arith)

  module _ (m i x : ℕ) (g : Gathered m i) (b : x < 256) where
    next_below : m * 256 + x < 256 ^ suc i
    next_below = rw (pow-suc 256 i) (omega (arith, g.1))

    -- so far it fits a word
    pub gather_room : i < 8 → m * 256 + x < 2 ^ 64
    gather_room h = lt_of_lt_of_le next_below (pow-le-pow_right (zero-lt-suc 255) (let k : suc i ≤ 8 = omega arith in k))

    pub gather_step : i < length bytes → x ≡ get_or bytes i 0 → Gathered (m * 256 + x) (i + 1)
    gather_step h q = rw (add-one i) (
      rw (take-suc bytes i 0 h, ← q, number_snoc 0 (take i bytes) x, ← g.0),
      next_below,
    )
