-- Which case of a digit's definition the tests pick, and how a number goes on by one digit.
use Rattle.std.specs.Prelude.{Option, None, Some, MatchOption}
use Rattle.std.specs.Bool.{then_some}
use Rattle.std.specs.Cmp.{first_so, second_so}
use Prim.Native.Nat.{ℕ, ◌+◌, ◌-◌, ◌*◌, ◌^◌, ◌≤◌, ◌<◌}
use mathlib.Core.Path.{◌≡◌, refl, sym, ◌∙◌, ap}
use mathlib.Core.Bool.{Bool, true, false, cond, and-false}
use mathlib.Core.List.{List}
use mathlib.Core.Logic.{inl, inr}
use native.Mathlib.Numerals.{add-one}
use native.Mathlib.Omega.{arith}
use borrow.Author.Tests.{eq-eqb, ne_eqb, eqb-true, le-leb, lt-leb, lt-ltb, le-ltb, ltb-true}
use lib.Dec.{ltb}
use lib.ListN.{length, get_or, drop, drop_of_length-le}
use lib.Seq.{drop-cons}
use Rattle.float.proofs.Naturals.{lt_or_ge}
use Rattle.text.specs.Digits.{within, digit_of, below, digit_in, with_digit, with_word, number_from, hex_of, zero_ahead, decimal_of}

-- ---- a range

pub within_inside : (low high n : ℕ) → low ≤ n → n ≤ high → within low high n ≡ true
within_inside low high n a b = simp (le-leb _ _ a, le-leb _ _ b)

pub within_below : (low high n : ℕ) → n < low → within low high n ≡ false
within_below low high n a = simp (lt-leb _ _ a)

pub within_above : (low high n : ℕ) → high < n → within low high n ≡ false
within_above low high n a = simp (lt-leb _ _ a, and-false)

outside : (low high n : ℕ) → (low ≤ n → high < n) → within low high n ≡ false
outside low high n h = elim (lt_or_ge n low) [ inl l ↦ within_below low high n l | inr g ↦ within_above low high n (h g) ]

-- ---- a digit

pub digit_decimal : (b : ℕ) → 48 ≤ b → b < 58 → Some (b - 48) ≡ digit_of b
unfolding digit_of
digit_decimal b l h = let k : b ≤ 57 = omega arith in simp (within_inside 48 57 b l k)

pub digit_letter : (b : ℕ) → 97 ≤ b → b < 103 → Some (b - 97 + 10) ≡ digit_of b
unfolding digit_of
digit_letter b l h =
    let m : 57 < b = omega arith in
    let k : b ≤ 102 = omega arith in
    simp (within_above 48 57 b m, within_inside 97 102 b l k)

pub no_digit : (b : ℕ) → (48 ≤ b → 57 < b) → (97 ≤ b → 102 < b) → None ≡ digit_of b
unfolding digit_of
no_digit b m k = rw (outside 48 57 b m, outside 97 102 b k) refl

-- ---- a digit of a base

-- what a filter by the base gives
pub filtered : (base : ℕ) (Q : ℕ → Bool → Type 0) → ((d : ℕ) (t : Bool) → Q d t → t ≡ ltb d base) → (o : Option ℕ) {r : Option ℕ}
    → MatchOption o (r ≡ None) (λ d. (t : Bool) × Q d t × (r ≡ then_some t d)) → r ≡ below base o
filtered base Q told None h = h
filtered base Q told (Some d) (t, q, h) = h ∙ chosen t ∙ ap (λ u. cond u (Some d) None) (told d t q)
  where
    chosen : (t : Bool) → then_some t d ≡ cond t (Some d) None
    chosen true = refl
    chosen false = refl

-- ---- a number

-- i bytes are read, and n is the number so far
module _ (base : ℕ) (s : List ℕ) (i n : ℕ) {all : Option ℕ} (kept : number_from base (drop i s) n ≡ all) where
  pub number_ends : length s ≤ i → Some n ≡ all
  unfolding number_from
  number_ends h = sym (rw (drop_of_length-le s h) refl) ∙ kept

  abbrev next : Option ℕ → Option ℕ
  next x = with_digit x (λ d. with_word (n * base + d) (λ m. number_from base (drop (i + 1) s) m))

  number_next : i < length s → next (digit_in base (get_or s i 0)) ≡ all
  unfolding number_from digit_in
  number_next h = sym (rw (drop-cons s i 0 h, add-one) refl) ∙ kept

  pub number_stops : i < length s → None ≡ digit_in base (get_or s i 0) → None ≡ all
  number_stops h e = ap next e ∙ number_next h

  module _ (d : ℕ) (h : i < length s) (e : Some d ≡ digit_in base (get_or s i 0)) where
    pub number_large : ¬ (n * base + d < 2 ^ 64) → None ≡ all
    number_large l = sym (rw (le-ltb (n * base + d) (2 ^ 64) (omega arith)) refl) ∙ ap next e ∙ number_next h

    pub number_more : {m : ℕ} → (n * base + d < 2 ^ 64) × (m ≡ n * base + d) → number_from base (drop (i + 1) s) m ≡ all
    number_more (l, q) = ap (number_from base (drop (i + 1) s)) q ∙ sym (rw (lt-ltb _ _ l) refl) ∙ ap next e ∙ number_next h

-- ---- how many digits there are

module _ (s : List ℕ) where
  pub hex_counted : 1 ≤ length s → length s ≤ 16 → number_from 16 s 0 ≡ hex_of s
  unfolding hex_of
  hex_counted h l = simp (within_inside 1 16 (length s) h l)

  pub hex_empty : length s < 1 → None ≡ hex_of s
  unfolding hex_of
  hex_empty h = simp (within_below 1 16 (length s) h)

  pub hex_long : 16 < length s → None ≡ hex_of s
  unfolding hex_of
  hex_long h = simp (within_above 1 16 (length s) h)

  pub decimal_empty : length s ≡ 0 → None ≡ decimal_of s
  unfolding decimal_of
  decimal_empty h = rw (eq-eqb _ _ h) refl

  decimal_tested : 0 < length s → cond (zero_ahead s) None (number_from 10 s 0) ≡ decimal_of s
  unfolding decimal_of
  decimal_tested h = rw (ne_eqb (length s) 0 (omega arith)) refl

  pub decimal_padded : 1 < length s → get_or s 0 0 ≡ 48 → None ≡ decimal_of s
  decimal_padded h e = rw (lt-ltb _ _ h, eq-eqb _ _ e) refl ∙ decimal_tested (omega arith)

  -- one digit, or a first one that is no zero
  pub decimal_rest : (length s ≡ 0 → ⊥) → (1 < length s → get_or s 0 0 ≡ 48 → ⊥) → number_from 10 s 0 ≡ decimal_of s
  decimal_rest nonempty unpadded = by_test (zero_ahead s) refl ∙ decimal_tested (omega arith)
    where
      by_test : (t : Bool) → zero_ahead s ≡ t → number_from 10 s 0 ≡ cond t None (number_from 10 s 0)
      by_test false e = refl
      by_test true e = absurd (unpadded (ltb-true _ _ (first_so _ _ e)) (eqb-true _ _ (second_so _ _ e)))
