-- Two blocks told one after the other are told as both joined: what is taken is the front of all numbers, and the counts, which wrap, add up.
use Rattle.std.proofs.Common.{◌≡◌, ℕ, zero, suc, ◌+◌, ◌-◌, ◌/◌, ◌^◌, min, Bool, List, [], ◌∷◌, ◌++◌, length, take, sym, refl, ap, ◌∙◌, inl, inr}
use Rattle.std.proofs.Common.{append-nil, le_of_lt, add_assoc, arith, length-append, take_all}
use native.Mathlib.Nat.{zero-sub, sub-zero, suc-sub-suc, mod-add-mod, min-eq_left, min-eq_right}
use Rattle.float.specs.Format.{zero_of, subnormal_of, normal_of, infinite_of, nan_of}
use Rattle.float.proofs.Naturals.{lt_or_ge}
use Rattle.value.specs.declared.Kind.TheVariants.{F32}
use Rattle.row.specs.Row.{how_many}
use Rattle.row.proofs.HowMany.{many_joined}
use Rattle.sample.specs.Samples.{numbers_in, left_of, counted, joined, WholeBlocks, none, last, more}
use Rattle.sample.proofs.Samplings.{numbers_take, length_numbers}
use Rattle.sample.proofs.Joining.{numbers_of, left_joined, numbers_of_joined}
use Rattle.strip.specs.declared.Sheet.{Sheet}
use Rattle.strip.specs.Sheet.{is_before, is_behind, extreme_of, most, taken_of, taken_in, sheet_after}
use Rattle.strip.specs.SheetTheorem.{blank, sheet_of}
use Rattle.strip.proofs.Extremes.{extreme_joined}

-- ---- what is taken

numbers_front : (w n room : ℕ) (bytes : List ℕ) → numbers_in w (min n room) bytes ≡ take room (numbers_in w n bytes)
numbers_front w n room bytes = elim (lt_or_ge room n) [
  | inl l ↦ rw (min-eq_right (le_of_lt l)) (sym (numbers_take w n room bytes (omega arith)))
  | inr g ↦ rw (min-eq_left g) (sym (take_all room (numbers_in w n bytes) (rw (length_numbers w n bytes) g)))
]

take_joined : {A : Type 0} (n : ℕ) (a b : List A) → take n (a ++ b) ≡ take n a ++ take (n - length a) b
take_joined zero a b = rw (zero-sub (length a)) refl
take_joined (suc n) [] b = rw (sub-zero (suc n)) refl
take_joined (suc n) (x ∷ a) b = rw (suc-sub-suc n (length a), take_joined n a b) refl

-- the room behind those taken
room_left : (n : ℕ) (p : List ℕ) → most - n - length (numbers_of F32 p) ≡ most - (n + length (taken_in n p))
room_left n p =
    let whole = length_numbers 4 (length p / 4) p in
    let taken = length_numbers 4 (taken_of n p) p in
    omega (arith, whole, taken)

pub taken_joined : (n : ℕ) (p b : List ℕ) → left_of F32 p ≡ 0 → taken_in n (p ++ b) ≡ taken_in n p ++ taken_in (n + length (taken_in n p)) b
taken_joined n p b whole =
    numbers_front 4 (length (p ++ b) / 4) (most - n) (p ++ b)
    ∙ ap (take (most - n)) (numbers_of_joined F32 p b whole)
    ∙ take_joined (most - n) (numbers_of F32 p) (numbers_of F32 b)
    ∙ ap (λ (m : ℕ). take (most - n) (numbers_of F32 p) ++ take m (numbers_of F32 b)) (room_left n p)
    ∙ rw (numbers_front 4 (length b / 4) (most - (n + length (taken_in n p))) b, numbers_front 4 (length p / 4) (most - n) p) refl

-- ---- blocks

pub counts_joined : {A : Type 0} (test : A → Bool) (n : ℕ) (a b : List A) →
    counted (counted (n + how_many test a) + how_many test b) ≡ counted (n + how_many test (a ++ b))
counts_joined test n a b =
    mod-add-mod (n + how_many test a) (2 ^ 64) (how_many test b)
    ∙ ap counted (add_assoc n (how_many test a) (how_many test b) ∙ ap (λ (m : ℕ). n + m) (sym (many_joined test a b)))

counted_joined : (test : ℕ → Bool) (n : ℕ) (a b : List ℕ) → counted (counted (n + how_many test a) + how_many test b) ≡ counted (n + how_many test (a ++ b))
counted_joined test n a b = counts_joined test n a b

sheet_joined : (s : Sheet) (p b : List ℕ) → left_of F32 p ≡ 0 → sheet_after (sheet_after s p) b ≡ sheet_after s (p ++ b)
unfolding sheet_after
sheet_joined s p b whole =
    let a = taken_in s.samples p in
    let c = taken_in (s.samples + length a) b in
    rw (
      taken_joined s.samples p b whole,
      left_joined F32 p b whole,
      length-append a c,
      ← add_assoc s.samples (length a) (length c),
      counted_joined (zero_of 23 8) s.zero a c,
      counted_joined (subnormal_of 23 8) s.subnormal a c,
      counted_joined (normal_of 23 8) s.normal a c,
      counted_joined (infinite_of 23 8) s.infinite a c,
      counted_joined (nan_of 23 8) s.nan a c,
      extreme_joined is_before s.lowest a c,
      extreme_joined is_behind s.highest a c,
    ) refl

blocks_told : {bs : List (List ℕ)} → WholeBlocks F32 bs → (s : Sheet) → sheet_after s [] ≡ s → sheet_of s bs ≡ sheet_after s (joined bs)
blocks_told none s same = sym same
blocks_told (last b) s same = ap (sheet_after s) (sym (append-nil b))
blocks_told (more b bs ends rest) s same =
    blocks_told rest (sheet_after s b) (sheet_joined s b [] ends ∙ ap (sheet_after s) (append-nil b)) ∙ sheet_joined s b (joined bs) ends

pub sheet_of_joined : (bs : List (List ℕ)) → WholeBlocks F32 bs → sheet_of blank bs ≡ sheet_after blank (joined bs)
unfolding sheet_after numbers_in how_many extreme_of
sheet_of_joined bs parts = blocks_told parts blank refl
