-- The lowest and the highest sample, by places. A NaN's place is the end, which passes the test against no place, so a step goes only to the
-- place of a number; every number's place passes the test against the end, so the end is where nothing was found.
use Rattle.std.specs.Prelude.{Option, None, Some}
use Rattle.std.proofs.Common.{◌≡◌, ℕ, ◌+◌, ◌-◌, ◌^◌, ◌<◌, Bool, true, false, cond, not, ◌&&◌, ◌⊎◌, List, [], ◌∷◌, ◌++◌, take, ℤ, pos}
use Rattle.std.proofs.Common.{negsuc, refl, ap, ◌∙◌, subst, inl, inr, arith, lit<, w32, SFits, to_z, of_z, ltb-false, le-ltb}
use Rattle.std.proofs.Common.{lt-ltb}
use Rattle.std.proofs.Common.{ltb, length, get_or}
use Rattle.std.specs.Int.{int_min, int_max}
use Rattle.float.proofs.Naturals.{three_ways}
use mathlib.Core.Bool.{and-eq-true_iff}
use borrow.Author.Tests.{not-true}
use lib.Signed.{mag, lt_z}
use mir.ValLaws.{to_z-of_z}
use Rattle.float.specs.Format.{inf_of, abs_of, nan_of, position_of}
use Rattle.float.proofs.Place.{pattern_at, pattern_position, mag_position}
use Rattle.bytewise.specs.Numbers.{from_little_endian}
use Rattle.strip.specs.Sheet.{extreme_of}
use Rattle.strip.specs.Inner.{all_bits, top_end, bottom_end, place_of, farthest_from, gt_z, bits_at, start_at, found_at}
use Rattle.strip.proofs.Counting.{bits_last}

-- ---- places

bits_pattern : (z : ℤ) → bits_at z ≡ pattern_at 23 8 z
bits_pattern (pos x) = refl
bits_pattern (negsuc x) = refl

bits_position : (b : ℕ) → bits_at (position_of 23 8 b) ≡ b
bits_position b = bits_pattern (position_of 23 8 b) ∙ pattern_position 23 8 b

-- the places are the signed numbers of 32 bits
abbrev Place : ℤ → Type 0
Place z = mag z < 2 ^ 31

-- those between the two ends; a number's place is one
abbrev Inside : ℤ → Type 0
Inside z = mag z < 2 ^ 31 - 1

number_inside : (b : ℕ) → nan_of 23 8 b ≡ false → Inside (position_of 23 8 b)
number_inside b q = rw (mag_position 23 8 b) (omega (arith, ltb-false (inf_of 23 8) (abs_of 23 8 b) q))

-- ---- a test and its end

pub record End (test : ℤ → ℤ → Bool) (end : ℤ) : Type 0 where
  place : Place end
  last : (z : ℤ) → Place z → test end z ≡ false
  before : (z : ℤ) → Inside z → test z end ≡ true

pub top_end_lem : End lt_z top_end
top_end_lem = record { place = lit< tt; last = last; before = before }
  where
    last : (z : ℤ) → Place z → lt_z top_end z ≡ false
    last (pos x) h = le-ltb (2 ^ 31 - 1) x (omega arith)
    last (negsuc x) h = refl

    before : (z : ℤ) → Inside z → lt_z z top_end ≡ true
    before (pos x) h = lt-ltb _ _ h
    before (negsuc x) h = refl

pub bottom_end_lem : End gt_z bottom_end
bottom_end_lem = record { place = lit< tt; last = last; before = before }
  where
    last : (z : ℤ) → Place z → gt_z bottom_end z ≡ false
    last (pos x) h = refl
    last (negsuc x) h = le-ltb (2 ^ 31 - 1) x (omega arith)

    before : (z : ℤ) → Inside z → gt_z z bottom_end ≡ true
    before (pos x) h = refl
    before (negsuc x) h = lt-ltb _ _ h

-- ---- the farthest place, sample after sample

farthest_last : (test : ℤ → ℤ → Bool) (end m : ℤ) (bs : List ℕ) (b : ℕ) {far : ℤ} → far ≡ farthest_from test end m bs
    → cond (test (place_of end b) far) (place_of end b) far ≡ farthest_from test end m (bs ++ (b ∷ []))
unfolding farthest_from
farthest_last test end m [] b q = rw q refl
farthest_last test end m (x ∷ bs) b q = farthest_last test end (cond (test (place_of end x) m) (place_of end x) m) bs b q

-- the larger of two places, from either side
larger_above : (a b : ℕ) → cond (ltb b a) (pos a) (pos b) ≡ cond (ltb a b) (pos b) (pos a)
larger_above a b = elim (three_ways a b) [
  | inl l ↦ rw (lt-ltb a b l, le-ltb b a (omega arith)) refl
  | inr (inl q) ↦ rw (q, le-ltb b b (omega arith)) refl
  | inr (inr g) ↦ rw (lt-ltb b a g, le-ltb a b (omega arith)) refl
]

larger_below : (a b : ℕ) → cond (ltb a b) (negsuc a) (negsuc b) ≡ cond (ltb b a) (negsuc b) (negsuc a)
larger_below a b = elim (three_ways a b) [
  | inl l ↦ rw (lt-ltb a b l, le-ltb b a (omega arith)) refl
  | inr (inl q) ↦ rw (q, le-ltb b b (omega arith)) refl
  | inr (inr g) ↦ rw (lt-ltb b a g, le-ltb a b (omega arith)) refl
]

max_is : (m z : ℤ) → int_max m z ≡ cond (gt_z z m) z m
max_is (pos a) (pos b) = larger_above a b
max_is (pos a) (negsuc b) = refl
max_is (negsuc a) (pos b) = refl
max_is (negsuc a) (negsuc b) = larger_below a b

-- a loop over samples after i of them
module _ (test : ℤ → ℤ → Bool) (end start : ℤ) (samples : List (List ℕ)) where
  abbrev pub SoFar : ℤ → ℕ → Type 0
  SoFar m i = m ≡ farthest_from test end start (take i (all_bits samples))

  pub so_far_start : SoFar start 0
  unfolding farthest_from
  so_far_start = refl

  so_far_next : {i : ℕ} {m : ℤ} {b : ℕ} → SoFar m i → i < length (all_bits samples) → b ≡ from_little_endian (get_or samples i [])
      → SoFar (cond (test (place_of end b) m) (place_of end b) m) (i + 1)
  so_far_next {i} s h word = rw (word, bits_last samples i h) (farthest_last test end start (take i (all_bits samples)) _ s)

-- the machine reads each signed number back from its word
module _ (start : ℤ) (samples : List (List ℕ)) {i : ℕ} {m : ℤ} {b : ℕ} (h : i < length (all_bits samples))
    (word : b ≡ from_little_endian (get_or samples i [])) {place r : ℤ} (f : SFits w32 place) (g : SFits w32 r) where
  pub lowest_next : SoFar lt_z top_end start samples m i → place ≡ place_of top_end b → r ≡ int_min m (to_z w32 (of_z w32 place))
      → SoFar lt_z top_end start samples (to_z w32 (of_z w32 r)) (i + 1)
  lowest_next s at q = rw (to_z-of_z w32 r g, q, to_z-of_z w32 place f, at) (so_far_next lt_z top_end start samples s h word)

  pub highest_next : SoFar gt_z bottom_end start samples m i → place ≡ place_of bottom_end b → r ≡ int_max m (to_z w32 (of_z w32 place))
      → SoFar gt_z bottom_end start samples (to_z w32 (of_z w32 r)) (i + 1)
  highest_next s at q =
      rw (to_z-of_z w32 r g, q, to_z-of_z w32 place f, at, max_is m (place_of bottom_end b)) (so_far_next gt_z bottom_end start samples s h word)

-- ---- the sample that is found

-- is_before and is_behind are this, of their tests
abbrev passes : (ℤ → ℤ → Bool) → ℕ → ℕ → Bool
passes test b a = not (nan_of 23 8 b) && test (position_of 23 8 b) (position_of 23 8 a)

-- from a sample on one is found, at the place that is reached; a number leads to a number
abbrev Leads : ℕ → Option ℕ → ℤ → Type 0
Leads a f m = (c : ℕ) × (f ≡ Some c) × (m ≡ position_of 23 8 c) × (nan_of 23 8 a ≡ false → nan_of 23 8 c ≡ false)

true_or_false : (t : Bool) → (t ≡ true) ⊎ (t ≡ false)
true_or_false true = inl refl
true_or_false false = inr refl

module _ {test : ℤ → ℤ → Bool} {end : ℤ} (law : End test end) where
  step_is : (m : ℤ) (b : ℕ) → Place m
      → cond (test (place_of end b) m) (place_of end b) m ≡ cond (not (nan_of 23 8 b) && test (position_of 23 8 b) m) (position_of 23 8 b) m
  step_is m b h = elim (true_or_false (nan_of 23 8 b)) [ inl q ↦ rw (q, law.last m h) refl | inr q ↦ rw q refl ]

  from_sample : (a : ℕ) (bs : List ℕ) → Place (position_of 23 8 a)
      → Leads a (extreme_of (passes test) (Some a) bs) (farthest_from test end (position_of 23 8 a) bs)
  unfolding extreme_of farthest_from
  from_sample a [] h = (a, refl, refl, λ q. q)
  from_sample a (b ∷ bs) h = rw (step_is (position_of 23 8 a) b h) (elim (true_or_false (passes test b a)) [
    | inl q ↦
        let n = not-true (nan_of 23 8 b) ((and-eq-true_iff _ (test (position_of 23 8 b) (position_of 23 8 a))).0 q).0 in
        let s = from_sample b bs (omega (arith, number_inside b n)) in
        rw q (s.0, s.1, s.2, λ k. s.3 n)
    | inr q ↦ rw q (from_sample a bs h)
  ])

  from_nothing : (bs : List ℕ)
      → (let m = farthest_from test end end bs in found_at None (test m end) m ≡ extreme_of (passes test) None bs)
  unfolding extreme_of farthest_from
  from_nothing [] = rw (law.last end law.place) refl
  from_nothing (b ∷ bs) = elim (true_or_false (nan_of 23 8 b)) [
    | inl q ↦ rw (q, law.last end law.place) (from_nothing bs)
    | inr q ↦
        let l = number_inside b q in
        let s = from_sample b bs (omega arith) in
        rw (q, law.before (position_of 23 8 b) l, s.2, s.1, law.before (position_of 23 8 s.0) (number_inside s.0 (s.3 q)))
        (ap Some (bits_position s.0))
  ]

  -- the code's answer, from p to m
  found_by : (f : Option ℕ) (bs : List ℕ) {p m : ℤ} → p ≡ start_at end f → Place p → m ≡ farthest_from test end p bs
      → found_at f (test m end) m ≡ extreme_of (passes test) f bs
  found_by (Some a) bs from h to =
      let s = from_sample a bs (subst Place from h) in
      rw (to, from, s.2, s.1) (ap Some (bits_position s.0))
  found_by None bs from h to = rw (to, from) (from_nothing bs)

  -- the machine reads each signed number back from its word
  pub found_from : (f : Option ℕ) (bs : List ℕ) {p m : ℤ} {r : Option ℕ} → p ≡ start_at end f → SFits w32 p → SFits w32 m
      → m ≡ farthest_from test end (to_z w32 (of_z w32 p)) bs → r ≡ found_at f (test (to_z w32 (of_z w32 m)) end) (to_z w32 (of_z w32 m))
      → r ≡ extreme_of (passes test) f bs
  found_from f bs {p} {m} from g k to q =
      q
      ∙ rw (to_z-of_z w32 m k) (found_by f bs from g.sfits (to ∙ ap (λ (z : ℤ). farthest_from test end z bs) (to_z-of_z w32 p g)))
