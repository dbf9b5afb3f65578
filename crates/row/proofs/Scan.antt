-- Looking for the first sample that passes a test: one sample after the other, or block by block.
use mathlib.Core.Path.{◌≡◌, refl, sym, ◌∙◌, ap}
use mathlib.Core.Bool.{Bool, true, false, ◌||◌, cond}
use mathlib.Core.List.{List, [], ◌∷◌}
use Prim.Native.Nat.{ℕ, zero, suc, ◌+◌, ◌≤◌, ◌<◌}
use native.Mathlib.Nat.{le_of_suc-le-suc, not-suc-le-zero, zero-add}
use native.Mathlib.Numerals.{add-one}
use native.Mathlib.Omega.{arith}
use lib.ListN.{length, get_or, take, drop, drop_of_length-le}
use lib.Seq.{take_all}
use borrow.Author.Tests.{ltb-false}
use lib.Dec.{ltb}
use Rattle.std.specs.Prelude.{None, Some, position}
use Rattle.std.specs.List.{list_any, position_or_len}
use Rattle.std.proofs.lemmas.List.Quantifiers.{position-Some}
use Rattle.std.proofs.lemmas.List.Sums.{fails_before_first}
use Rattle.std.proofs.lemmas.Option.{none-some}
use Rattle.float.proofs.Tests.{neither}
use Rattle.row.specs.Row.{first, any}

module _ {A : Type 0} (test : A → Bool) where
  -- ---- one sample

  first_pass : (s : List A) (i : ℕ) (d : A) → i < length s → test (get_or s i d) ≡ false → first test (drop i s) ≡ suc (first test (drop (suc i) s))
  unfolding first
  first_pass [] i d h g = absurd (not-suc-le-zero h)
  first_pass (x ∷ xs) zero d h g = simp g
  first_pass (x ∷ xs) (suc i) d h g = first_pass xs i d (le_of_suc-le-suc h) g

  first_stop : (s : List A) (i : ℕ) (d : A) → i < length s → test (get_or s i d) ≡ true → first test (drop i s) ≡ 0
  unfolding first
  first_stop [] i d h g = absurd (not-suc-le-zero h)
  first_stop (x ∷ xs) zero d h g = simp g
  first_stop (x ∷ xs) (suc i) d h g = first_stop xs i d (le_of_suc-le-suc h) g

  first_nil : first test [] ≡ 0
  unfolding first
  first_nil = refl

  first_within : (b : Bool) (k n : ℕ) → k ≤ n → cond b 0 (suc k) ≤ suc n
  first_within true k n h = omega arith
  first_within false k n h = omega arith

  pub first_le : (s : List A) → first test s ≤ length s
  unfolding first
  first_le [] = omega arith
  first_le (x ∷ xs) = first_within (test x) (first test xs) (length xs) (first_le xs)

  -- the sample where a scan stopped passes
  stopped_at : (b : Bool) (x : A) (xs : List A) (d : A) (k n : ℕ) → test x ≡ b → cond b 0 (suc k) < suc n
      → (k < n → test (get_or xs k d) ≡ true) → test (get_or (x ∷ xs) (cond b 0 (suc k)) d) ≡ true
  stopped_at true x xs d k n q h r = q
  stopped_at false x xs d k n q h r = r (le_of_suc-le-suc h)

  first_passes : (s : List A) (d : A) → first test s < length s → test (get_or s (first test s) d) ≡ true
  unfolding first
  first_passes [] d h = absurd (not-suc-le-zero h)
  first_passes (x ∷ xs) d h = stopped_at (test x) x xs d (first test xs) (length xs) refl h (first_passes xs d)

  pub first_hit : (s : List A) (at : ℕ) (d : A) → at ≡ first test s → at < length s → test (get_or s at d) ≡ true
  first_hit s at d q h = ap (λ (i : ℕ). test (get_or s i d)) q ∙ first_passes s d (omega arith)

  -- a scan that came to the end met none
  pub first_all : (s : List A) (at : ℕ) → at ≡ first test s → length s ≤ at → first test s ≡ length s
  first_all s at q h = omega (arith, first_le s)

  -- where none passes, the one at i doesn't
  pub none_at : (b : Bool) (k n : ℕ) → cond b 0 (suc k) ≡ suc n → (b ≡ false) × (k ≡ n)
  none_at true k n h = absurd (omega arith)
  none_at false k n h = (refl, omega arith)

  pub first_none : (s : List A) (i : ℕ) (d : A) → first test s ≡ length s → i < length s → test (get_or s i d) ≡ false
  unfolding first
  first_none [] i d q h = absurd (not-suc-le-zero h)
  first_none (x ∷ xs) zero d q h = (none_at (test x) (first test xs) (length xs) q).0
  first_none (x ∷ xs) (suc i) d q h = first_none xs i d (none_at (test x) (first test xs) (length xs) q).1 (le_of_suc-le-suc h)

  -- the scan from a place on has come to i: its turn, and its two ways out
  abbrev pub Reached : ℕ → List A → ℕ → Type 0
  Reached from s i = (i ≤ length s) × (from + first test (drop from s) ≡ i + first test (drop i s))

  pub reach_step : (from : ℕ) (s : List A) (i : ℕ) (d : A) → i < length s → Reached from s i → test (get_or s i d) ≡ false → Reached from s (i + 1)
  reach_step from s i d h r g = rw add-one (omega arith, let p = first_pass s i d h g in omega arith)

  pub reach_stop : (from : ℕ) (s : List A) (i : ℕ) (d : A) → i < length s → Reached from s i → test (get_or s i d) ≡ true → i ≡ from + first test (drop from s)
  reach_stop from s i d h r g = let p = first_stop s i d h g in omega arith

  pub reach_end : (from : ℕ) (s : List A) (i : ℕ) → length s ≤ i → Reached from s i → i ≡ from + first test (drop from s)
  reach_end from s i h r = let p : first test (drop i s) ≡ 0 = rw (drop_of_length-le s h) first_nil in omega arith

  -- from the start
  pub reach_start : (s : List A) → 0 + first test (drop 0 s) ≡ first test s
  reach_start s = zero-add (first test s)

  -- ---- a block

  pub none_yet : (s : List A) → false ≡ any test (take 0 s)
  unfolding any
  none_yet s = refl

  or_last : (a b c : Bool) → ((a || b) || c) ≡ (a || (b || c))
  or_last true b c = refl
  or_last false b c = refl

  or_none : (b : Bool) → (b || false) ≡ b
  or_none true = refl
  or_none false = refl

  any_more : (s : List A) (i : ℕ) (d : A) → i < length s → (any test (take i s) || test (get_or s i d)) ≡ any test (take (suc i) s)
  unfolding any
  any_more [] i d h = absurd (not-suc-le-zero h)
  any_more (x ∷ xs) zero d h = sym (or_none (test x))
  any_more (x ∷ xs) (suc i) d h =
      or_last (test x) (any test (take i xs)) (test (get_or xs i d)) ∙ ap (λ (b : Bool). test x || b) (any_more xs i d (le_of_suc-le-suc h))

  -- the pass over a block has come to i
  pub any_step : (s : List A) (i : ℕ) (d : A) → i < length s → (any test (take i s) || test (get_or s i d)) ≡ any test (take (i + 1) s)
  any_step s i d h = rw add-one (any_more s i d h)

  pub any_end : (s : List A) (i : ℕ) → length s ≤ i → any test (take i s) ≡ any test s
  any_end s i h = ap (any test) (take_all i s h)

-- a block in which no sample passes is passed whole
pub passed_block : {A : Type 0} (test : A → Bool) (m : ℕ) (s : List A) → m ≤ length s → list_any test (take m s) ≡ false
    → position_or_len test s ≡ m + position_or_len test (drop m s)
passed_block test zero s h g = sym (zero-add (position_or_len test s))
passed_block test (suc m) [] h g = absurd (not-suc-le-zero h)
passed_block test (suc m) (x ∷ xs) h g =
    let o = neither (test x) (list_any test (take m xs)) g in
    let r = passed_block test m xs (le_of_suc-le-suc h) o.1 in
    simp o.0 (omega arith)

-- what a position found says
module _ {A : Type 0} (test : A → Bool) (s : List A) where
  -- the one at the place that was found passes
  pub found_passes : (i : ℕ) (d : A) → position test s ≡ Some i → test (get_or s i d) ≡ true
  found_passes i d h = (position-Some test s i d h).1

  -- where none was found, none passes
  pub none_passes : (k : ℕ) (d : A) → position test s ≡ None → k < length s → test (get_or s k d) ≡ false
  none_passes k d h l = let n = behind (ltb (position_or_len test s) (length s)) refl in fails_before_first test s k d (omega arith)
    where
      behind : (b : Bool) → ltb (position_or_len test s) (length s) ≡ b → length s ≤ position_or_len test s
      behind true q = absurd (none-some (position_or_len test s) (sym h ∙ ap (λ b. cond b (Some (position_or_len test s)) None) q))
      behind false q = ltb-false (position_or_len test s) (length s) q
