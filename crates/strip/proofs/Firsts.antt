-- The first place that differs: none before it does, and there is none exactly when a scan comes to the end.
use Rattle.std.specs.Prelude.{Option, None, Some}
use Rattle.std.proofs.Common.{◌≡◌, ℕ, zero, suc, ◌+◌, ◌<◌, ◌≤◌, Bool, true, false, cond, List, [], ◌∷◌, ◌++◌, length, get_or, sym, refl, ap, inl, inr}
use Rattle.std.proofs.Common.{le_of_suc-le-suc, not-suc-le-zero, add_assoc, arith, length-append, le-ltb, lt-ltb}
use Rattle.float.proofs.Naturals.{lt_or_ge}
use Rattle.row.specs.Row.{first, how_many}
use Rattle.row.proofs.Scan.{first_le, first_hit, first_none}
use Rattle.strip.specs.Difference.{Pair, is_different, first_in, earlier_of}
use Rattle.strip.specs.DifferenceTheorem.{FirstDifferent}

-- ---- samples of any kind

module _ {A : Type 0} (test : A → Bool) where
  -- where none passes, a scan comes to the end
  pub none_first : (xs : List A) → how_many test xs ≡ 0 → first test xs ≡ length xs
  unfolding how_many first
  none_first [] h = refl
  none_first (x ∷ xs) h = go (test x) h (none_first xs)
    where
      go : (t : Bool) → cond t (suc (how_many test xs)) (how_many test xs) ≡ 0 → (how_many test xs ≡ 0 → first test xs ≡ length xs)
          → cond t 0 (suc (first test xs)) ≡ suc (length xs)
      go true k r = absurd (omega arith)
      go false k r = ap suc (r k)

  -- none passes before the first that does
  pub first_before : (xs : List A) (i : ℕ) (d : A) → i < first test xs → test (get_or xs i d) ≡ false
  unfolding first
  first_before [] i d h = absurd (not-suc-le-zero h)
  first_before (x ∷ xs) zero d h = go (test x) refl h
    where
      go : (t : Bool) → test x ≡ t → 0 < cond t 0 (suc (first test xs)) → test x ≡ false
      go true q k = absurd (not-suc-le-zero k)
      go false q k = q
  first_before (x ∷ xs) (suc i) d h = first_before xs i d (go (test x) h)
    where
      go : (t : Bool) → suc i < cond t 0 (suc (first test xs)) → i < first test xs
      go true k = absurd (not-suc-le-zero k)
      go false k = le_of_suc-le-suc k

  -- in rows one behind the other
  pub first_here : (a b : List A) → first test a < length a → first test (a ++ b) ≡ first test a
  unfolding first
  first_here [] b h = absurd (not-suc-le-zero h)
  first_here (x ∷ a) b h = go (test x) h (first_here a b)
    where
      go : (t : Bool) → cond t 0 (suc (first test a)) < suc (length a) → (first test a < length a → first test (a ++ b) ≡ first test a)
          → cond t 0 (suc (first test (a ++ b))) ≡ cond t 0 (suc (first test a))
      go true k r = refl
      go false k r = ap suc (r (le_of_suc-le-suc k))

  pub first_behind : (a b : List A) → length a ≤ first test a → first test (a ++ b) ≡ length a + first test b
  unfolding first
  first_behind [] b h = omega arith
  first_behind (x ∷ a) b h = go (test x) h (first_behind a b)
    where
      go : (t : Bool) → suc (length a) ≤ cond t 0 (suc (first test a)) → (length a ≤ first test a → first test (a ++ b) ≡ length a + first test b)
          → cond t 0 (suc (first test (a ++ b))) ≡ suc (length a) + first test b
      go true k r = absurd (omega arith)
      go false k r = let e = r (le_of_suc-le-suc k) in omega arith

-- ---- the index of the first place that differs

module _ (before : ℕ) (ps : List Pair) where
  pub none_found : {i : ℕ} → i ≡ first is_different ps → length ps ≤ i → None ≡ first_in before ps
  none_found {i} q h = rw (← q, le-ltb i (length ps) h)

  pub none_differ : how_many is_different ps ≡ 0 → None ≡ first_in before ps
  none_differ h = none_found (sym (none_first is_different ps h)) (omega arith)

-- of a place that differs and of none
pub first_different : (ps : List Pair) → FirstDifferent ps (first_in 0 ps)
first_different ps = elim (lt_or_ge (first is_different ps) (length ps)) [
  | inl l ↦
      let e : 0 + first is_different ps ≡ first is_different ps = omega arith in
      rw (lt-ltb (first is_different ps) (length ps) l, e)
      (l, λ d. first_hit is_different ps (first is_different ps) d refl l, first_before is_different ps)
  | inr g ↦
      let none : first is_different ps ≡ length ps = omega (arith, first_le is_different ps) in
      rw (le-ltb (first is_different ps) (length ps) g) (λ i d h. first_none is_different ps i d none h)
]

-- ---- places behind others

pub no_more_found : (f : Option ℕ) (before : ℕ) → earlier_of f (first_in before []) ≡ f
unfolding first
no_more_found (Some n) before = refl
no_more_found None before = refl

-- what is found in places behind others, all counted from the same begin
pub found_joined : (f : Option ℕ) (before : ℕ) (ps qs : List Pair)
    → earlier_of (earlier_of f (first_in before ps)) (first_in (before + length ps) qs) ≡ earlier_of f (first_in before (ps ++ qs))
found_joined (Some n) before ps qs = refl
found_joined None before ps qs = elim (lt_or_ge (first is_different ps) (length ps)) [
  | inl l ↦
      let here = first_here is_different ps qs l in
      rw (here, lt-ltb (first is_different ps) (length ps) l, length-append ps qs, lt-ltb (first is_different ps) (length ps + length qs) (omega arith))
  | inr g ↦
      let behind = first_behind is_different ps qs g in
      rw (behind, le-ltb (first is_different ps) (length ps) g, length-append ps qs)
      (elim (lt_or_ge (first is_different qs) (length qs)) [
        | inl l ↦
            rw (lt-ltb (first is_different qs) (length qs) l, lt-ltb (length ps + first is_different qs) (length ps + length qs) (omega arith))
            (ap Some (add_assoc before (length ps) (first is_different qs)))
        | inr k ↦ rw (le-ltb (first is_different qs) (length qs) k, le-ltb (length ps + first is_different qs) (length ps + length qs) (omega arith))
      ])
]
