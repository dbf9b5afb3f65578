-- What a row answers and leaves: a rule of the whole row comes first, then the first sample that is refused decides, or each is given.
use mathlib.Core.Path.{◌≡◌, refl, sym, ◌∙◌, ap}
use mathlib.Core.Bool.{Bool, true, false, cond}
use mathlib.Core.List.{List, [], ◌∷◌, map}
use Prim.Native.Nat.{ℕ, zero, suc, ◌+◌, ◌<◌}
use native.Mathlib.Nat.{not-suc-le-zero, le_of_suc-le-suc, zero-add, lt_trans}
use native.Mathlib.Omega.{arith}
use lib.ListN.{length, get_or}
use Rattle.std.specs.Prelude.{Some, position}
use Rattle.std.proofs.lemmas.List.Quantifiers.{position-Some}
use Rattle.value.specs.Outcome.{Outcome, gives, refuses, refuse_if, Success, done, lent_after}
use Rattle.value.proofs.Outcomes.{refused_unchanged, given_fills}
use Rattle.float.proofs.Tests.{clash}
use Rattle.row.specs.Row.{row_answer, row_results, first, sample_then, sample_before}
use Rattle.row.specs.Inner.{is_refused}
use Rattle.row.proofs.Scan.{none_at}

-- what is answered where the row as a whole is refused with a number by a rule, and what the lent row holds after an answer
module _ {A B : Type 0} (conv : A → Outcome B) (s : List A) where
  abbrev pub ruled_answer : Bool → ℕ → Outcome Success
  ruled_answer rule number = refuse_if rule number 0 (row_answer conv 0 s)

  abbrev pub left_after : List B → Outcome Success → List B
  left_after old answer = lent_after (λ (d : Success). row_results conv s) answer old

  -- the rule of the whole row
  pub row_ruled : (rule : Bool) (number : ℕ) (old : List B) → rule ≡ true
      → (refuses number 0 ≡ ruled_answer rule number) × (old ≡ left_after old (ruled_answer rule number))
  row_ruled rule number old q =
      let o : ruled_answer rule number ≡ refuses number 0 = ap (λ (b : Bool). ruled_answer b number) q in
      (sym o, sym (refused_unchanged (λ (d : Success). row_results conv s) old o))

-- conv gives f of a sample that doesn't pass the test; P holds of every sample of the row
module _ {A B : Type 0} (conv : A → Outcome B) (test : A → Bool) (f : A → B) (P : A → Type 0) (d : A)
    (good : (x : A) → P x → test x ≡ false → conv x ≡ gives (f x)) where
  abbrev All : List A → Type 0
  All s = (i : ℕ) → i < length s → P (get_or s i d)

  tail : (x : A) (xs : List A) → All (x ∷ xs) → All xs
  tail x xs p i h = p (suc i) (omega arith)

  -- ---- the first sample that passes it is refused

  module _ (m p : ℕ) where
    refused_step : (at : ℕ) (x : A) (xs : List A) → P x → (b : Bool) → test x ≡ b
        → cond b 0 (suc (first test xs)) < suc (length xs) → conv (get_or (x ∷ xs) (cond b 0 (suc (first test xs))) d) ≡ refuses m p
        → (first test xs < length xs → conv (get_or xs (first test xs) d) ≡ refuses m p → row_answer conv (suc at) xs ≡ refuses m (suc at + first test xs))
        → sample_then at (conv x) (row_answer conv (suc at) xs) ≡ refuses m (at + cond b 0 (suc (first test xs)))
    refused_step at x xs u true q k bad rest = ap (λ o. sample_then at o (row_answer conv (suc at) xs)) bad ∙ ap (λ (i : ℕ). refuses m i) (omega arith)
    refused_step at x xs u false q k bad rest =
        ap (λ o. sample_then at o (row_answer conv (suc at) xs)) (good x u q) ∙ rest (omega arith) bad ∙ ap (λ (i : ℕ). refuses m i) (omega arith)

    pub row_refused : (at : ℕ) (s : List A) → All s → first test s < length s → conv (get_or s (first test s) d) ≡ refuses m p
        → row_answer conv at s ≡ refuses m (at + first test s)
    unfolding row_answer first
    row_refused at [] u h bad = absurd (not-suc-le-zero h)
    row_refused at (x ∷ xs) u h bad = refused_step at x xs (u 0 (omega arith)) (test x) refl h bad (row_refused (suc at) xs (tail x xs u))

  -- ---- no sample passes it

  pub row_done : (at : ℕ) (s : List A) → All s → first test s ≡ length s → (row_answer conv at s ≡ gives done) × (row_results conv s ≡ map f s)
  unfolding row_answer row_results first
  row_done at [] p h = (refl, refl)
  row_done at (x ∷ xs) p h =
      let c = none_at test (test x) (first test xs) (length xs) h in
      let g = good x (p 0 (omega arith)) c.0 in
      let r = row_done (suc at) xs (tail x xs p) c.1 in
      (ap (λ o. sample_then at o (row_answer conv (suc at) xs)) g ∙ r.0, ap (λ o. sample_before o (row_results conv xs)) g ∙ ap (λ l. f x ∷ l) r.1)

-- ---- a row by what the code finds of each sample

module _ {A B : Type 0} (conv : A → Outcome B) where
  -- each sample is given what stands at its place
  abbrev pub Given : List A → List B → Type 0
  Given s now = (k : ℕ) (x : A) (y : B) → k < length s → conv (get_or s k x) ≡ gives (get_or now k y)

  all_given : (at : ℕ) (s : List A) (now : List B) → length s ≡ length now → Given s now → (row_answer conv at s ≡ gives done) × (row_results conv s ≡ now)
  unfolding row_answer row_results
  all_given at [] [] n h = (refl, refl)
  all_given at [] (y ∷ ys) n h = absurd (omega arith)
  all_given at (x ∷ xs) [] n h = absurd (omega arith)
  all_given at (x ∷ xs) (y ∷ ys) n h =
      let r = all_given (suc at) xs ys (omega arith) (λ k u v l. h (suc k) u v (omega arith)) in
      let g : conv x ≡ gives y = h 0 x y (omega arith) in
      (ap (λ o. sample_then at o (row_answer conv (suc at) xs)) g ∙ r.0, ap (λ o. sample_before o (row_results conv xs)) g ∙ ap (λ l. y ∷ l) r.1)

  given_passes : (at : ℕ) (o : Outcome B) (rest : Outcome Success) → is_refused o ≡ false → sample_then at o rest ≡ rest
  given_passes at (gives y) rest h = refl
  given_passes at (refuses n p) rest h = clash cc

  first_refused : (m at i : ℕ) (s : List A) (d : A) → i < length s → ((k : ℕ) → k < i → is_refused (conv (get_or s k d)) ≡ false)
      → conv (get_or s i d) ≡ refuses m 0 → row_answer conv at s ≡ refuses m (at + i)
  unfolding row_answer
  first_refused m at i [] d h before bad = absurd (not-suc-le-zero h)
  first_refused m at zero (x ∷ xs) d h before bad =
      ap (λ o. sample_then at o (row_answer conv (suc at) xs)) bad ∙ ap (λ (k : ℕ). refuses m k) (omega arith)
  first_refused m at (suc i) (x ∷ xs) d h before bad =
      given_passes at (conv x) (row_answer conv (suc at) xs) (before 0 (omega arith))
      ∙ first_refused m (suc at) i xs d (le_of_suc-le-suc h) (λ k l. before (suc k) (omega arith)) bad
      ∙ ap (λ (k : ℕ). refuses m k) (omega arith)

  -- a row that its rule lets pass
  module _ (rule : Bool) (n : ℕ) (s : List A) (old : List B) (pass : rule ≡ false) where
    passed : ruled_answer conv s rule n ≡ row_answer conv 0 s
    passed = ap (λ (b : Bool). ruled_answer conv s b n) pass

    -- the first sample that passes a test decides, where the test tells which are refused
    pub sample_decides : (test : A → Bool) (i m : ℕ) (d : A) → ((k : ℕ) → k < length s → is_refused (conv (get_or s k d)) ≡ test (get_or s k d))
        → position test s ≡ Some i → conv (get_or s i d) ≡ refuses m 0
        → (refuses m i ≡ ruled_answer conv s rule n) × (old ≡ left_after conv s old (ruled_answer conv s rule n))
    sample_decides test i m d told h bad =
        let p = position-Some test s i d h in
        let before : (k : ℕ) → k < i → is_refused (conv (get_or s k d)) ≡ false = λ k l. told k (lt_trans l p.0) ∙ p.2 k l in
        let o : ruled_answer conv s rule n ≡ refuses m i = passed ∙ first_refused m 0 i s d p.0 before bad ∙ ap (λ (k : ℕ). refuses m k) (zero-add i) in
        (sym o, sym (refused_unchanged (λ (d : Success). row_results conv s) old o))

    pub all_done : length s ≡ length old → (now : List B) → length s ≡ length now → Given s now
        → (gives done ≡ ruled_answer conv s rule n) × (now ≡ left_after conv s old (ruled_answer conv s rule n))
    all_done same now l h =
        let r = all_given 0 s now l h in
        let o : ruled_answer conv s rule n ≡ gives done = passed ∙ r.0 in
        (sym o, sym r.1 ∙ sym (given_fills (λ (d : Success). row_results conv s) old o (rw r.1 (sym l ∙ same))))

-- a row in which no sample is refused has as many results
pub results_length : {A B : Type 0} (conv : A → Outcome B) (at : ℕ) (xs : List A) →
    row_answer conv at xs ≡ gives done → length (row_results conv xs) ≡ length xs
unfolding row_answer row_results
results_length conv at [] h = refl
results_length {A} {B} conv at (x ∷ xs) h = go (conv x) h (λ k. results_length conv (suc at) xs k)
  where
    go : (o : Outcome B) → sample_then at o (row_answer conv (suc at) xs) ≡ gives done
        → (row_answer conv (suc at) xs ≡ gives done → length (row_results conv xs) ≡ length xs) →
        length (sample_before o (row_results conv xs)) ≡ suc (length xs)
    go (gives y) k rest = ap suc (rest k)
    go (refuses m p) k rest = clash cc
