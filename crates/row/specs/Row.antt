-- Rows of samples, over any conversion of one sample. RULES.md: Rows, Refusals.
use Rattle.value.specs.declared.Refusal.{Refusal}
use Rattle.std.specs.Prelude.{ℕ, suc, Bool, false, ◌||◌, cond, List, [], ◌∷◌, Result, Err, Ok}
use Rattle.value.specs.Outcome.{Outcome, gives, refuses, refusal_of, Success, done}

-- what the answer says in the words of the rules
abbrev pub rowed_outcome : Result (Unit {0}) Refusal → Outcome Success
rowed_outcome (Ok u) = gives done
rowed_outcome (Err f) = refusal_of f

-- a sample that is refused decides with its own number and its index, else the samples behind it
abbrev pub sample_then : {B : Type 0} → ℕ → Outcome B → Outcome Success → Outcome Success
sample_then at (gives y) rest = rest
sample_then at (refuses number place) rest = refuses number at

-- the first sample that is refused decides; `at` is the index of the first one
unfoldable pub row_answer : {A B : Type 0} → (A → Outcome B) → ℕ → List A → Outcome Success
row_answer conv at [] = gives done
row_answer conv at (x ∷ xs) = sample_then at (conv x) (row_answer conv (suc at) xs)

-- what a sample is converted to, before those behind it
abbrev pub sample_before : {B : Type 0} → Outcome B → List B → List B
sample_before (gives y) ys = y ∷ ys
sample_before (refuses number place) ys = ys

-- what each sample is converted to
unfoldable pub row_results : {A B : Type 0} → (A → Outcome B) → List A → List B
row_results conv [] = []
row_results conv (x ∷ xs) = sample_before (conv x) (row_results conv xs)

-- ---- what a looking pass finds

-- the index of the first sample that passes a test, or the length
unfoldable pub first : {A : Type 0} → (A → Bool) → List A → ℕ
first test [] = 0
first test (x ∷ xs) = cond (test x) 0 (suc (first test xs))

-- some sample passes it
unfoldable pub any : {A : Type 0} → (A → Bool) → List A → Bool
any test [] = false
any test (x ∷ xs) = test x || any test xs

-- how many pass it
unfoldable pub how_many : {A : Type 0} → (A → Bool) → List A → ℕ
how_many test [] = 0
how_many test (x ∷ xs) = cond (test x) (suc (how_many test xs)) (how_many test xs)
