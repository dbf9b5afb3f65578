-- "A refusal is the first number, in the call's order, whose rule holds, given exactly then." RULES.md: Refusals.
use Rattle.std.specs.Prelude.{ℕ, suc, ◌≡◌, Bool, true, false, List, [], ◌∷◌, ◌++◌, map}
use Rattle.value.specs.Outcome.{Outcome, gives, refuses, refuse_if}

-- a rule of refusal: its number, its place, and whether it holds
pub data Rule : Type 0 where
  rule : ℕ → ℕ → Bool → Rule

-- what a call answers by a list of rules: the first that holds refuses, else what follows
abbrev pub chain : {A : Type 0} → List Rule → Outcome A → Outcome A
chain [] next = next
chain (rule n p holds ∷ rest) next = refuse_if holds n p (chain rest next)

-- the numbers, in the list's order
unfoldable pub numbers_of : List Rule → List ℕ
numbers_of [] = []
numbers_of (rule n p holds ∷ rest) = n ∷ numbers_of rest

-- ---- what that means

-- a rule of the list holds, with this number and place, and none before it
pub data First (n p : ℕ) : List Rule → Type 0 where
  here : (rest : List Rule) → First n p (rule n p true ∷ rest)
  later : (m q : ℕ) (rest : List Rule) → First n p rest → First n p (rule m q false ∷ rest)

-- no rule of the list holds
pub data None : List Rule → Type 0 where
  empty : None []
  more : (m q : ℕ) (rest : List Rule) → None rest → None (rule m q false ∷ rest)

-- a call that goes by a list of rules: it is refused exactly as the first that holds says, and it gives a result exactly when none holds
pub record By {A : Type 0} (rules : List Rule) (o : Outcome A) : Type 0 where
  pub refused_first : (n p : ℕ) → o ≡ refuses n p → First n p rules
  pub first_refused : (n p : ℕ) → First n p rules → o ≡ refuses n p
  pub given_none : (a : A) → o ≡ gives a → None rules
  pub none_given : None rules → (a : A) × (o ≡ gives a)

-- ---- rules of a row and of the fields of a record: those of each one in turn, with its index as the place

-- a rule at another place
abbrev pub placed : ℕ → Rule → Rule
placed at (rule n p holds) = rule n at holds

-- the rules of each, from the index `at` on
unfoldable pub each_of : {A : Type 0} → (A → List Rule) → ℕ → List A → List Rule
each_of rules at [] = []
each_of rules at (x ∷ xs) = map (placed at) (rules x) ++ each_of rules (suc at) xs
