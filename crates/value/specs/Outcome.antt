-- What a call answers, in the words of the rules: a result, or the number and the place of a refusal. RULES.md: Refusals.
use Rattle.std.specs.Prelude.{ℕ, Bool, true, false, List, ◌++◌, length, drop, Result, Ok, Err}
use Rattle.value.specs.declared.Refusal.{Refusal}

-- a result, or a number and a place
pub data Outcome (A : Type 0) : Type 0 where
  gives : A → Outcome A
  refuses : ℕ → ℕ → Outcome A

-- the result of a call that gives nothing but its success
pub data Success : Type 0 where
  done : Success

-- the number and the place when the rule holds, else what follows
abbrev pub refuse_if : {A : Type 0} → Bool → ℕ → ℕ → Outcome A → Outcome A
refuse_if true number place next = refuses number place
refuse_if false number place next = next

-- a refusal of the code
abbrev pub refusal_of : {A : Type 0} → Refusal → Outcome A
refusal_of f = refuses f.number f.place

-- what an answer of the code says in these words
abbrev pub outcome_of : {A : Type 0} → Result A Refusal → Outcome A
outcome_of (Ok a) = gives a
outcome_of (Err f) = refusal_of f

-- what follows a result; a refusal stays
abbrev pub and_then : {A B : Type 0} → Outcome A → (A → Outcome B) → Outcome B
and_then (gives a) next = next a
and_then (refuses number place) next = refuses number place

-- the same outcome with the result put through a function
abbrev pub mapped : {A B : Type 0} → (A → B) → Outcome A → Outcome B
mapped f (gives a) = gives (f a)
mapped f (refuses number place) = refuses number place

-- lent memory after a call: what was given, laid out, and behind it what stood there; after a refusal what it was
abbrev pub lent_after : {A B : Type 0} → (A → List B) → Outcome A → List B → List B
lent_after laid (gives a) old = laid a ++ drop (length (laid a)) old
lent_after laid (refuses number place) old = old
