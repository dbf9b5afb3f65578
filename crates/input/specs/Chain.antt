-- Turns that follow one another, by what each took: a state, how many turns it has left, and what a turn may do. Any program that reads a file in
-- turns is such a chain.
use Rattle.std.specs.Prelude.{ℕ, ◌-◌, ◌^◌, ◌<◌, List, [], ◌∷◌, ◌++◌}

-- as many turns as a machine number can say
abbrev pub all_turns : ℕ
all_turns = 2 ^ 64 - 1

-- from a first state, with all that was taken: while turns are left, the next takes something or fails
pub data Chain {S B : Type 0} (left : S → ℕ) (Takes : S → B → S → Type 0) (Fails : S → S → Type 0) (first : S) : List B → S → Type 0 where
  begins : Chain left Takes Fails first [] first
  takes : (bs : List B) (s next : S) (b : B) → Chain left Takes Fails first bs s → 0 < left s → Takes s b next
      → Chain left Takes Fails first (bs ++ (b ∷ [])) next
  fails : (bs : List B) (s next : S) → Chain left Takes Fails first bs s → 0 < left s → Fails s next → Chain left Takes Fails first bs next
