-- What is answered by a list of rules goes by it: demand 1, for every call at once.
use Prim.Native.Nat.{ℕ}
use mathlib.Core.Path.{◌≡◌, refl, sym, ap, subst}
use mathlib.Core.Bool.{true, false}
use mathlib.Core.List.{List, [], ◌∷◌, ◌++◌, map}
use Rattle.float.proofs.Tests.{clash}
use Rattle.value.specs.Outcome.{Outcome, gives, refuses, refuse_if, and_then, mapped}
use Rattle.value.specs.Rules.{Rule, rule, chain, First, here, later, None, empty, more, By, placed}
use Rattle.value.proofs.Outcomes.{refuses_same}

-- ---- the first rule that holds

first_of : {A : Type 0} (rules : List Rule) (a : A) (n p : ℕ) → chain rules (gives a) ≡ refuses n p → First n p rules
first_of [] a n p h = clash cc
first_of (rule m q true ∷ rest) a n p h = subst (λ k. First n k (rule m q true ∷ rest)) (refuses_same h).1
    (subst (λ k. First k q (rule m q true ∷ rest)) (refuses_same h).0 (here rest))
first_of (rule m q false ∷ rest) a n p h = later m q rest (first_of rest a n p h)

of_first : {A : Type 0} {n p : ℕ} {rules : List Rule} (a : A) → First n p rules → chain rules (gives a) ≡ refuses n p
of_first a (here rest) = refl
of_first a (later m q rest f) = of_first a f

none_of : {A : Type 0} (rules : List Rule) (a b : A) → chain rules (gives a) ≡ gives b → None rules
none_of [] a b h = empty
none_of (rule m q true ∷ rest) a b h = clash cc
none_of (rule m q false ∷ rest) a b h = more m q rest (none_of rest a b h)

of_none : {A : Type 0} {rules : List Rule} (a : A) → None rules → chain rules (gives a) ≡ gives a
of_none a empty = refl
of_none a (more m q rest n) = of_none a n

pub by_chain : {A : Type 0} (rules : List Rule) (a : A) → By rules (chain rules (gives a))
by_chain rules a = record {
  refused_first = λ n p h. first_of rules a n p h;
  first_refused = λ n p f. of_first a f;
  given_none = λ b h. none_of rules a b h;
  none_given = λ n. (a, of_none a n);
}

-- of an answer that is shown to be such a chain
pub by_same : {A : Type 0} (rules : List Rule) (a : A) {o : Outcome A} → o ≡ chain rules (gives a) → By rules o
by_same rules a h = subst (By rules) (sym h) (by_chain rules a)

-- ---- chains one behind the other, and what follows a result

pub chain_join : {A : Type 0} (rs ss : List Rule) (next : Outcome A) → chain (rs ++ ss) next ≡ chain rs (chain ss next)
chain_join [] ss next = refl
chain_join (rule n p holds ∷ rs) ss next = ap (refuse_if holds n p) (chain_join rs ss next)

pub chain_mapped : {A B : Type 0} (f : A → B) (rules : List Rule) (next : Outcome A) → mapped f (chain rules next) ≡ chain rules (mapped f next)
chain_mapped f [] next = refl
chain_mapped f (rule n p true ∷ rest) next = refl
chain_mapped f (rule n p false ∷ rest) next = chain_mapped f rest next

pub chain_then : {A B : Type 0} (f : A → Outcome B) (rules : List Rule) (next : Outcome A) → and_then (chain rules next) f ≡ chain rules (and_then next f)
chain_then f [] next = refl
chain_then f (rule n p true ∷ rest) next = refl
chain_then f (rule n p false ∷ rest) next = chain_then f rest next

-- a test of a result goes by the same rules
pub by_mapped : {A B : Type 0} (f : A → B) (rules : List Rule) (a : A) → By rules (mapped f (chain rules (gives a)))
by_mapped f rules a = by_same rules (f a) (chain_mapped f rules (gives a))

-- ---- rules of a row: the place of a refusal is the index of its sample

pub placed_at : {n p : ℕ} (at : ℕ) (rules : List Rule) → First n p (map (placed at) rules) → p ≡ at
placed_at at [] x = elim x [ ]
placed_at at (rule m q true ∷ rules) (here rest) = refl
placed_at at (rule m q false ∷ rules) (later i j rest f) = placed_at at rules f
