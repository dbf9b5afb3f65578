-- A call that goes by a list of rules is refused only with a number that one of them has. So with a number that its first rule alone has it is refused
-- exactly when that rule's test holds; and where no rule has the number 0 it isn't refused with 0.
use Prim.Native.Nat.{ℕ, zero, suc}
use native.Mathlib.Omega.{arith}
use mathlib.Core.Path.{◌≡◌, refl, sym}
use mathlib.Core.Logic.{◌⊎◌, inl, inr, ◌↔◌}
use mathlib.Core.Bool.{Bool, true, false, not, ◌&&◌, ◌||◌, cond, true≢false, and-eq-true_iff}
use mathlib.Core.List.{List, [], ◌∷◌, ◌++◌, map}
use borrow.Author.Tests.{eq-eqb}
use lib.Dec.{eqb}
use Rattle.float.specs.Number.{Exact, is_none}
use Rattle.value.specs.declared.Kind.{Kind}
use Rattle.value.specs.declared.Value.{Value}
use Rattle.value.specs.Kinds.{Form, form_of}
use Rattle.value.specs.Meaning.{exact_of}
use Rattle.value.specs.Outcome.{Outcome, gives, refuses, refuse_if, mapped}
use Rattle.value.specs.Rules.{Rule, rule, chain, First, here, later, By, placed, each_of, numbers_of}
use Rattle.value.proofs.Rules.{by_chain}
use Rattle.convert.specs.Convert.{own_kind, into_rules, convert_rules}
use Rattle.record.specs.declared.Field.{Field}
use Rattle.key.specs.Key.{nan_rules, canonical_rules, not_canonical}
use Rattle.silamogo.specs.Answer.{Numbered}

-- ---- a number that no rule has

abbrev pub absent : ℕ → List ℕ → Bool
absent n [] = true
absent n (m ∷ ms) = not (eqb m n) && absent n ms

first_there : (n : ℕ) {p : ℕ} {rules : List Rule} → First n p rules → absent n (numbers_of rules) ≡ true → ⊥
unfolding numbers_of
first_there n (here rest) h = true≢false (sym (rw (eq-eqb n n refl) at h))
first_there n (later m q rest f) h = first_there n f ((and-eq-true_iff (not (eqb m n)) (absent n (numbers_of rest))).0 h).1

never_refused : {A : Type 0} {rules : List Rule} {o : Outcome A} → By rules o → (n p : ℕ) → absent n (numbers_of rules) ≡ true → o ≡ refuses n p → ⊥
never_refused by n p h q = first_there n (by.refused_first n p q) h

module _ {A : Type 0} (n : ℕ) (rules : A → List Rule) (all : (x : A) → absent n (numbers_of (rules x)) ≡ true) where
  placed_before : (at : ℕ) (rs ss : List Rule) → absent n (numbers_of rs) ≡ true → absent n (numbers_of ss) ≡ true
      → absent n (numbers_of (map (placed at) rs ++ ss)) ≡ true
  unfolding numbers_of
  placed_before at [] ss h k = k
  placed_before at (rule m p t ∷ rs) ss h k =
      let own = (and-eq-true_iff (not (eqb m n)) (absent n (numbers_of rs))).0 h in
      (and-eq-true_iff (not (eqb m n)) (absent n (numbers_of (map (placed at) rs ++ ss)))).1 (own.0, placed_before at rs ss own.1 k)

  pub each_absent : (at : ℕ) (xs : List A) → absent n (numbers_of (each_of rules at xs)) ≡ true
  unfolding numbers_of each_of
  each_absent at [] = refl
  each_absent at (x ∷ xs) = placed_before at (rules x) (each_of rules (suc at) xs) (all x) (each_absent (suc at) xs)

pub nan_absent : (n : ℕ) → absent n (1 ∷ []) ≡ true → (at : ℕ) (fs : List Field) → absent n (numbers_of (nan_rules at fs)) ≡ true
unfolding numbers_of
nan_absent n h at fs = each_absent n (λ (f : Field). rule 1 0 (is_none (exact_of f.value)) ∷ []) (λ f. h) at fs

pub canonical_absent : (n : ℕ) → absent n (12 ∷ []) ≡ true → (at : ℕ) (fs : List (Kind × ℕ)) → absent n (numbers_of (canonical_rules at fs)) ≡ true
unfolding numbers_of
canonical_absent n h at fs = each_absent n (λ (f : Kind × ℕ). rule 12 0 (not_canonical (form_of f.0) f.1) ∷ []) (λ f. h) at fs

-- ---- the number of the first rule alone

pub first_exactly : {A : Type 0} (n : ℕ) (t : Bool) (rest : List Rule) (a : A) → absent n (numbers_of rest) ≡ true
    → (refuse_if t n 0 (chain rest (gives a)) ≡ refuses n 0) ↔ (t ≡ true)
first_exactly n true rest a d = ((λ h. refl), λ h. refl)
first_exactly n false rest a d = ((λ h. absurd (never_refused (by_chain rest a) n 0 d h)), λ h. absurd (true≢false (sym h)))

-- ---- what tests say

pub true_otherwise : (t : Bool) {P : Type 0} → (t ≡ false) ↔ P → (t ≡ true) ↔ (P → ⊥)
true_otherwise true i = ((λ h p. true≢false (i.1 p)), λ n. refl)
true_otherwise false i = ((λ h. absurd (true≢false (sym h))), λ n. absurd (n (i.0 refl)))

pub either : (s t : Bool) → ((s || t) ≡ true) ↔ ((s ≡ true) ⊎ (t ≡ true))
either true t = ((λ h. inl refl), λ h. refl)
either false true = ((λ h. inr refl), λ h. refl)
either false false = ((λ h. inl h), λ h. elim h [ inl e ↦ e | inr e ↦ e ])

-- ---- no refusal has the number 0

pub convert_no_zero : (v : Value) (to : Kind) → absent 0 (numbers_of (convert_rules v to)) ≡ true
unfolding numbers_of
convert_no_zero v to = go (own_kind v to) (form_of to) (exact_of v)
  where
    go : (own : Bool) (form : Form) (x : Exact) → absent 0 (numbers_of (cond own [] (into_rules form x))) ≡ true
    go true form x = refl
    go false form x = refl

pub numbered_by : {A : Type 0} {rules : List Rule} {o : Outcome A} → By rules o → absent 0 (numbers_of rules) ≡ true → Numbered o
numbered_by {A} {rules} {o} by h = go o refl
  where
    go : (x : Outcome A) → o ≡ x → Numbered x
    go (gives a) q = tt
    go (refuses zero p) q = absurd (never_refused by 0 p h q)
    go (refuses (suc n) p) q = omega arith

pub numbered_mapped : {A B : Type 0} (f : A → B) (o : Outcome A) → Numbered o → Numbered (mapped f o)
numbered_mapped f (gives a) h = tt
numbered_mapped f (refuses n p) h = h
