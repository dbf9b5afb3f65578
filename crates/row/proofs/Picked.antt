-- A walk over samples that holds the first of them, and then each that passes a strict test against the one it holds. What is held last is
-- one of the samples, and none passes the test against it: it would have passed against the one held before.
use mathlib.Core.Path.{◌≡◌, refl, sym, ◌∙◌, ap}
use mathlib.Core.Bool.{Bool, true, false, not, ◌&&◌, true≢false, and-false, and-eq-true_iff}
use mathlib.Core.List.{List, [], ◌∷◌, ◌++◌, append_assoc, append-nil}
use Prim.Native.Nat.{ℕ, ◌<◌}
use native.Mathlib.Omega.{arith}
use borrow.Author.Tests.{not-true}
use lib.ListN.{length, get_or, length-append, get_or-append}
use lib.Seq.{get_or-append_seam}
use Rattle.float.proofs.Tests.{neither}
use Rattle.row.specs.Row.{any}

-- ---- some of a list

module _ {A : Type 0} where
  any_behind : (test : A → Bool) (p : List A) (v : A) → any test p ≡ false → test v ≡ false → any test (p ++ (v ∷ [])) ≡ false
  unfolding any
  any_behind test [] v h k = rw k refl
  any_behind test (x ∷ p) v h k = let o = neither (test x) (any test p) h in rw o.0 (any_behind test p v o.1 k)

  -- where fewer pass
  any_fewer : (few more : A → Bool) → ((x : A) → few x ≡ true → more x ≡ true) → (l : List A) → any more l ≡ false → any few l ≡ false
  unfolding any
  any_fewer few more imply [] h = refl
  any_fewer few more imply (x ∷ l) h = let o = neither (more x) (any more l) h in rw (none_here (few x) refl o.0) (any_fewer few more imply l o.1)
    where
      none_here : (t : Bool) → few x ≡ t → more x ≡ false → few x ≡ false
      none_here true q k = absurd (true≢false (sym (imply x q) ∙ k))
      none_here false q k = q

-- ---- what is held

-- a test that is an order, and that no sample to skip passes
pub record Strict {A : Type 0} (skip : A → Bool) (test : A → A → Bool) : Type 0 where
  pub irreflexive : (a : A) → test a a ≡ false
  pub transitive : (u v a : A) → test u v ≡ true → test v a ≡ true → test u a ≡ true
  pub kept : (v a : A) → test v a ≡ true → skip v ≡ false

-- an order, of those that aren't skipped
pub strict_of : {A : Type 0} (skip : A → Bool) (less : A → A → Bool) → ((a : A) → less a a ≡ false)
    → ((u v a : A) → less u v ≡ true → less v a ≡ true → less u a ≡ true) → Strict skip (λ v a. not (skip v) && less v a)
strict_of skip less irreflexive transitive = record {
  irreflexive = λ a. rw (irreflexive a) (and-false (not (skip a)));
  transitive = λ u v a h k.
      let both = (and-eq-true_iff (not (skip u)) (less u v)).0 h in
      rw both.0 (transitive u v a both.1 ((and-eq-true_iff (not (skip v)) (less v a)).0 k).1);
  kept = λ v a h. not-true (skip v) ((and-eq-true_iff (not (skip v)) (less v a)).0 h).0;
}

-- nothing: all are skipped
abbrev pub Without : {A : Type 0} → (A → Bool) → List A → Type 0
Without skip p = any (λ v. not (skip v)) p ≡ false

-- one that isn't skipped, and that none passes the test against
abbrev pub Picked : {A : Type 0} → (A → Bool) → (A → A → Bool) → List A → A → Type 0
Picked skip test p a = (skip a ≡ false) × ((i : ℕ) × (i < length p) × (get_or p i a ≡ a)) × (any (λ v. test v a) p ≡ false)

-- ---- one sample more

pub none_still : {A : Type 0} (skip : A → Bool) (p : List A) (v : A) → Without skip p → skip v ≡ true → Without skip (p ++ (v ∷ []))
none_still skip p v h q = any_behind (λ u. not (skip u)) p v h (ap not q)

module _ {A : Type 0} {skip : A → Bool} {test : A → A → Bool} (strict : Strict skip test) (p : List A) (v : A) where
  picked_last : skip v ≡ false → any (λ u. test u v) p ≡ false → Picked skip test (p ++ (v ∷ [])) v
  picked_last n h = (
    n,
    (length p, rw (length-append p (v ∷ [])) (omega arith), get_or-append_seam p v [] v),
    any_behind (λ u. test u v) p v h (strict.irreflexive v),
  )

  pub picked_first : Without skip p → skip v ≡ false → Picked skip test (p ++ (v ∷ [])) v
  picked_first h q = picked_last q (any_fewer (λ u. test u v) (λ u. not (skip u)) (λ u k. ap not (strict.kept u v k)) p h)

  module _ (a : A) (h : Picked skip test p a) where
    pub picked_next : test v a ≡ true → Picked skip test (p ++ (v ∷ [])) v
    picked_next q = picked_last (strict.kept v a q) (any_fewer (λ u. test u v) (λ u. test u a) (λ u k. strict.transitive u v a k q) p h.2)

    pub picked_still : test v a ≡ false → Picked skip test (p ++ (v ∷ [])) a
    picked_still q =
        let i = h.1.0 in
        let l = h.1.1 in
        (h.0, (i, rw (length-append p (v ∷ [])) (omega arith), get_or-append p (v ∷ []) a i l ∙ h.1.2), any_behind (λ u. test u a) p v h.2 q)

-- ---- all samples

-- what each sample keeps true, all do
module _ {A S : Type 0} (step : S → A → S) (all : S → List A → S) (none : (s : S) → all s [] ≡ s)
    (more : (s : S) (v : A) (vs : List A) → all s (v ∷ vs) ≡ all (step s v) vs)
    (Holds : List A → S → Type 0) (next : (p : List A) (s : S) (v : A) → Holds p s → Holds (p ++ (v ∷ [])) (step s v)) where
  held : (p vs : List A) (s : S) → Holds p s → Holds (p ++ vs) (all s vs)
  held p [] s h = rw (none s, append-nil p) h
  held p (v ∷ vs) s h = rw (more s v vs, ← append_assoc p (v ∷ []) vs) (held (p ++ (v ∷ [])) vs (step s v) (next p s v h))

  pub held_by_all : (vs : List A) (s : S) → Holds [] s → Holds vs (all s vs)
  held_by_all vs s h = held [] vs s h
