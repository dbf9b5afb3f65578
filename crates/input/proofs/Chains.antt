-- What holds of turns that follow one another, whatever a turn does: the shape of what they took, and where it leads.
use Prim.Native.Nat.{ℕ, ◌<◌}
use native.Mathlib.Omega.{arith}
use mathlib.Core.List.{List, [], ◌∷◌, ◌++◌}
use mathlib.Core.Path.{◌≡◌, refl, ◌∙◌, ap}
use Rattle.input.specs.Chain.{Chain, begins, takes, fails}

-- ---- shapes of lists

-- all pass a test
pub data Each {B : Type 0} (P : B → Type 0) : List B → Type 0 where
  no_more : Each P []
  one_more : (b : B) (bs : List B) → P b → Each P bs → Each P (b ∷ bs)

-- all pass one, and all but the last pass another too
pub data AllButLast {B : Type 0} (P Q : B → Type 0) : List B → Type 0 where
  none_at_all : AllButLast P Q []
  last_one : (b : B) → P b → AllButLast P Q (b ∷ [])
  not_last : (b : B) (bs : List B) → P b → Q b → AllButLast P Q bs → AllButLast P Q (b ∷ bs)

and_more : {B : Type 0} {P : B → Type 0} {bs : List B} → Each P bs → (b : B) → P b → Each P (bs ++ (b ∷ []))
and_more no_more b p = one_more b [] p no_more
and_more (one_more c bs q rest) b p = one_more c (bs ++ (b ∷ [])) q (and_more rest b p)

module _ {B : Type 0} {P Q : B → Type 0} where
  all_of : {bs : List B} → Each (λ b. P b × Q b) bs → AllButLast P Q bs
  all_of no_more = none_at_all
  all_of (one_more b bs p rest) = not_last b bs p.0 p.1 (all_of rest)

  and_last : {bs : List B} → Each (λ b. P b × Q b) bs → (b : B) → P b → AllButLast P Q (bs ++ (b ∷ []))
  and_last no_more b p = last_one b p
  and_last (one_more c bs q rest) b p = not_last c (bs ++ (b ∷ [])) q.0 q.1 (and_last rest b p)

  -- what is built up in the same three ways holds of such a list
  pub built_up : {R : List B → Type 0} → R [] → ((b : B) → P b → R (b ∷ [])) → ((b : B) (bs : List B) → P b → Q b → R bs → R (b ∷ bs))
      → {bs : List B} → AllButLast P Q bs → R bs
  built_up none one more none_at_all = none
  built_up none one more (last_one b p) = one b p
  built_up none one more (not_last b bs p q rest) = more b bs p q (built_up none one more rest)

-- ---- all of it, one after the other

abbrev pub folded : {R B : Type 0} → (R → B → R) → R → List B → R
folded f r [] = r
folded f r (b ∷ bs) = folded f (f r b) bs

folded_last : {R B : Type 0} (f : R → B → R) (r : R) (bs : List B) (b : B) → folded f r (bs ++ (b ∷ [])) ≡ f (folded f r bs) b
folded_last f r [] b = refl
folded_last f r (c ∷ bs) b = folded_last f (f r c) bs b

module _ {S B : Type 0} {left : S → ℕ} {Takes : S → B → S → Type 0} {Fails : S → S → Type 0} {first : S} where
  -- what is taken passes the first test, and the second too where a turn is left behind it; behind a failure none is left
  module _ {P Q : B → Type 0} (fits : (s next : S) (b : B) → Takes s b next → P b)
      (ends : (s next : S) (b : B) → Takes s b next → 0 < left next → Q b) (stops : (s next : S) → Fails s next → left next ≡ 0) where
    shapes : {bs : List B} {s : S} → Chain left Takes Fails first bs s → AllButLast P Q bs × (0 < left s → Each (λ b. P b × Q b) bs)
    shapes begins = (none_at_all, λ h. no_more)
    shapes (takes bs s next b chain some t) =
        let before = (shapes chain).1 some in
        let p = fits s next b t in
        (and_last before b p, λ h. and_more before b (p, ends s next b t h))
    shapes (fails bs s next chain some f) = (all_of ((shapes chain).1 some), λ h. absurd (omega (arith, h, stops s next f)))

    pub shape : {bs : List B} {s : S} → Chain left Takes Fails first bs s → AllButLast P Q bs
    shape chain = (shapes chain).0

  -- what each turn does to a view of the state, all of them do
  module _ {R : Type 0} (f : R → B → R) (view : S → R) (step : (s next : S) (b : B) → Takes s b next → f (view s) b ≡ view next)
      (stay : (s next : S) → Fails s next → view s ≡ view next) where
    pub leads : {bs : List B} {s : S} → Chain left Takes Fails first bs s → folded f (view first) bs ≡ view s
    leads begins = refl
    leads (takes bs s next b chain some t) = folded_last f (view first) bs b ∙ ap (λ r. f r b) (leads chain) ∙ step s next b t
    leads (fails bs s next chain some t) = leads chain ∙ stay s next t
