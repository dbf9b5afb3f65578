-- What was seen grows sample by sample; so looking at a block behind another is looking at both joined.
use Rattle.value.specs.declared.Refusal.{Refusal}
use Rattle.std.specs.Prelude.{Option, Result}
use Rattle.std.proofs.Common.{◌≡◌, ℕ, ◌+◌, ◌<◌, Bool, true, cond, List, [], ◌∷◌, ◌++◌, length, get_or, take, sym, refl, ap, ◌∙◌}
use Rattle.std.proofs.Common.{add-one, take-suc, eq-eqb, ne_eqb}
use Rattle.value.specs.declared.Kind.{Kind}
use Rattle.value.specs.declared.Value.{Value}
use Rattle.look.specs.declared.Seen.{Seen}
use Rattle.sample.specs.Samples.{left_of, samples_of}
use Rattle.sample.specs.Refusals.{bits_to, refused_to}
use Rattle.look.specs.Report.{unlike_itself, infinite, minus_zero, lower_of, higher_of, count_if, first_of}
use Rattle.look.specs.Report.{noted_of, all_noted, left_noted, look_of}

-- ---- one sample

module _ (to : Kind) (s : Seen) (v : Value) where
  pub noted_is : {n m i z r : ℕ} {l h : Option Value} {a : Result (Unit {0}) Refusal}
      → n ≡ count_if true s.samples → m ≡ count_if (unlike_itself v) s.nans
      → i ≡ count_if (infinite v) s.infinities → z ≡ count_if (minus_zero v) s.minus_zeros
      → l ≡ lower_of s.lowest v → h ≡ higher_of s.highest v
      → r ≡ count_if (refused_to to v) s.refusable → a ≡ first_of s.answer s.samples (bits_to to v)
      → ◌≡◌ {A = Seen}
      (record { samples = n; nans = m; infinities = i; minus_zeros = z; lowest = l; highest = h; refusable = r; answer = a })
      (noted_of to s v)
  unfolding noted_of
  noted_is p q i z l h r a = rw (p, q, i, z, l, h, r, a) refl

-- ---- samples

module _ (to : Kind) where
  pub noted_joined : (s : Seen) (xs ys : List Value) → all_noted to s (xs ++ ys) ≡ all_noted to (all_noted to s xs) ys
  unfolding all_noted
  noted_joined s [] ys = refl
  noted_joined s (x ∷ xs) ys = noted_joined (noted_of to s x) xs ys

  pub noted_none : (s : Seen) → s ≡ all_noted to s []
  unfolding all_noted
  noted_none s = refl

  noted_one : (s : Seen) (v : Value) → noted_of to s v ≡ all_noted to s (v ∷ [])
  unfolding all_noted
  noted_one s v = refl

  pub noted_more : (s : Seen) (l : List Value) (i : ℕ) (d : Value) → i < length l → {v : Value} → get_or l i d ≡ v → {seen : Seen}
      → seen ≡ all_noted to s (take i l) → noted_of to seen v ≡ all_noted to s (take (i + 1) l)
  noted_more s l i d h {v} q {seen} e =
      ap (λ (x : Seen). noted_of to x v) e
      ∙ ap (noted_of to (all_noted to s (take i l))) (sym q)
      ∙ noted_one (all_noted to s (take i l)) (get_or l i d)
      ∙ sym (noted_joined s (take i l) (get_or l i d ∷ []))
      ∙ ap (all_noted to s) (sym (take-suc l i d h))
      ∙ sym (ap (λ (m : ℕ). all_noted to s (take m l)) (add-one i))

-- ---- a string of bytes

module _ (from to : Kind) (s : Seen) (src : List ℕ) where
  pub look_whole : left_of from src ≡ 0 → all_noted to s (samples_of from src) ≡ look_of from to s src
  unfolding look_of
  look_whole none = let all = all_noted to s (samples_of from src) in sym (ap (λ (t : Bool). cond t all (left_noted all)) (eq-eqb (left_of from src) 0 none))

  pub look_left : (left_of from src ≡ 0 → ⊥) → left_noted (all_noted to s (samples_of from src)) ≡ look_of from to s src
  unfolding look_of
  look_left some = let all = all_noted to s (samples_of from src) in sym (ap (λ (t : Bool). cond t all (left_noted all)) (ne_eqb (left_of from src) 0 some))
