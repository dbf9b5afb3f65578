-- Writing a row sample by sample: what came before i is written, what comes from i on still stands.
use mathlib.Core.Path.{◌≡◌, refl, sym, ◌∙◌, ap}
use mathlib.Core.List.{List, [], ◌∷◌, ◌++◌, map, append-nil}
use Prim.Native.Nat.{ℕ, zero, suc, ◌+◌, ◌≤◌, ◌<◌}
use native.Mathlib.Nat.{le_of_suc-le-suc, not-suc-le-zero}
use native.Mathlib.Numerals.{add-one}
use native.Mathlib.Omega.{arith}
use lib.ListN.{length, get_or, take, drop, set, length-set, length-map, drop_of_length-le}
use lib.Seq.{take_all}

-- the first i samples are r's, the others still t's
abbrev pub written : {B : Type 0} → List B → List B → ℕ → List B
written r t i = take i r ++ drop i t

store : {B : Type 0} (r t : List B) (i : ℕ) (v : B) → i < length r → i < length t → get_or r i v ≡ v → set (written r t i) i v ≡ written r t (suc i)
store [] t i v h k e = absurd (not-suc-le-zero h)
store (x ∷ xs) [] i v h k e = absurd (not-suc-le-zero k)
store (x ∷ xs) (y ∷ ys) zero v h k e = ap (λ w. w ∷ ys) (sym e)
store (x ∷ xs) (y ∷ ys) (suc i) v h k e = ap (λ l. x ∷ l) (store xs ys i v (le_of_suc-le-suc h) (le_of_suc-le-suc k) e)

pub mapped_at : {A B : Type 0} (f : A → B) (s : List A) (i : ℕ) (d : A) (z : B) → i < length s → get_or (map f s) i z ≡ f (get_or s i d)
mapped_at f [] i d z h = absurd (not-suc-le-zero h)
mapped_at f (x ∷ xs) zero d z h = refl
mapped_at f (x ∷ xs) (suc i) d z h = mapped_at f xs i d z (le_of_suc-le-suc h)

module _ {A B : Type 0} (f : A → B) where
  -- the loop's invariant, a turn and its end
  abbrev pub Written : List A → List B → List B → ℕ → Type 0
  Written s t now i = (i ≤ length s) × (now ≡ written (map f s) t i) × (length now ≡ length t)

  pub write_step : (s : List A) (t now : List B) (i : ℕ) (d : A) (v : B) → i < length s → length s ≡ length t → Written s t now i
      → v ≡ f (get_or s i d) → Written s t (set now i v) (i + 1)
  write_step s t now i d v h n w e = (
    omega arith,
    ap (λ l. set l i v) w.1
        ∙ store (map f s) t i v (rw (length-map s f) h) (omega arith) (mapped_at f s i d v h ∙ sym e)
        ∙ rw add-one refl,
    length-set now i v ∙ w.2,
  )

  pub write_end : (s : List A) (t now : List B) (i : ℕ) → length s ≤ i → length s ≡ length t → Written s t now i → now ≡ map f s
  write_end s t now i h n w =
      let k : length t ≤ i = omega arith in
      w.1 ∙ rw (take_all i (map f s) (rw (length-map s f) h), drop_of_length-le t k, append-nil)
