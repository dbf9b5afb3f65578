-- Places filled from the front: one more is set at the place behind those that are filled.
use mathlib.Core.Path.{◌≡◌, refl, ap}
use mathlib.Core.List.{List, [], ◌∷◌, ◌++◌}
use Prim.Native.Nat.{ℕ, zero, suc, ◌+◌, ◌<◌}
use native.Mathlib.Nat.{le_of_suc-le-suc}
use native.Mathlib.Numerals.{add-one}
use native.Mathlib.Omega.{arith}
use lib.ListN.{length, take, set, get_or}
use lib.Seq.{take-suc, length-take-le}
use Rattle.silamogo.specs.Records.{padded}

module _ {A : Type 0} (none : A) where
  padded_snoc : (n : ℕ) (xs : List A) (x : A) → length xs < n → set (padded n none xs) (length xs) x ≡ padded n none (xs ++ (x ∷ []))
  unfolding padded
  padded_snoc zero xs x h = absurd (omega arith)
  padded_snoc (suc n) [] x h = refl
  padded_snoc (suc n) (y ∷ ys) x h = ap (λ (l : List A). y ∷ l) (padded_snoc n ys x (le_of_suc-le-suc h))

  pub padded_length : (n : ℕ) (xs : List A) → length (padded n none xs) ≡ n
  unfolding padded
  padded_length zero xs = refl
  padded_length (suc n) [] = ap suc (padded_length n [])
  padded_length (suc n) (x ∷ xs) = ap suc (padded_length n xs)

  module _ (n : ℕ) (xs : List A) (at : ℕ) where
    pub one_more : at < length xs → at < n → (d : A) {x : A} → x ≡ get_or xs at d → set (padded n none (take at xs)) at x ≡ padded n none (take (at + 1) xs)
    one_more h g d {x} q =
        let l : length (take at xs) ≡ at = length-take-le at xs (omega arith) in
        let put : set (padded n none (take at xs)) (length (take at xs)) x ≡ padded n none (take at xs ++ (x ∷ [])) =
        padded_snoc n (take at xs) x (omega arith) in
        rw (add-one at, take-suc xs at d h, ← q) (rw l at put)
