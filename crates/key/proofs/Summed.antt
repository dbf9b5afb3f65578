-- The bytes of what has a kind, summed up, are those of the kinds.
use Prim.Native.Nat.{ℕ, ◌+◌}
use mathlib.Core.Path.{◌≡◌, refl, ◌∙◌, ap}
use mathlib.Core.List.{List, [], ◌∷◌, map}
use Rattle.std.specs.Prelude.{sum_by}
use Rattle.std.proofs.lemmas.List.Sums.{sum_by-cons}
use Rattle.value.specs.declared.Kind.{Kind}
use Rattle.value.specs.Kinds.{bytes_of}
use Rattle.key.specs.Key.{bytes_in}

pub sum_bytes : {A : Type 0} (kind : A → Kind) (xs : List A) → sum_by (λ x. bytes_of (kind x)) xs ≡ bytes_in (map kind xs)
unfolding bytes_in
sum_bytes kind [] = refl
sum_bytes kind (x ∷ xs) = sum_by-cons _ x xs ∙ ap (λ (n : ℕ). bytes_of (kind x) + n) (sum_bytes kind xs)
