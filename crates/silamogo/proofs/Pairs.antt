-- Kind numbers and bits, pair by pair, and the first pair whose bits its kind does not have.
use mathlib.Core.Path.{◌≡◌, refl, ap}
use mathlib.Core.Bool.{Bool, true, false, cond}
use mathlib.Core.List.{List, [], ◌∷◌, map}
use Prim.Native.Nat.{ℕ, zero, suc}
use native.Mathlib.Omega.{arith}
use lib.Dec.{ltb}
use lib.ListN.{length, get_or, length-map}
use Rattle.std.specs.Prelude.{Option, Some, None}
use Rattle.std.specs.List.{zip, position_or_len}
use Rattle.std.proofs.lemmas.List.Recursion.{is_position_or_len}
use Rattle.value.specs.Outcome.{Outcome, gives, refuses, refuse_if}
use Rattle.value.specs.Rules.{chain}
use Rattle.silamogo.specs.declared.Sample.{Sample}
use Rattle.silamogo.specs.Samples.{too_wide, first_wide, wide_rule}
use Rattle.silamogo.specs.Records.{sample_for, paired_samples}

pub pairs_length : (ns bs : List ℕ) → length ns ≡ length bs → length (paired_samples ns bs) ≡ length ns
unfolding paired_samples
pairs_length [] bs q = refl
pairs_length (n ∷ ns) [] q = absurd (omega arith)
pairs_length (n ∷ ns) (b ∷ bs) q = ap suc (pairs_length ns bs (omega arith))

pub pair_at : (ns bs : List ℕ) → length ns ≡ length bs → (at : ℕ) →
    get_or (paired_samples ns bs) at (sample_for 0 0) ≡ sample_for (get_or ns at 0) (get_or bs at 0)
unfolding paired_samples
pair_at [] [] q at = refl
pair_at [] (b ∷ bs) q at = absurd (omega arith)
pair_at (n ∷ ns) [] q at = absurd (omega arith)
pair_at (n ∷ ns) (b ∷ bs) q zero = refl
pair_at (n ∷ ns) (b ∷ bs) q (suc at) = pair_at ns bs (omega arith) at

-- ---- the first pair whose bits its kind doesn't have

abbrev pub sample_in : ℕ × ℕ → Sample
sample_in p = sample_for p.0 p.1

abbrev pub wide_in : ℕ × ℕ → Bool
wide_in p = too_wide (sample_in p)

pairs_zipped : (ns bs : List ℕ) → paired_samples ns bs ≡ map sample_in (zip ns bs)
unfolding paired_samples
pairs_zipped [] bs = refl
pairs_zipped (n ∷ ns) [] = refl
pairs_zipped (n ∷ ns) (b ∷ bs) = ap (λ (ss : List Sample). sample_for n b ∷ ss) (pairs_zipped ns bs)

first_position : (ps : List (ℕ × ℕ)) → first_wide (map sample_in ps) ≡ position_or_len wide_in ps
unfolding first_wide
first_position = is_position_or_len (λ ps. first_wide (map sample_in ps)) wide_in refl (λ p ps. ap (cond (wide_in p) 0) (omega arith))

-- what is said of where it was found
abbrev pub found_wide : Option ℕ → Outcome (Unit {0})
found_wide (Some at) = refuses 4 at
found_wide None = gives tt

found_if : (t : Bool) (at : ℕ) → found_wide (cond t (Some at) None) ≡ refuse_if t 4 at (gives tt)
found_if true at = refl
found_if false at = refl

pub found_is : (ns bs : List ℕ) {o : Option ℕ}
    → o ≡ cond (ltb (position_or_len wide_in (zip ns bs)) (length (zip ns bs))) (Some (position_or_len wide_in (zip ns bs))) None
    → found_wide o ≡ chain (wide_rule (paired_samples ns bs) ∷ []) (gives tt)
found_is ns bs q = rw (q, pairs_zipped ns bs, first_position (zip ns bs), length-map (zip ns bs) sample_in) (found_if _ _)
