-- The places that two lists share: as many as the shorter one has, the one at an index by the two samples there, and joined where the lists are.
use Rattle.std.proofs.Common.{◌≡◌, ℕ, zero, suc, ◌<◌, ◌≤◌, min, max, List, [], ◌∷◌, ◌++◌, length, get_or, take, refl, ap}
use Rattle.std.proofs.Common.{le_of_suc-le-suc, not-suc-le-zero, arith}
use Rattle.strip.specs.Difference.{Pair, shared, widest_of}

-- ---- two lists

pub shared_count : (a b : List ℕ) → length (shared a b) ≡ min (length a) (length b)
unfolding shared
shared_count [] b = omega arith
shared_count (x ∷ a) [] = omega arith
shared_count (x ∷ a) (y ∷ b) = let h = shared_count a b in omega (arith, h)

pub shared_place : (a b : List ℕ) (i : ℕ) (d : Pair) → i < length (shared a b) → get_or (shared a b) i d ≡ record { left = get_or a i 0; right = get_or b i 0 }
unfolding shared
shared_place [] b i d h = absurd (not-suc-le-zero h)
shared_place (x ∷ a) [] i d h = absurd (not-suc-le-zero h)
shared_place (x ∷ a) (y ∷ b) zero d h = refl
shared_place (x ∷ a) (y ∷ b) (suc i) d h = shared_place a b i d (le_of_suc-le-suc h)

shared_take : (n : ℕ) (a b : List ℕ) → shared (take n a) (take n b) ≡ take n (shared a b)
unfolding shared
shared_take zero a b = refl
shared_take (suc n) [] b = refl
shared_take (suc n) (x ∷ a) [] = refl
shared_take (suc n) (x ∷ a) (y ∷ b) = ap (λ (ps : List Pair). record { left = x; right = y } ∷ ps) (shared_take n a b)

-- behind lists of one length
pub shared_joined : (a b c d : List ℕ) → length a ≡ length c → shared (a ++ b) (c ++ d) ≡ shared a c ++ shared b d
unfolding shared
shared_joined [] b [] d h = refl
shared_joined [] b (y ∷ c) d h = absurd (omega (arith, h))
shared_joined (x ∷ a) b [] d h = absurd (omega (arith, h))
shared_joined (x ∷ a) b (y ∷ c) d h =
    ap (λ (ps : List Pair). record { left = x; right = y } ∷ ps) (shared_joined a b c d (omega (arith, h)))

-- behind the end of the shorter one
pub shared_left_ends : (a c d : List ℕ) → length a ≤ length c → shared a (c ++ d) ≡ shared a c
unfolding shared
shared_left_ends [] c d h = refl
shared_left_ends (x ∷ a) [] d h = absurd (not-suc-le-zero h)
shared_left_ends (x ∷ a) (y ∷ c) d h = ap (λ (ps : List Pair). record { left = x; right = y } ∷ ps) (shared_left_ends a c d (le_of_suc-le-suc h))

pub shared_right_ends : (a b c : List ℕ) → length c ≤ length a → shared (a ++ b) c ≡ shared a c
unfolding shared
shared_right_ends [] [] [] h = refl
shared_right_ends [] (x ∷ b) [] h = refl
shared_right_ends [] b (y ∷ c) h = absurd (not-suc-le-zero h)
shared_right_ends (x ∷ a) b [] h = refl
shared_right_ends (x ∷ a) b (y ∷ c) h = ap (λ (ps : List Pair). record { left = x; right = y } ∷ ps) (shared_right_ends a b c (le_of_suc-le-suc h))

pub none_shared : (a : List ℕ) → shared a [] ≡ []
unfolding shared
none_shared [] = refl
none_shared (x ∷ a) = refl

-- ---- the largest distance

pub widest_joined : (ps qs : List Pair) → widest_of (ps ++ qs) ≡ max (widest_of ps) (widest_of qs)
unfolding widest_of
widest_joined [] qs = omega arith
widest_joined (p ∷ ps) qs = let h = widest_joined ps qs in omega (arith, h)
