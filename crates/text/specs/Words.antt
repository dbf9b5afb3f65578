-- Words as lists of bytes: the place of a byte, equality, the words that spaces part, and their numbers.
use Rattle.std.specs.Prelude.{ℕ, zero, suc, ◌+◌, Bool, true, false, cond, ◌&&◌, List, [], ◌∷◌, eqb, take, drop}

-- the place of the first b, or the length where there is none
unfoldable pub place_of : ℕ → List ℕ → ℕ
place_of b [] = 0
place_of b (x ∷ s) = cond (eqb x b) 0 (suc (place_of b s))

-- what stands before the first b, and what follows it
abbrev pub before_of : ℕ → List ℕ → List ℕ
before_of b s = take (place_of b s) s

abbrev pub after_of : ℕ → List ℕ → List ℕ
after_of b s = drop (place_of b s + 1) s

-- the same bytes in the same order
unfoldable pub same_bytes : List ℕ → List ℕ → Bool
same_bytes [] [] = true
same_bytes [] (y ∷ t) = false
same_bytes (x ∷ s) [] = false
same_bytes (x ∷ s) (y ∷ t) = eqb x y && same_bytes s t

-- these words with b before the first
abbrev pub begun : ℕ → List (List ℕ) → List (List ℕ)
begun b [] = (b ∷ []) ∷ []
begun b (w ∷ ws) = (b ∷ w) ∷ ws

-- the words of a text, which single spaces part
unfoldable pub words_of : List ℕ → List (List ℕ)
words_of [] = [] ∷ []
words_of (b ∷ s) = cond (eqb b 32) ([] ∷ words_of s) (begun b (words_of s))

-- the place of the first word that is s, or how many there are
unfoldable pub number_among : List ℕ → List (List ℕ) → ℕ
number_among s [] = 0
number_among s (w ∷ ws) = cond (same_bytes s w) 0 (suc (number_among s ws))

-- the word at a place, or the empty word
unfoldable pub nth_of : ℕ → List (List ℕ) → List ℕ
nth_of n [] = []
nth_of zero (w ∷ ws) = w
nth_of (suc n) (w ∷ ws) = nth_of n ws
