-- Digits, and the numbers that they spell.
use Rattle.std.specs.Prelude.{ℕ, ◌+◌, ◌-◌, ◌*◌, ◌%◌, ◌^◌, Bool, cond, ◌&&◌, ◌||◌, List, [], ◌∷◌, eqb, leb, ltb, length, get_or, Option, None, Some}

-- low and high and what lies between them
abbrev pub within : ℕ → ℕ → ℕ → Bool
within low high n = leb low n && leb n high

-- `0` to `9` are 0 to 9, `a` to `f` are 10 to 15
unfoldable pub digit_of : ℕ → Option ℕ
digit_of b =
    cond (within 48 57 b) (Some (b - 48))
    (cond (within 97 102 b) (Some (b - 97 + 10))
    None)

-- the digit of the last four bits
abbrev pub char_of : ℕ → ℕ
char_of n = cond (ltb (n % 16) 10) (48 + n % 16) (97 + (n % 16 - 10))

-- a digit that is below the base
abbrev pub below : ℕ → Option ℕ → Option ℕ
below base (Some d) = cond (ltb d base) (Some d) None
below base None = None

-- the digits of a base are the hex digits below it
unfoldable pub digit_in : ℕ → ℕ → Option ℕ
digit_in base b = below base (digit_of b)

-- what a digit's value gives, and malformed where there is no digit
abbrev pub with_digit : Option ℕ → (ℕ → Option ℕ) → Option ℕ
with_digit (Some d) next = next d
with_digit None next = None

-- what a number below 2^64 gives, and malformed where it isn't
abbrev pub with_word : ℕ → (ℕ → Option ℕ) → Option ℕ
with_word n next = cond (ltb n (2 ^ 64)) (next n) None

-- the number whose digits so far are n and whose further digits are these
unfoldable pub number_from : ℕ → List ℕ → ℕ → Option ℕ
number_from base [] n = Some n
number_from base (b ∷ s) n = with_digit (digit_in base b) (λ d. with_word (n * base + d) (λ m. number_from base s m))

-- 1 to 16 digits, the high one first
unfoldable pub hex_of : List ℕ → Option ℕ
hex_of s = cond (within 1 16 (length s)) (number_from 16 s 0) None

-- a zero before other digits
abbrev pub zero_ahead : List ℕ → Bool
zero_ahead s = ltb 1 (length s) && eqb (get_or s 0 0) 48

-- one digit or more, the high one first, without a zero before other digits
unfoldable pub decimal_of : List ℕ → Option ℕ
decimal_of s = cond (eqb (length s) 0 || zero_ahead s) None (number_from 10 s 0)
