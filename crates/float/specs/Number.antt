-- What a sample stands for, whatever its kind. RULES.md: The kinds, Scaled numbers.
use Rattle.std.specs.Prelude.{ℕ, ◌*◌, Bool, true, false, ℤ, pos, neg_ℤ}

-- minus m when the sign is set (true), else m
abbrev pub signed_of : Bool → ℕ → ℤ
signed_of true m = neg_ℤ (pos m)
signed_of false m = pos m

-- no number, an infinity with its sign, or a sign and a magnitude: minus zero keeps its sign here
pub data Exact : Type 0 where
  not_number : Exact
  infinite : Bool → Exact
  finite : Bool → ℕ → Exact

-- a NaN stands for no number
abbrev pub is_none : Exact → Bool
is_none not_number = true
is_none (infinite s) = false
is_none (finite s m) = false

-- the same in units that are k times smaller
abbrev pub times : ℕ → Exact → Exact
times k not_number = not_number
times k (infinite s) = infinite s
times k (finite s m) = finite s (m * k)

-- the number alone: the two zeros are one
pub data Number : Type 0 where
  none minusInfinity plusInfinity : Number
  number : ℤ → Number

-- by its sign
abbrev pub infinity_of : Bool → Number
infinity_of true = minusInfinity
infinity_of false = plusInfinity

-- what it is as a number
abbrev pub number_of : Exact → Number
number_of not_number = none
number_of (infinite s) = infinity_of s
number_of (finite s m) = number (signed_of s m)
