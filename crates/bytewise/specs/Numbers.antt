-- Numbers as bytes, high or low byte first. RULES.md: Keys, Migration.
use Rattle.std.specs.Prelude.{ℕ, zero, suc, ◌+◌, ◌*◌, ◌/◌, ◌%◌, ◌<◌, List, [], ◌∷◌, ◌++◌}

-- every number of the list is a byte
pub data Bytes : List ℕ → Type 0 where
  none : Bytes []
  more : (x : ℕ) (xs : List ℕ) → x < 256 → Bytes xs → Bytes (x ∷ xs)

-- ---- high byte first

-- the last k bytes of n
unfoldable pub big_endian : ℕ → ℕ → List ℕ
big_endian zero n = []
big_endian (suc k) n = big_endian k (n / 256) ++ (n % 256 ∷ [])

-- the number whose bytes these are; n stands before them
unfoldable pub from_big_endian : ℕ → List ℕ → ℕ
from_big_endian n [] = n
from_big_endian n (x ∷ xs) = from_big_endian (n * 256 + x) xs

-- ---- low byte first

-- the last k bytes of n
unfoldable pub little_endian : ℕ → ℕ → List ℕ
little_endian zero n = []
little_endian (suc k) n = n % 256 ∷ little_endian k (n / 256)

-- the number whose bytes these are
unfoldable pub from_little_endian : List ℕ → ℕ
from_little_endian [] = 0
from_little_endian (x ∷ xs) = from_little_endian xs * 256 + x
