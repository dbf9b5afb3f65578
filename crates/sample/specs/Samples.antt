-- Samples in a string of bytes, low byte first. RULES.md: Migration.
use Rattle.std.specs.Prelude.{ℕ, zero, suc, ◌/◌, ◌%◌, ◌^◌, ◌≡◌, List, [], ◌∷◌, ◌++◌, length, take, drop, get_or}
use Rattle.value.specs.declared.Kind.{Kind}
use Rattle.value.specs.declared.Value.{Value}
use Rattle.value.specs.Kinds.{bytes_of}
use Rattle.value.specs.Meaning.{value_of}
use Rattle.bytewise.specs.Numbers.{from_little_endian}

-- the numbers of the first n samples of w bytes
unfoldable pub numbers_in : ℕ → ℕ → List ℕ → List ℕ
numbers_in w zero bytes = []
numbers_in w (suc n) bytes = from_little_endian (take w bytes) ∷ numbers_in w n (drop w bytes)

-- the first n samples
unfoldable pub samples_in : Kind → ℕ → List ℕ → List Value
samples_in k zero bytes = []
samples_in k (suc n) bytes = value_of k (from_little_endian (take (bytes_of k) bytes)) ∷ samples_in k n (drop (bytes_of k) bytes)

-- how many whole samples there are, and how many bytes are left over
abbrev pub count_of : Kind → List ℕ → ℕ
count_of k bytes = length bytes / bytes_of k

abbrev pub left_of : Kind → List ℕ → ℕ
left_of k bytes = length bytes % bytes_of k

-- all whole samples
abbrev pub samples_of : Kind → List ℕ → List Value
samples_of k bytes = samples_in k (count_of k bytes) bytes

-- the sample at an index; behind the last one, the value of the bits 0
abbrev pub sample_at : Kind → List ℕ → ℕ → Value
sample_at k bytes i = get_or (samples_of k bytes) i (value_of k 0)

-- ---- block after block

-- the whole of the blocks
abbrev pub joined : List (List ℕ) → List ℕ
joined [] = []
joined (b ∷ bs) = b ++ joined bs

-- every block but the last has whole samples only
pub data WholeBlocks (k : Kind) : List (List ℕ) → Type 0 where
  none : WholeBlocks k []
  last : (b : List ℕ) → WholeBlocks k (b ∷ [])
  more : (b : List ℕ) (bs : List (List ℕ)) → left_of k b ≡ 0 → WholeBlocks k bs → WholeBlocks k (b ∷ bs)

-- a count of samples is a machine number; no input has 2^64 of them
abbrev pub counted : ℕ → ℕ
counted n = n % 2 ^ 64
