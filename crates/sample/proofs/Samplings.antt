-- Where the samples of a string of bytes stand.
use mathlib.Core.Path.{◌≡◌, refl, sym, ◌∙◌, ap, subst}
use mathlib.Core.List.{List, [], ◌∷◌, ◌++◌, map}
use Prim.Native.Nat.{ℕ, zero, suc, ◌+◌, ◌*◌, ◌≤◌, ◌<◌}
use native.Mathlib.Nat.{zero-mul, mul-zero, suc-mul, mul-suc, add_comm, le_trans, mul-le-mul_right, le_of_suc-le-suc, not-suc-le-zero}
use native.Mathlib.Omega.{arith}
use lib.ListN.{length, take, drop, get_or}
use lib.Seq.{drop-drop}
use Rattle.value.specs.declared.Kind.{Kind}
use Rattle.value.specs.declared.Value.{Value}
use Rattle.value.specs.Meaning.{value_of}
use Rattle.value.specs.Kinds.{bytes_of}
use Rattle.bytewise.specs.Numbers.{from_little_endian}
use Rattle.sample.specs.Samples.{numbers_in, samples_in, count_of, samples_of, sample_at}

-- the last byte of the sample at i is inside
pub sample_inside : (i n w l : ℕ) → i < n → n * w ≤ l → i * w + w ≤ l
sample_inside i n w l h k = subst (λ (m : ℕ). m ≤ l) (suc-mul i w) (le_trans (mul-le-mul_right w h) k)

-- the samples are the values of the numbers that their bytes make
pub samples_numbers : (k : Kind) (n : ℕ) (bytes : List ℕ) → samples_in k n bytes ≡ map (value_of k) (numbers_in (bytes_of k) n bytes)
unfolding samples_in numbers_in
samples_numbers k zero bytes = refl
samples_numbers k (suc n) bytes =
    ap (λ (l : List Value). value_of k (from_little_endian (take (bytes_of k) bytes)) ∷ l) (samples_numbers k n (drop (bytes_of k) bytes))

pub length_numbers : (w n : ℕ) (bytes : List ℕ) → length (numbers_in w n bytes) ≡ n
unfolding numbers_in
length_numbers w zero bytes = refl
length_numbers w (suc n) bytes = ap suc (length_numbers w n (drop w bytes))

-- past one sample, and past i more
past : (w i : ℕ) (bytes : List ℕ) → drop (i * w) (drop w bytes) ≡ drop (suc i * w) bytes
past w i bytes = drop-drop (i * w) w bytes ∙ ap (λ (m : ℕ). drop m bytes) (add_comm w (i * w) ∙ sym (suc-mul i w))

pub number_here : (w n : ℕ) (bytes : List ℕ) (i d : ℕ) → i < n → get_or (numbers_in w n bytes) i d ≡ from_little_endian (take w (drop (i * w) bytes))
unfolding numbers_in
number_here w zero bytes i d h = absurd (not-suc-le-zero h)
number_here w (suc n) bytes zero d h = rw (zero-mul w) refl
number_here w (suc n) bytes (suc i) d h =
    number_here w n (drop w bytes) i d (le_of_suc-le-suc h)
    ∙ ap (λ (l : List ℕ). from_little_endian (take w l)) (past w i bytes)

-- one number more
pub numbers_last : (w n : ℕ) (bytes : List ℕ) → numbers_in w (suc n) bytes ≡ numbers_in w n bytes ++ (from_little_endian (take w (drop (n * w) bytes)) ∷ [])
unfolding numbers_in
numbers_last w zero bytes = rw (zero-mul w) refl
numbers_last w (suc n) bytes =
    ap (λ (l : List ℕ). from_little_endian (take w bytes) ∷ l)
    (numbers_last w n (drop w bytes) ∙ ap (λ (l : List ℕ). numbers_in w n (drop w bytes) ++ (from_little_endian (take w l) ∷ [])) (past w n bytes))

pub numbers_take : (w n j : ℕ) (bytes : List ℕ) → j ≤ n → take j (numbers_in w n bytes) ≡ numbers_in w j bytes
unfolding numbers_in
numbers_take w n zero bytes h = refl
numbers_take w zero (suc j) bytes h = absurd (not-suc-le-zero h)
numbers_take w (suc n) (suc j) bytes h = ap (λ (l : List ℕ). from_little_endian (take w bytes) ∷ l) (numbers_take w n j (drop w bytes) (le_of_suc-le-suc h))

-- some of the numbers, from their bytes
pub numbers_piece : (w n i j : ℕ) (bytes : List ℕ) → i + j ≤ n → numbers_in w j (drop (w * i) bytes) ≡ take j (drop i (numbers_in w n bytes))
unfolding numbers_in
numbers_piece w n zero j bytes h = rw (mul-zero w) (sym (numbers_take w n j bytes (omega arith)))
numbers_piece w zero (suc i) j bytes h = absurd (omega arith)
numbers_piece w (suc n) (suc i) j bytes h =
    ap (λ (m : ℕ). numbers_in w j (drop m bytes)) (mul-suc w i ∙ add_comm (w * i) w)
    ∙ ap (numbers_in w j) (sym (drop-drop (w * i) w bytes))
    ∙ numbers_piece w n i j (drop w bytes) (omega arith)

pub length_samples : (k : Kind) (n : ℕ) (bytes : List ℕ) → length (samples_in k n bytes) ≡ n
unfolding samples_in
length_samples k zero bytes = refl
length_samples k (suc n) bytes = ap suc (length_samples k n (drop (bytes_of k) bytes))

pub sample_here : (k : Kind) (n : ℕ) (bytes : List ℕ) (i : ℕ) (d : Value) → i < n
    → get_or (samples_in k n bytes) i d ≡ value_of k (from_little_endian (take (bytes_of k) (drop (i * bytes_of k) bytes)))
unfolding samples_in
sample_here k zero bytes i d h = absurd (not-suc-le-zero h)
sample_here k (suc n) bytes zero d h = rw (zero-mul (bytes_of k)) refl
sample_here k (suc n) bytes (suc i) d h =
    sample_here k n (drop (bytes_of k) bytes) i d (le_of_suc-le-suc h)
    ∙ ap (λ (l : List ℕ). value_of k (from_little_endian (take (bytes_of k) l))) (past (bytes_of k) i bytes)

-- ---- the sample at an index

behind : {A : Type 0} (l : List A) (i : ℕ) (d : A) → length l ≤ i → get_or l i d ≡ d
behind [] i d h = refl
behind (x ∷ l) zero d h = absurd (not-suc-le-zero h)
behind (x ∷ l) (suc i) d h = behind l i d (le_of_suc-le-suc h)

module _ (k : Kind) (bytes : List ℕ) (i : ℕ) where
  pub at_here : i < count_of k bytes → value_of k (from_little_endian (take (bytes_of k) (drop (i * bytes_of k) bytes))) ≡ sample_at k bytes i
  at_here h = sym (sample_here k (count_of k bytes) bytes i (value_of k 0) h)

  pub at_behind : count_of k bytes ≤ i → value_of k 0 ≡ sample_at k bytes i
  at_behind h = sym (behind (samples_of k bytes) i (value_of k 0) (rw (length_samples k (count_of k bytes) bytes) h))
