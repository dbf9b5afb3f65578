-- The samples of a block as arrays of four bytes: their bits are the numbers that stand in the block.
use Rattle.std.specs.Simd.{first_chunks}
use Rattle.std.proofs.Common.{◌≡◌, ℕ, zero, suc, ◌-◌, ◌/◌, min, List, [], ◌∷◌, length, take, drop, refl, ap, ◌∙◌, arith}
use Rattle.bytewise.specs.Numbers.{from_little_endian}
use Rattle.sample.specs.Samples.{numbers_in}
use Rattle.sample.proofs.Samplings.{numbers_take}
use Rattle.strip.specs.Sheet.{most, taken_in}
use Rattle.strip.specs.Inner.{all_bits}

bits_of_chunks : (k : ℕ) (src : List ℕ) → all_bits (first_chunks 4 k src) ≡ numbers_in 4 k src
unfolding numbers_in
bits_of_chunks zero src = refl
bits_of_chunks (suc k) src = ap (λ (l : List ℕ). from_little_endian (take 4 src) ∷ l) (bits_of_chunks k (drop 4 src))

bits_of_front : (m : ℕ) (l : List (List ℕ)) → all_bits (take m l) ≡ take m (all_bits l)
bits_of_front zero l = refl
bits_of_front (suc m) [] = refl
bits_of_front (suc m) (x ∷ l) = ap (λ (l : List ℕ). from_little_endian x ∷ l) (bits_of_front m l)

pub taken_bits : (before : ℕ) (src : List ℕ) {l : List (List ℕ)} {m : ℕ} → l ≡ first_chunks 4 (length src / 4) src → m ≡ min (length src / 4) (most - before)
    → all_bits (take m l) ≡ taken_in before src
taken_bits before src {l} {m} q p =
    ap (λ (l : List (List ℕ)). all_bits (take m l)) q
    ∙ bits_of_front m (first_chunks 4 (length src / 4) src)
    ∙ ap (take m) (bits_of_chunks (length src / 4) src)
    ∙ numbers_take 4 (length src / 4) m src (omega arith)
    ∙ ap (λ (k : ℕ). numbers_in 4 k src) p
