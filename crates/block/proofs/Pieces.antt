-- A block that is converted row after row: the samples of a row, the room for it, and how far the buffer is filled.
use Rattle.std.proofs.Common.{◌≡◌, ℕ, ◌+◌, ◌-◌, ◌*◌, ◌<◌, ◌≤◌, List, length, take, drop, replicate, sym, ap, ◌∙◌, mul_comm}
use Rattle.std.proofs.Common.{zero-add, arith, length-drop, length-take-le, take_all}
use lib.Seq.{sets, drop-drop}
use Rattle.value.specs.declared.Kind.{Kind}
use Rattle.value.specs.Kinds.{bytes_of}
use Rattle.sample.specs.Samples.{numbers_in}
use Rattle.sample.proofs.Samplings.{length_numbers, numbers_piece}
use Rattle.block.specs.Output.{bytes_for}
use Rattle.block.proofs.Samplings.{Filled, fill_piece}
use Rattle.std.specs.Simd.{first_chunks}
use Rattle.std.proofs.Common.{zero, suc, [], refl, map, subst, get_or, drop-cons, mul-one, suc-mul, zero-mul, le_of_suc-le-suc, not-suc-le-zero}
use Rattle.bytewise.specs.Numbers.{from_little_endian}
use lib.ListN.{length-replicate}

pub place_of : (i w : ℕ) → w * i ≡ 0 + i * w
place_of i w = mul_comm w i ∙ sym (zero-add (i * w))

-- the number of one byte
pub one_here : (src : List ℕ) (i : ℕ) → i < length src → from_little_endian (take 1 (drop (i * 1) src)) ≡ get_or src i 0
unfolding from_little_endian
one_here src i h =
    ap (λ (m : ℕ). from_little_endian (take 1 (drop m src))) (mul-one i)
    ∙ ap (λ (l : List ℕ). from_little_endian (take 1 l)) (drop-cons src i 0 h)
    ∙ zero-add (get_or src i 0)

-- the bytes at an index, and the number that they are
pub chunk_here : (w k : ℕ) (src : List ℕ) (i : ℕ) → i < k → get_or (first_chunks w k src) i [] ≡ take w (drop (i * w) src)
chunk_here w zero src i h = absurd (not-suc-le-zero h)
chunk_here w (suc k) src zero h = rw (zero-mul w) refl
chunk_here w (suc k) src (suc i) h =
    chunk_here w k (drop w src) i (le_of_suc-le-suc h)
    ∙ ap (take w) (drop-drop (i * w) w src)
    ∙ ap (λ (m : ℕ). take w (drop m src)) (omega (arith, suc-mul i w))

-- a number that is read of so many bytes is the number at their index
pub number_read : (w : ℕ) (f : List ℕ → ℕ) → ((l : List ℕ) → length l ≡ w → f l ≡ from_little_endian l) → (src : List ℕ) {chunks : List (List ℕ)} {k : ℕ}
    → chunks ≡ first_chunks w k src → (i : ℕ) → i < k → w * i + w ≤ length src → f (get_or chunks i []) ≡ from_little_endian (take w (drop (i * w) src))
number_read w f same src q i h room =
    let own = ap (λ (l : List (List ℕ)). get_or l i []) q ∙ chunk_here w _ src i h in
    let size = ap length own ∙ length-take-le w (drop (i * w) src) (rw (length-drop (i * w) src) (omega (arith, mul_comm w i))) in
    same _ size ∙ ap from_little_endian own

-- the slice from a place to the end
pub rest_is : {A : Type 0} (at : ℕ) (l : List A) → take (length l - at) (drop at l) ≡ drop at l
rest_is at l = take_all (length l - at) (drop at l) (rw (length-drop at l) (omega arith))

-- the first n places of a row
pub places : {A : Type 0} (n m : ℕ) (x : A) → n ≤ m → length (take n (replicate m x)) ≡ n
places {A} n m x few = length-take-le n (replicate m x) (rw (length-replicate {A = A} m x) few)

-- the next j of n numbers are laid down
pub fill_numbers : (k : Kind) (f : ℕ → ℕ) (w n : ℕ) (src old : List ℕ) (i j t : ℕ) → i + j ≡ t → t ≤ n → {v : ℕ} → v ≡ bytes_of k → (now : List ℕ)
    → Filled k f (numbers_in w n src) old 0 now i → {m : ℕ} → m ≡ j
    → {new : List ℕ} → new ≡ sets now (v * i) (bytes_for k (map f (numbers_in w m (drop (w * i) src)))) → Filled k f (numbers_in w n src) old 0 new t
fill_numbers k f w n src old i j t p h {v} q now filled {m} many {new} e =
    let own : numbers_in w m (drop (w * i) src) ≡ take j (drop i (numbers_in w n src)) =
    ap (λ (u : ℕ). numbers_in w u (drop (w * i) src)) many ∙ numbers_piece w n i j src (omega arith) in
    subst (Filled k f (numbers_in w n src) old 0 new) p
    (fill_piece k f (numbers_in w n src) old 0 i j (rw (length_numbers w n src) (omega arith)) now (v * i)
    (ap (λ (u : ℕ). u * i) q ∙ place_of i (bytes_of k)) filled
    (e ∙ ap (λ (l : List ℕ). sets now (v * i) (bytes_for k (map f l))) own))

-- a row that was read of the slice from a sample on
pub row_read : {A : Type 0} (f : ℕ → A) (w i n : ℕ) (src : List ℕ) {v m : ℕ} → v ≡ w → m ≡ n
    → map f (numbers_in w m (take (length src - v * i) (drop (v * i) src))) ≡ map f (numbers_in w n (drop (w * i) src))
row_read f w i n src {v} q p = rw (p, rest_is (v * i) src, q) refl
