-- The four pairs that have row calls: each sample converts in its row as it does in its block, so the block is answered as its rows are.
use Rattle.std.proofs.Common.{◌≡◌, ℕ, zero, suc, ◌/◌, ◌^◌, ◌<◌, ◌≤◌, Bool, false, not, T, List, [], ◌∷◌, ◌++◌, map, length, get_or, take, drop}
use Rattle.std.proofs.Common.{pos, sym, refl, ap, ◌∙◌, subst, le_of_suc-le-suc, not-suc-le-zero, mod-eq_of_lt, zero-add, div-one, arith}
use Rattle.std.proofs.Common.{take-append-drop, length-take-le}
use lib.Seq.{sets, sets-eq}
use lib.Ieee.{Float, nan, inf, fin, binary32, is_nan, of_bits, to_bits}
use lib.Ieee.Bits.{to_bits-lt}
use lib.Ieee.Exact.{HasValue}
use lib.Ieee.Fits.{of_int-fits}
use Rattle.value.specs.declared.Kind.TheVariants as kind
use Rattle.value.specs.declared.Value.TheVariants.{U8, U16}
use Rattle.value.specs.Meaning.{bits_of, f32_value, value_of}
use Rattle.value.specs.Outcome.{Outcome, gives, refuses, mapped, Success, done}
use Rattle.value.proofs.FloatBits.{bits_pattern}
use Rattle.convert.specs.Convert.{convert_of, made_in}
use Rattle.convert.proofs.Exactly.{complete}
use Rattle.float.proofs.Tests.{neither, clash}
use Rattle.value.proofs.Outcomes.{refused_unchanged}
use Rattle.row.specs.Row.{any, row_results, sample_before}
use Rattle.row.specs.Convert.{u8_to_u16, u16_to_u8, u16_to_f32, f32_to_u16, convert_answer, convert_exit}
use Rattle.row.specs.Inner.{as_f32}
use Rattle.row.proofs.ConvertRow.{always_done}
use Rattle.row.proofs.F32Sample.{bits_are, any_word}
use Rattle.row.proofs.IntoUnsigned.{u8_wider, narrow_small}
use Rattle.row.proofs.IntoF32.{cast_value, encoded, same_number, u16_float}
use Rattle.value.specs.Kinds.{bytes_of}
use Rattle.bytewise.specs.Numbers.{from_little_endian, little_endian}
use Rattle.sample.specs.Samples.{count_of, samples_of, numbers_in}
use Rattle.sample.specs.Refusals.{bits_to}
use Rattle.sample.proofs.Samplings.{length_numbers}
use Rattle.block.specs.Output.{bytes_for}
use Rattle.block.specs.Inner.{plain_bits, floated_bits}
use Rattle.block.proofs.Blocks.{BlockAnswers}
use Rattle.row.proofs.Rows.{results_length}
use Rattle.block.proofs.Rowing.{map_same, map_both, Agree, row_is, left_is, row_gives, row_refuses, row_always, numbers_small, agree_by}

-- ---- one sample

pub mapped_same : (o : Outcome ℕ) → o ≡ mapped (λ n. n) o
mapped_same (gives n) = refl
mapped_same (refuses m p) = refl

u8_sample : (b : ℕ) → b < 2 ^ 8 → bits_to kind.U16 (value_of kind.U8 b) ≡ mapped (λ n. n) (u8_to_u16 b)
unfolding bits_to value_of u8_to_u16
u8_sample b small = ap (λ (n : ℕ). mapped bits_of (convert_of (U8 n) kind.U16)) (mod-eq_of_lt small) ∙ mapped_same (mapped bits_of (convert_of (U8 b) kind.U16))

u16_narrowed : (b : ℕ) → b < 2 ^ 16 → bits_to kind.U8 (value_of kind.U16 b) ≡ mapped (λ n. n) (u16_to_u8 b)
unfolding bits_to value_of u16_to_u8
u16_narrowed b small =
    ap (λ (n : ℕ). mapped bits_of (convert_of (U16 n) kind.U8)) (mod-eq_of_lt small) ∙ mapped_same (mapped bits_of (convert_of (U16 b) kind.U8))

module _ (n : ℕ) (small : n < 2 ^ 16) where
  u16_pattern : convert_of (U16 n) kind.F32 ≡ gives (f32_value (to_bits binary32 (as_f32 n)))
  unfolding made_in
  u16_pattern =
      complete (U16 n) kind.F32 (λ q. omega arith) (to_bits binary32 (as_f32 n)) (λ q. clash cc) refl (same_number n small)
      ∙ ap (λ (b : ℕ). gives (f32_value b)) (encoded n small)

  u16_bits : bits_to kind.F32 (U16 n) ≡ mapped plain_bits (u16_to_f32 n)
  unfolding bits_to
  u16_bits =
      ap (mapped bits_of) u16_pattern
      ∙ ap gives (bits_pattern binary32 (to_bits binary32 (as_f32 n)) (to_bits-lt binary32 (as_f32 n) (of_int-fits binary32 (pos n)))
      ∙ sym (bits_are (as_f32 n)))
      ∙ sym (ap (mapped plain_bits) (u16_float n small))

u16_floated : (b : ℕ) → b < 2 ^ 16 → bits_to kind.F32 (value_of kind.U16 b) ≡ mapped plain_bits (u16_to_f32 b)
unfolding value_of
u16_floated b small = ap (λ (n : ℕ). bits_to kind.F32 (U16 n)) (mod-eq_of_lt small) ∙ u16_bits b small

f32_sample : (b : ℕ) → b < 2 ^ 32 → bits_to kind.U16 (value_of kind.F32 b) ≡ mapped (λ n. n) (f32_to_u16 (of_bits binary32 b))
unfolding bits_to value_of
f32_sample b small =
    ap (λ (c : ℕ). mapped bits_of (convert_of (f32_value c) kind.U16)) (mod-eq_of_lt small)
    ∙ any_word (of_bits binary32 b) _
    ∙ mapped_same (f32_to_u16 (of_bits binary32 b))

-- ---- u8 to u16

-- the second row, as no sample is refused
pub widened_row : (xs ys : List ℕ) → length xs ≡ length ys →
    ((i : ℕ) → i < length xs → get_or xs i 0 < 2 ^ 8) → convert_exit u8_to_u16 xs ys ≡ map (λ (n : ℕ). n) xs
widened_row xs ys same all = sym (always_done u8_to_u16 xs ys (λ n. n) (λ n. n < 2 ^ 8) 0 u8_wider same all (map (λ (n : ℕ). n) xs) refl).1

pub numbers_one : (src : List ℕ) → numbers_in 1 (length src) src ≡ src
unfolding numbers_in from_little_endian
numbers_one [] = refl
numbers_one (x ∷ xs) = rw (zero-add x, numbers_one xs) refl

pub widened_block : (src old : List ℕ) → count_of kind.U8 src ≤ length old / bytes_of kind.U16 → ((i : ℕ) → get_or src i 0 < 256)
    → {now : List ℕ} → now ≡ sets old 0 (bytes_for kind.U16 (map (λ (n : ℕ). n) src)) → BlockAnswers kind.U8 kind.U16 src old (gives done) now
widened_block src old room bytes {now} q =
    let row : src ≡ map (λ (n : ℕ). n) (numbers_in 1 (count_of kind.U8 src) src) =
    sym (map_same (numbers_in 1 (count_of kind.U8 src) src) ∙ ap (λ (m : ℕ). numbers_in 1 m src) (div-one (length src)) ∙ numbers_one src) in
    let w = agree_by kind.U8 kind.U16 u8_to_u16 (λ n. n) (λ n. n) u8_sample src bytes src row in
    row_always kind.U8 kind.U16 src old room u8_to_u16 (λ n. n) (λ n. n) (λ n. n < 2 ^ 8) u8_wider src 0 w.0 w.1 (λ i h. bytes i)
    (q ∙ ap (λ (l : List ℕ). sets old 0 (bytes_for kind.U16 (map (λ (n : ℕ). n) l))) (sym (map_same src)))

-- ---- u16 to f32

-- where none passes a test, that at a place doesn't
pub fails_here : {A : Type 0} (test : A → Bool) (l : List A) (i : ℕ) (d : A) → any test l ≡ false → i < length l → test (get_or l i d) ≡ false
unfolding any
fails_here test [] i d h l = absurd (not-suc-le-zero l)
fails_here test (x ∷ xs) zero d h l = (neither (test x) (any test xs) h).0
fails_here test (x ∷ xs) (suc i) d h l = fails_here test xs i d (neither (test x) (any test xs) h).1 (le_of_suc-le-suc l)

pub none_here : {A : Type 0} (test : A → Bool) (l : List A) (i : ℕ) (d : A) → any test l ≡ false → i < length l → T (not (test (get_or l i d)))
none_here test l i d h k = subst (λ (b : Bool). T (not b)) (sym (fails_here test l i d h k)) tt

-- no cast is a NaN
cast_number : (x : Float) (s : Bool) (n : ℕ) → HasValue x s n 1 → is_nan x ≡ false
unfolding is_nan
cast_number nan s n v = absurd v
cast_number (inf t) s n v = refl
cast_number (fin t m e) s n v = refl

pub casts_numbers : (xs : List ℕ) → ((i : ℕ) → i < length xs → get_or xs i 0 < 2 ^ 16) → any is_nan (map as_f32 xs) ≡ false
unfolding any
casts_numbers [] all = refl
casts_numbers (x ∷ xs) all = rw (cast_number (as_f32 x) false x (cast_value x (all 0 (omega arith)))) (casts_numbers xs (λ i h. all (suc i) (omega arith)))

pub floated_row : (xs : List ℕ) (ys : List Float) → length xs ≡ length ys → ((i : ℕ) → i < length xs → get_or xs i 0 < 2 ^ 16)
    → convert_exit u16_to_f32 xs ys ≡ map as_f32 xs
floated_row xs ys same all = sym (always_done u16_to_f32 xs ys as_f32 (λ n. n < 2 ^ 16) 0 u16_float same all (map as_f32 xs) refl).1

pub floated_block : (src old : List ℕ) {n : ℕ} → n ≡ count_of kind.U16 src → n ≤ length old / bytes_of kind.F32 → ((i : ℕ) → get_or src i 0 < 256)
    → {now : List ℕ} → now ≡ sets old 0 (bytes_for kind.F32 (map floated_bits (numbers_in 2 n src))) → BlockAnswers kind.U16 kind.F32 src old (gives done) now
floated_block src old {n} count room bytes {now} q =
    let xs = numbers_in 2 n src in
    let row : xs ≡ map (λ (n : ℕ). n) (numbers_in 2 (count_of kind.U16 src) src) =
    ap (λ (m : ℕ). numbers_in 2 m src) count ∙ sym (map_same (numbers_in 2 (count_of kind.U16 src) src)) in
    let w = agree_by kind.U16 kind.F32 u16_to_f32 plain_bits (λ n. n) u16_floated src bytes xs row in
    row_always kind.U16 kind.F32 src old (rw (← count) room) u16_to_f32 plain_bits as_f32 (λ n. n < 2 ^ 16) u16_float xs 0 w.0 w.1
    (λ i h. numbers_small 2 n src bytes i (rw (← length_numbers 2 n src) h))
    (q ∙ ap (λ (l : List ℕ). sets old 0 (bytes_for kind.F32 l)) (sym (map_both plain_bits as_f32 xs)))

-- ---- u16 to u8: the second row is the front of the buffer

-- bytes are laid down as they are
results_bytes : {A : Type 0} (conv : A → Outcome ℕ) → ((x : A) (b : ℕ) → conv x ≡ gives b → b < 2 ^ 8) → (xs : List A)
    → bytes_for kind.U8 (row_results conv xs) ≡ row_results conv xs
unfolding row_results bytes_for little_endian
results_bytes conv small [] = refl
results_bytes conv small (x ∷ xs) = go (conv x) refl (results_bytes conv small xs)
  where
    go : (o : Outcome ℕ) → conv x ≡ o → bytes_for kind.U8 (row_results conv xs) ≡ row_results conv xs
        → bytes_for kind.U8 (sample_before o (row_results conv xs)) ≡ sample_before o (row_results conv xs)
    go (gives b) q rest = rw (mod-eq_of_lt (small x b q), rest) refl
    go (refuses m p) q rest = rest

front_set : (zs old : List ℕ) (n : ℕ) → length zs ≡ n → n ≤ length old → sets old 0 zs ≡ zs ++ drop n old
front_set zs old n size room = sets-eq zs old 0 (rw (zero-add (length zs), size) room) ∙ ap (λ (m : ℕ). zs ++ drop m old) (zero-add (length zs) ∙ size)

module _ (src old row : List ℕ) (row_has : row ≡ numbers_in 2 (count_of kind.U16 src) src) (room : length row ≤ length old)
    (bytes : (i : ℕ) → get_or src i 0 < 256) where
  abbrev front : List ℕ
  front = take (length row) old

  greys : (length row ≡ count_of kind.U16 src) × Agree (bits_to kind.U8) u16_to_u8 (λ n. n) (U8 0) 0 (samples_of kind.U16 src) row
  greys = agree_by kind.U16 kind.U8 u16_to_u8 (λ n. n) (λ n. n) u16_narrowed src bytes row (row_has ∙ sym (map_same (numbers_in 2 (count_of kind.U16 src) src)))

  same_front : length row ≡ length front
  same_front = sym (length-take-le (length row) old room)

  inside : count_of kind.U16 src ≤ length old / bytes_of kind.U8
  inside = rw (div-one (length old), ← greys.0) room

  pub narrowed_block : (o : Outcome Success) {zs : List ℕ} → o ≡ convert_answer u16_to_u8 row front
      → zs ≡ convert_exit u16_to_u8 row front → BlockAnswers kind.U16 kind.U8 src old o (zs ++ drop (length row) old)
  unfolding convert_exit
  narrowed_block (gives done) {zs} q z =
      let left : zs ≡ row_results u16_to_u8 row = z ∙ left_is kind.U16 kind.U8 src old u16_to_u8 (λ n. n) row front 0 greys.0 same_front greys.1 q in
      let size : length zs ≡ length row =
      ap length left ∙ results_length u16_to_u8 0 row
      (sym (q ∙ row_is kind.U16 kind.U8 src old u16_to_u8 (λ n. n) row front 0 greys.0 same_front greys.1)) in
      let plain : bytes_for kind.U8 (map (λ (n : ℕ). n) zs) ≡ zs =
      ap (bytes_for kind.U8) (map_same zs ∙ left) ∙ results_bytes u16_to_u8 narrow_small row ∙ sym left in
      row_gives kind.U16 kind.U8 src old u16_to_u8 (λ n. n) row front 0 greys.0 same_front greys.1 inside q z
      (sym (ap (sets old 0) plain ∙ front_set zs old (length row) size room))
  narrowed_block (refuses m p) {zs} q z =
      let left : zs ≡ front = z ∙ refused_unchanged (λ (d : Success). row_results u16_to_u8 row) front (sym q) in
      let r = row_refuses kind.U16 kind.U8 src old u16_to_u8 (λ n. n) row front 0 greys.0 same_front greys.1 q in
      (r.0, ap (λ (l : List ℕ). l ++ drop (length row) old) left ∙ take-append-drop (length row) old ∙ r.1)

-- ---- f32 to u16

pub f32_row_agrees : (src : List ℕ) → ((i : ℕ) → get_or src i 0 < 256) → (row : List Float) {m : ℕ} → m ≡ count_of kind.F32 src
    → row ≡ map (of_bits binary32) (numbers_in 4 m src)
    → (length row ≡ count_of kind.F32 src) × Agree (bits_to kind.U16) f32_to_u16 (λ n. n) (U8 0) (of_bits binary32 0) (samples_of kind.F32 src) row
f32_row_agrees src bytes row count q =
    agree_by kind.F32 kind.U16 f32_to_u16 (λ n. n) (of_bits binary32) f32_sample src bytes row
    (q ∙ ap (λ (m : ℕ). map (of_bits binary32) (numbers_in 4 m src)) count)
