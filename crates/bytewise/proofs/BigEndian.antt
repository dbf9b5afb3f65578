-- Bytes and their numbers: big-endian writing and reading undo each other, and byte strings of one length order as their numbers.
-- Both go over the string with the number that stands before it: one more byte takes it from n to n * 256 + x.
use mathlib.Core.Path.{◌≡◌, refl, sym, ap, ◌∙◌, subst}
use mathlib.Core.Logic.{inl, inr}
use mathlib.Core.List.{List, [], ◌∷◌, ◌++◌, append-nil}
use Prim.Native.Nat.{ℕ, zero, suc, ◌+◌, ◌*◌, ◌/◌, ◌%◌, ◌^◌, ◌≤◌, ◌<◌}
use native.Mathlib.Nat.{pow-suc, div-add-mod', mul-le-mul_right, mul_assoc, mul_comm, lt_of_lt_of_le, suc-add, zero-add, add-zero, add-suc, one-mul}
use native.Mathlib.Omega.{arith}
use borrow.Author.Tests.{eqb-true}
use lib.ListN.{length, take, drop, get_or, length-append}
use lib.Seq.{append_snoc}
use Rattle.float.specs.Order.{order_n, or_else, is_equal}
use Rattle.float.specs.declared.Order.{Order}
use Rattle.float.specs.declared.Order.TheVariants.{Less, Equal, Greater, Unordered}
use Rattle.float.proofs.SameNumber.{equal_else}
use Rattle.float.proofs.Naturals.{three_ways, order_less, order_greater, order_equal, equal_test}
use Rattle.float.proofs.Tests.{clash}
use Rattle.bytewise.specs.Numbers.{Bytes, none, more, big_endian, from_big_endian}
use Rattle.bytewise.specs.Order.{bytes_order}

-- ---- lists of bytes

-- how a function knows the bytes of a lent row
pub bytes_of_lem : (l : List ℕ) → ((i : ℕ) → get_or l i 0 < 256) → Bytes l
bytes_of_lem [] h = none
bytes_of_lem (x ∷ l) h = more x l (h 0) (bytes_of_lem l (λ i. h (suc i)))

pub bytes_take : (n : ℕ) {l : List ℕ} → Bytes l → Bytes (take n l)
bytes_take zero b = none
bytes_take (suc n) none = none
bytes_take (suc n) (more x xs h b) = more x (take n xs) h (bytes_take n b)

pub bytes_drop : (n : ℕ) {l : List ℕ} → Bytes l → Bytes (drop n l)
bytes_drop zero b = b
bytes_drop (suc n) none = none
bytes_drop (suc n) (more x xs h b) = bytes_drop n b

pub bytes_append : {a b : List ℕ} → Bytes a → Bytes b → Bytes (a ++ b)
bytes_append none k = k
bytes_append (more x xs h b) k = more x _ h (bytes_append b k)

-- ---- the bytes of a number

module _ (n x : ℕ) (h : x < 256) where
  high_part : (n * 256 + x) / 256 ≡ n
  high_part = omega arith

  low_part : (n * 256 + x) % 256 ≡ x
  low_part = omega arith

pub length_big : (k n : ℕ) → length (big_endian k n) ≡ k
unfolding big_endian
length_big zero n = refl
length_big (suc k) n = length-append (big_endian k (n / 256)) (n % 256 ∷ []) ∙ rw (length_big k (n / 256)) (omega arith)

pub bytes_big : (k n : ℕ) → Bytes (big_endian k n)
unfolding big_endian
bytes_big zero n = none
bytes_big (suc k) n = bytes_append (bytes_big k (n / 256)) (more (n % 256) [] (omega arith) none)

pub number_snoc : (n : ℕ) (xs : List ℕ) (x : ℕ) → from_big_endian n (xs ++ (x ∷ [])) ≡ from_big_endian n xs * 256 + x
unfolding from_big_endian
number_snoc n [] x = refl
number_snoc n (y ∷ xs) x = number_snoc (n * 256 + y) xs x

pub number_big : (k n : ℕ) → n < 256 ^ k → from_big_endian 0 (big_endian k n) ≡ n
unfolding big_endian from_big_endian
number_big zero n h = omega arith
number_big (suc k) n h =
    let l : n / 256 < 256 ^ k = omega (arith, pow-suc 256 k) in
    number_snoc 0 (big_endian k (n / 256)) (n % 256) ∙ rw (number_big k (n / 256) l) (div-add-mod' n 256)

-- ---- the number of some bytes

joined : (k n : ℕ) {l : List ℕ} → Bytes l → big_endian (k + length l) (from_big_endian n l) ≡ big_endian k n ++ l
unfolding big_endian from_big_endian
joined k n none = rw (add-zero k) (sym (append-nil (big_endian k n)))
joined k n (more x xs h b) =
    ap (λ (m : ℕ). big_endian m (from_big_endian (n * 256 + x) xs)) (add-suc k (length xs) ∙ sym (suc-add k (length xs)))
    ∙ joined (suc k) (n * 256 + x) b
    ∙ rw (high_part n x h, low_part n x h) (append_snoc (big_endian k n) x xs)

pub big_number : {l : List ℕ} → Bytes l → big_endian (length l) (from_big_endian 0 l) ≡ l
unfolding big_endian
big_number {l} b = ap (λ (k : ℕ). big_endian k (from_big_endian 0 l)) (sym (zero-add (length l))) ∙ joined 0 0 b

below : (n : ℕ) {l : List ℕ} → Bytes l → from_big_endian n l < suc n * 256 ^ length l
unfolding from_big_endian
below n none = omega arith
below n (more x xs h b) =
    let r : from_big_endian (n * 256 + x) xs < suc (n * 256 + x) * 256 ^ length xs = below (n * 256 + x) b in
    let l : suc (n * 256 + x) * 256 ^ length xs ≤ suc n * 256 * 256 ^ length xs = mul-le-mul_right (256 ^ length xs) (omega arith) in
    rw (pow-suc 256 (length xs), mul_comm (256 ^ length xs) 256, ← mul_assoc (suc n) 256 (256 ^ length xs)) (lt_of_lt_of_le r l)

pub number_below : {l : List ℕ} → Bytes l → from_big_endian 0 l < 256 ^ length l
number_below {l} b = subst (λ (m : ℕ). from_big_endian 0 l < m) (one-mul (256 ^ length l)) (below 0 b)

-- ---- the order

pub or_else_joined : (a b c : Order) → or_else (or_else a b) c ≡ or_else a (or_else b c)
or_else_joined Less b c = refl
or_else_joined Equal b c = refl
or_else_joined Greater b c = refl
or_else_joined Unordered b c = refl

-- the order of strings that are joined of parts of one length
pub order_append : (a c b d : List ℕ) → length a ≡ length c → bytes_order (a ++ b) (c ++ d) ≡ or_else (bytes_order a c) (bytes_order b d)
unfolding bytes_order
order_append [] [] b d q = refl
order_append [] (y ∷ c) b d q = absurd (omega arith)
order_append (x ∷ a) [] b d q = absurd (omega arith)
order_append (x ∷ a) (y ∷ c) b d q =
    ap (or_else (order_n x y)) (order_append a c b d (omega arith)) ∙ sym (or_else_joined (order_n x y) (bytes_order a c) (bytes_order b d))

-- one more byte: the numbers before it decide first
one_more : (m n x y : ℕ) → x < 256 → y < 256 → or_else (order_n m n) (order_n x y) ≡ order_n (m * 256 + x) (n * 256 + y)
one_more m n x y h k = elim (three_ways m n) [
  | inl l ↦ rw (order_less m n l) (sym (order_less (m * 256 + x) (n * 256 + y) (omega arith)))
  | inr (inl q) ↦ rw (order_equal m n q) (elim (three_ways x y) [
    | inl l ↦ order_less x y l ∙ sym (order_less (m * 256 + x) (n * 256 + y) (omega arith))
    | inr (inl r) ↦ order_equal x y r ∙ sym (order_equal (m * 256 + x) (n * 256 + y) (omega arith))
    | inr (inr g) ↦ order_greater x y g ∙ sym (order_greater (m * 256 + x) (n * 256 + y) (omega arith))
  ])
  | inr (inr g) ↦ rw (order_greater m n g) (sym (order_greater (m * 256 + x) (n * 256 + y) (omega arith)))
]

or_equal : (o : Order) → or_else o Equal ≡ o
or_equal Less = refl
or_equal Equal = refl
or_equal Greater = refl
or_equal Unordered = refl

order_from : (m n : ℕ) {a b : List ℕ} → Bytes a → Bytes b → length a ≡ length b
    → or_else (order_n m n) (bytes_order a b) ≡ order_n (from_big_endian m a) (from_big_endian n b)
unfolding bytes_order from_big_endian
order_from m n none none q = or_equal (order_n m n)
order_from m n none (more y ys k b) q = absurd (omega arith)
order_from m n (more x xs h a) none q = absurd (omega arith)
order_from m n (more x xs h a) (more y ys k b) q =
    sym (or_else_joined (order_n m n) (order_n x y) (bytes_order xs ys))
    ∙ ap (λ (o : Order). or_else o (bytes_order xs ys)) (one_more m n x y h k)
    ∙ order_from (m * 256 + x) (n * 256 + y) a b (omega arith)

-- byte strings of one length order as their numbers, and numbers as their bytes
pub order_numbers : {a b : List ℕ} → Bytes a → Bytes b → length a ≡ length b → bytes_order a b ≡ order_n (from_big_endian 0 a) (from_big_endian 0 b)
order_numbers a b q = order_from 0 0 a b q

pub order_big : (k m n : ℕ) → m < 256 ^ k → n < 256 ^ k → bytes_order (big_endian k m) (big_endian k n) ≡ order_n m n
order_big k m n h l =
    order_numbers (bytes_big k m) (bytes_big k n) (length_big k m ∙ sym (length_big k n)) ∙ rw (number_big k m h, number_big k n l)

-- ---- Equal exactly when the strings are the same

pub equal_bytes : (a b : List ℕ) → bytes_order a b ≡ Equal → a ≡ b
unfolding bytes_order
equal_bytes [] [] h = refl
equal_bytes [] (y ∷ b) h = clash cc
equal_bytes (x ∷ a) [] h = clash cc
equal_bytes (x ∷ a) (y ∷ b) h =
    let p : x ≡ y = eqb-true x y (sym (equal_test x y) ∙ ap is_equal (equal_else (order_n x y) (bytes_order a b) h).0) in
    let q : a ≡ b = equal_bytes a b (equal_else (order_n x y) (bytes_order a b) h).1 in
    cc

pub bytes_equal : (a : List ℕ) → bytes_order a a ≡ Equal
unfolding bytes_order
bytes_equal [] = refl
bytes_equal (x ∷ a) = rw (order_equal x x refl) (bytes_equal a)

-- else the first byte that differs decides
pub first_difference : (a b : List ℕ) → length a ≡ length b → (a ≡ b → ⊥)
    → (i : ℕ) × (i < length a) × (take i a ≡ take i b) × (get_or a i 0 ≡ get_or b i 0 → ⊥) × (bytes_order a b ≡ order_n (get_or a i 0) (get_or b i 0))
unfolding bytes_order
first_difference [] [] q d = absurd (d refl)
first_difference [] (y ∷ b) q d = absurd (omega arith)
first_difference (x ∷ a) [] q d = absurd (omega arith)
first_difference (x ∷ a) (y ∷ b) q d = elim (three_ways x y) [
  | inl l ↦ (0, omega arith, refl, (λ r. omega arith), rw (order_less x y l))
  | inr (inl r) ↦
      let rest = first_difference a b (omega arith) (λ s. d cc) in
      (suc rest.0, omega (arith, rest.1), cc (r, rest.2), rest.3, rw (order_equal x y r) rest.4)
  | inr (inr l) ↦ (0, omega arith, refl, (λ r. omega arith), rw (order_greater x y l))
]
