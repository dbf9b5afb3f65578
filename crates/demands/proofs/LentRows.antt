-- Two byte strings by their first bytes: the lower one decides, and bytes that are level are passed. So strings order as bytes do, by induction.
-- The choice goes by the order of the keys turned round.
use Prim.Native.Nat.{ℕ, suc, ◌<◌}
use native.Mathlib.Omega.{arith}
use mathlib.Core.Path.{◌≡◌, refl, sym, ◌∙◌, ap}
use mathlib.Core.Logic.{◌⊎◌, inl, inr}
use mathlib.Core.Bool.{Bool, cond}
use mathlib.Core.List.{List, [], ◌∷◌, ◌++◌}
use lib.ListN.{length, take, drop, get_or}
use lib.Seq.{take_all, split_at}
use denote.Ref.{Bor}
use Rattle.float.specs.declared.Order.{Order}
use Rattle.float.specs.declared.Order.TheVariants.{Less, Equal, Greater}
use Rattle.float.specs.Order.{is_less, order_n, or_else}
use Rattle.float.proofs.Naturals.{three_ways, order_less, order_equal, order_greater}
use Rattle.float.proofs.Tests.{clash}
use Rattle.float.proofs.Turned.{turned}
use Rattle.value.specs.Outcome.{gives}
use Rattle.bytewise.specs.Order.{bytes_order}
use Rattle.bytewise.specs.Prefix.{min_row, max_row}
use Rattle.bytewise.proofs.BigEndian.{order_append, equal_bytes, bytes_equal}
use Rattle.lexical.proofs.OneKind.{given_same}
use Rattle.laws_cmp.specs.Laws.{Ordered, LinearOrder}
use Rattle.demands.specs.LentRows.{keys_order, LentRows}

-- ---- the first bytes

module _ (x y : ℕ) (xs ys : List ℕ) where
  byte_lower : x < y → bytes_order (x ∷ xs) (y ∷ ys) ≡ Less
  unfolding bytes_order
  byte_lower l = ap (λ (o : Order). or_else o (bytes_order xs ys)) (order_less x y l)

  byte_level : x ≡ y → bytes_order (x ∷ xs) (y ∷ ys) ≡ bytes_order xs ys
  unfolding bytes_order
  byte_level q = ap (λ (o : Order). or_else o (bytes_order xs ys)) (order_equal x y q)

  byte_higher : y < x → bytes_order (x ∷ xs) (y ∷ ys) ≡ Greater
  unfolding bytes_order
  byte_higher g = ap (λ (o : Order). or_else o (bytes_order xs ys)) (order_greater x y g)

  byte_differs : (x ≡ y → ⊥) → bytes_order (x ∷ xs) (y ∷ ys) ≡ order_n x y
  byte_differs d = elim (three_ways x y) [
    | inl l ↦ byte_lower l ∙ sym (order_less x y l)
    | inr (inl q) ↦ absurd (d q)
    | inr (inr g) ↦ byte_higher g ∙ sym (order_greater x y g)
  ]

  less_begins : bytes_order (x ∷ xs) (y ∷ ys) ≡ Less → (x < y) ⊎ ((x ≡ y) × (bytes_order xs ys ≡ Less))
  less_begins h = elim (three_ways x y) [
    | inl l ↦ inl l
    | inr (inl q) ↦ inr (q, sym (byte_level q) ∙ h)
    | inr (inr g) ↦ let k = sym (byte_higher g) ∙ h in clash cc
  ]

-- ---- a linear order

bytes_ordered : (k l : List ℕ) → Ordered (gives (bytes_order k l))
unfolding bytes_order
bytes_ordered [] [] = inr (inl refl)
bytes_ordered [] (y ∷ l) = inl refl
bytes_ordered (x ∷ k) [] = inr (inr refl)
bytes_ordered (x ∷ k) (y ∷ l) = elim (three_ways x y) [
  | inl h ↦ inl (ap gives (byte_lower x y k l h))
  | inr (inl q) ↦ rw (byte_level x y k l q) (bytes_ordered k l)
  | inr (inr h) ↦ inr (inr (ap gives (byte_higher x y k l h)))
]

bytes_turned : (k l : List ℕ) → bytes_order l k ≡ turned (bytes_order k l)
unfolding bytes_order
bytes_turned [] [] = refl
bytes_turned [] (y ∷ l) = refl
bytes_turned (x ∷ k) [] = refl
bytes_turned (x ∷ k) (y ∷ l) = elim (three_ways x y) [
  | inl h ↦ byte_higher y x l k h ∙ sym (ap turned (byte_lower x y k l h))
  | inr (inl q) ↦ byte_level y x l k (sym q) ∙ bytes_turned k l ∙ sym (ap turned (byte_level x y k l q))
  | inr (inr h) ↦ byte_lower y x l k h ∙ sym (ap turned (byte_higher x y k l h))
]

bytes_less_trans : (k l m : List ℕ) → bytes_order k l ≡ Less → bytes_order l m ≡ Less → bytes_order k m ≡ Less
unfolding bytes_order
bytes_less_trans [] [] m g h = clash cc
bytes_less_trans [] (y ∷ l) [] g h = clash cc
bytes_less_trans [] (y ∷ l) (z ∷ m) g h = refl
bytes_less_trans (x ∷ k) [] m g h = clash cc
bytes_less_trans (x ∷ k) (y ∷ l) [] g h = clash cc
bytes_less_trans (x ∷ k) (y ∷ l) (z ∷ m) g h = elim (less_begins x y k l g) [
  | inl u ↦ elim (less_begins y z l m h) [
    | inl v ↦ byte_lower x z k m (omega arith)
    | inr v ↦ byte_lower x z k m (omega (arith, v.0))
  ]
  | inr u ↦ elim (less_begins y z l m h) [
    | inl v ↦ byte_lower x z k m (omega (arith, u.0))
    | inr v ↦ byte_level x z k m (u.0 ∙ v.0) ∙ bytes_less_trans k l m u.1 v.1
  ]
]

turned_given : (k l : List ℕ) (o : Order) → gives (bytes_order k l) ≡ gives o → gives (bytes_order l k) ≡ gives (turned o)
turned_given k l o h = ap gives (bytes_turned k l ∙ ap turned (given_same h))

bytes_linear_order : LinearOrder (λ k l. gives (bytes_order k l)) (λ k l. Unit) (λ k l. k ≡ l)
bytes_linear_order = record {
  ordered = λ k l t. bytes_ordered k l;
  reflexive = λ k t. ap gives (bytes_equal k);
  equal_same = λ k l t h. equal_bytes k l (given_same h);
  less_greater = λ k l h. turned_given k l Less h;
  greater_less = λ k l h. turned_given l k Greater h;
  less_trans = λ k l m g h. ap gives (bytes_less_trans k l m (given_same g) (given_same h));
}

-- ---- where strings differ

first_byte : (i : ℕ) (k l : List ℕ) → i < length k → i < length l → take i k ≡ take i l → (get_or k i 0 ≡ get_or l i 0 → ⊥)
    → bytes_order k l ≡ order_n (get_or k i 0) (get_or l i 0)
first_byte i k l g h q d =
    let before : bytes_order (take i k) (take i l) ≡ Equal = ap (bytes_order (take i k)) (sym q) ∙ bytes_equal (take i k) in
    let behind = bytes_order (get_or k i 0 ∷ drop (suc i) k) (get_or l i 0 ∷ drop (suc i) l) in
    ap (λ (m : List ℕ). bytes_order m l) (split_at k i 0 g)
    ∙ ap (bytes_order (take i k ++ (get_or k i 0 ∷ drop (suc i) k))) (split_at l i 0 h)
    ∙ order_append (take i k) (take i l) _ _ (ap length q)
    ∙ ap (λ (o : Order). or_else o behind) before
    ∙ byte_differs _ _ _ _ d

prefix_lower : (k : List ℕ) (x : ℕ) (l : List ℕ) → bytes_order k (k ++ (x ∷ l)) ≡ Less
unfolding bytes_order
prefix_lower [] x l = refl
prefix_lower (y ∷ k) x l = byte_level y y k (k ++ (x ∷ l)) refl ∙ prefix_lower k x l

-- ---- the choice

module _ (k : ℕ) (a b : Bor (List ℕ)) where
  -- whether the second has the lower key, by the order of the keys
  second_lower : (o : Order) → gives (keys_order k a b) ≡ gives o → is_less (keys_order k b a) ≡ is_less (turned o)
  second_lower o h = ap is_less (bytes_turned (take k a.now) (take k b.now) ∙ ap turned (given_same h))

  min_by : (o : Order) → gives (keys_order k a b) ≡ gives o → gives (min_row k a b) ≡ gives (cond (is_less (turned o)) b a)
  min_by o h = ap (λ (t : Bool). gives (cond t b a)) (second_lower o h)

  max_by : (o : Order) → gives (keys_order k a b) ≡ gives o → gives (max_row k a b) ≡ gives (cond (is_less (turned o)) a b)
  max_by o h = ap (λ (t : Bool). gives (cond t a b)) (second_lower o h)

pub of_lent_rows : LentRows
unfolding bytes_order
of_lent_rows = record {
  order = bytes_linear_order;
  first_byte = first_byte;
  prefix_lower = prefix_lower;
  chooses = λ k. record {
    min_less = λ a b. min_by k a b Less;
    min_equal = λ a b. min_by k a b Equal;
    min_greater = λ a b. min_by k a b Greater;
    max_less = λ a b. max_by k a b Less;
    max_equal = λ a b. max_by k a b Equal;
    max_greater = λ a b. max_by k a b Greater;
  };
  none_tie = λ a b. (refl, refl);
  whole_key = take_all;
}
