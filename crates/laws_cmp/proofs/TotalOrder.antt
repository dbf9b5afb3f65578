-- The total order is linear on every kind, Equal only for the same bits, and agrees with a comparison that says Less or Greater.
use mathlib.Core.Path.{◌≡◌, sym, ◌∙◌, ap, subst}
use mathlib.Core.Logic.{◌⊎◌, inl, inr}
use Prim.Native.Nat.{ℕ}
use lib.Dec.{T}
use Rattle.float.specs.Format.{Format, fraction_of, exponent_of, position_in}
use Rattle.float.specs.Number.{Number, times}
use Rattle.float.specs.Number as exact
use Rattle.float.specs.Order.{order_z, order_of, pattern_in}
use Rattle.float.specs.declared.Order.{Order}
use Rattle.float.specs.declared.Order.TheVariants.{Less, Equal, Greater}
use Rattle.float.proofs.Turned.{turned, turn_integers}
use Rattle.float.proofs.Transitive.{integers_less_trans, integers_answer}
use Rattle.float.proofs.SameNumber.{equal_integers, integer_equal}
use Rattle.float.proofs.Formats.{inf_range}
use Rattle.float.proofs.Place.{position_injective}
use Rattle.float.proofs.Agreement.{less_position}
use Rattle.value.specs.declared.Kind.{Kind}
use Rattle.value.specs.declared.Value.{Value}
use Rattle.value.specs.Kinds.{kind_of, form_of, is_integer, Form}
use Rattle.value.specs.Kinds as kinds
use Rattle.value.specs.Meaning.{real, bits_in, bits_of, number_of, content_position, position_of, exact_in, step_of}
use Rattle.value.specs.Outcome.{gives}
use Rattle.value.proofs.Forms.{Whole, Floating, whole_or_floating, whole_same}
use Rattle.cmp.specs.Compare.{compare_of, total_of}
use Rattle.cmp.proofs.Given.{compared_order, total_order, order_total}
use Rattle.cmp.proofs.Numbers.{positions_order, patterns_order}
use Rattle.laws_cmp.specs.Laws.{LinearOrder, Ordered, OneKind}
use Rattle.cmp.proofs.Orders.{turned_order}

-- ---- the order turned round, and transitive

turned_total : (x y : Value) (o : Order) → total_of x y ≡ gives o → total_of y x ≡ gives (turned o)
turned_total x y o h =
    let c = total_order x y o h in
    order_total y x (turned o) (sym c.0) (turn_integers (position_of x) (position_of y) ∙ ap turned c.1)

total_trans : (x y z : Value) → total_of x y ≡ gives Less → total_of y z ≡ gives Less → total_of x z ≡ gives Less
total_trans x y z h k =
    let c = total_order x y Less h in
    let d = total_order y z Less k in
    order_total x z Less (c.0 ∙ d.0) (integers_less_trans (position_of x) (position_of y) (position_of z) c.1 d.1)

pub ordered_total : (x y : Value) → OneKind x y → Ordered (total_of x y)
ordered_total x y k = elim (integers_answer (position_of x) (position_of y)) [
  | inl h ↦ inl (order_total x y Less k h)
  | inr (inl h) ↦ inr (inl (order_total x y Equal k h))
  | inr (inr h) ↦ inr (inr (order_total x y Greater k h))
]

-- ---- two values of one kind: both of an integer kind, or two floats of one format

pub other_whole : (a b : Value) → kind_of a ≡ kind_of b → Whole a → Whole b
other_whole a b k t = subst (λ (j : Kind). T (is_integer (form_of j))) k t

one_format : (a b : Value) (s : Floating a) (t : Floating b) → kind_of a ≡ kind_of b → s.format ≡ t.format
one_format a b s t k = same_form (sym s.form ∙ ap form_of k ∙ t.form)
  where
    same_form : {f g : Format} → ◌≡◌ {A = Form} (kinds.floating f) (kinds.floating g) → f ≡ g
    same_form q = cc

-- ---- Equal only for the same bits

float_bits_lem : (f g : Format) (m n : ℕ) → f ≡ g → position_in f m ≡ position_in g n → m ≡ n
float_bits_lem f g m n q h = position_injective (fraction_of f) (exponent_of f) m n (h ∙ ap (λ (k : Format). position_in k n) (sym q))

same_position : (a b : Value) → kind_of a ≡ kind_of b → position_of a ≡ position_of b → Whole a ⊎ Floating a → Whole b ⊎ Floating b → bits_of a ≡ bits_of b
same_position a b k h (inl s) (inl t) = ap bits_of (whole_same a b s t k h)
same_position a b k h (inl s) (inr t) = absurd (t.not_whole (other_whole a b k s))
same_position a b k h (inr s) (inl t) = absurd (s.not_whole (other_whole b a (sym k) t))
same_position a b k h (inr s) (inr t) =
    ap bits_in s.content
    ∙ float_bits_lem s.format t.format _ _ (one_format a b s t k) (sym (ap content_position s.content) ∙ h ∙ ap content_position t.content)
    ∙ sym (ap bits_in t.content)

pub same_bits : (a b : Value) → total_of a b ≡ gives Equal → bits_of a ≡ bits_of b
same_bits a b h =
    let c = total_order a b Equal h in
    same_position a b c.0 (equal_integers (position_of a) (position_of b) c.1) (whole_or_floating a) (whole_or_floating b)

pub values_total_order : LinearOrder total_of OneKind (λ a b. bits_of a ≡ bits_of b)
values_total_order = record {
  ordered = ordered_total;
  reflexive = λ x k. order_total x x Equal k (integer_equal (position_of x));
  equal_same = λ x y k h. same_bits x y h;
  less_greater = λ x y h. turned_total x y Less h;
  greater_less = λ x y h. turned_total y x Greater h;
  less_trans = total_trans;
}

-- ---- it agrees with the comparison

-- the number of a pattern in the common unit
abbrev number_for : Format → ℕ → Number
number_for f m = exact.number_of (times (step_of f) (pattern_in f m))

less_floats : (f g : Format) (m n : ℕ) → f ≡ g → order_of (number_for f m) (number_for g n) ≡ Less
    → order_z (position_in f m) (position_in g n) ≡ Less
less_floats f g m n q h =
    let k : order_of (number_for f m) (number_for f n) ≡ Less = ap (λ (j : Format). order_of (number_for f m) (number_for j n)) q ∙ h in
    ap (λ (j : Format). order_z (position_in f m) (position_in j n)) (sym q)
    ∙ less_position (fraction_of f) (exponent_of f) m n (inf_range f).0 (patterns_order f m n ∙ k)

less_agrees : (a b : Value) → kind_of a ≡ kind_of b → order_of (number_of a) (number_of b) ≡ Less → Whole a ⊎ Floating a
    → Whole b ⊎ Floating b → order_z (position_of a) (position_of b) ≡ Less
less_agrees a b k h (inl s) (inl t) = sym (positions_order a b s t) ∙ h
less_agrees a b k h (inl s) (inr t) = absurd (t.not_whole (other_whole a b k s))
less_agrees a b k h (inr s) (inl t) = absurd (s.not_whole (other_whole b a (sym k) t))
less_agrees a b k h (inr s) (inr t) =
    ap (λ c. order_z (content_position c) (position_of b)) s.content
    ∙ ap (λ c. order_z (content_position (real s.format s.pattern)) (content_position c)) t.content
    ∙ less_floats s.format t.format _ _ (one_format a b s t k)
    (sym (ap (λ c. order_of (exact.number_of (exact_in c)) (number_of b)) s.content
    ∙ ap (λ c. order_of (exact.number_of (exact_in (real s.format s.pattern))) (exact.number_of (exact_in c))) t.content)
    ∙ h)

pub less_total : (a b : Value) → compare_of a b ≡ gives Less → total_of a b ≡ gives Less
less_total a b h =
    let c = compared_order a b Less h in
    order_total a b Less c.0 (less_agrees a b c.0 c.1 (whole_or_floating a) (whole_or_floating b))

pub greater_total : (a b : Value) → compare_of a b ≡ gives Greater → total_of a b ≡ gives Greater
greater_total a b h = turned_total b a Less (less_total b a (turned_order a b Greater h))
