-- Classes, comparison and total order, of the patterns of a float format and of values. RULES.md: Bits and classes to Total order.
use Rattle.std.specs.Prelude.{ℕ, ◌*◌, ◌<◌, ◌≡◌, ◌↔◌, ◌⊎◌, Bool, true, false, not, cond, List, [], ◌∷◌, ℤ}
use Rattle.float.specs.declared.Class.{Class}
use Rattle.float.specs.declared.Class.TheVariants.{Zero, Subnormal, Normal, Infinite, Nan}
use Rattle.float.specs.declared.Order.TheVariants.{Less, Equal, Greater, Unordered}
use Rattle.float.specs.Format.{Format, sign_in, negative_in, zero_in, subnormal_in, normal_in, finite_in, infinite_in, nan_in, class_in, scaled_in, position_in}
use Rattle.float.specs.Number.{infinity_of}
use Rattle.float.specs.Order.{order_z, order_of, compare_in}
use Rattle.float.specs.ClassMeaning.{MeansIn}
use Rattle.value.specs.declared.Value.{Value}
use Rattle.value.specs.Kinds.{kind_of, Form, floating, form_of}
use Rattle.value.specs.Meaning.{FitsSigned, bits_of, position_of}
use Rattle.value.specs.Outcome.{Outcome, gives, refuses, mapped}
use Rattle.cmp.specs.Compare.{compare_of, eq_of, ne_of, lt_of, le_of, gt_of, ge_of, total_of}
use Rattle.laws_cmp.specs.Laws.{PartialOrder, LinearOrder, OneKind, OneIntegerKind}

-- ---- "Classes, comparison and total order are IEEE 754-2019's", of each float format, by the patterns

-- of a format
pub record Floats (f : Format) : Type 0 where
  -- a pattern of each class stands for what the class says
  pub class_means : (b : ℕ) → MeansIn f b (class_in f b)
  -- and it is so of no other class
  pub class_only : (b : ℕ) (c : Class) → MeansIn f b c → c ≡ class_in f b
  -- each class by its own bounds of abs
  pub zero_class : (b : ℕ) → (zero_in f b ≡ true) ↔ (class_in f b ≡ Zero)
  pub subnormal_class : (b : ℕ) → (subnormal_in f b ≡ true) ↔ (class_in f b ≡ Subnormal)
  pub normal_class : (b : ℕ) → (normal_in f b ≡ true) ↔ (class_in f b ≡ Normal)
  pub infinite_class : (b : ℕ) → (infinite_in f b ≡ true) ↔ (class_in f b ≡ Infinite)
  pub nan_class : (b : ℕ) → (nan_in f b ≡ true) ↔ (class_in f b ≡ Nan)
  -- the finite patterns are those of three classes
  pub finite_classes : (b : ℕ) → (finite_in f b ≡ true) ↔ ((class_in f b ≡ Zero) ⊎ ((class_in f b ≡ Subnormal) ⊎ (class_in f b ≡ Normal)))
  -- NaN on either side gives Unordered
  pub nan_left : (a b : ℕ) → nan_in f a ≡ true → compare_in f a b ≡ Unordered
  pub nan_right : (a b : ℕ) → nan_in f b ≡ true → compare_in f a b ≡ Unordered
  -- infinities lie outside all finite values and equal themselves
  pub infinite_finite : (a b : ℕ) → infinite_in f a ≡ true → finite_in f b ≡ true → compare_in f a b ≡ cond (negative_in f a) Less Greater
  pub finite_infinite : (a b : ℕ) → finite_in f a ≡ true → infinite_in f b ≡ true → compare_in f a b ≡ cond (negative_in f b) Greater Less
  pub infinite_infinite : (a b : ℕ) → infinite_in f a ≡ true → infinite_in f b ≡ true
      → compare_in f a b ≡ order_of (infinity_of (negative_in f a)) (infinity_of (negative_in f b))
  -- else the scaled numbers decide
  pub finite_finite : (a b : ℕ) → finite_in f a ≡ true → finite_in f b ≡ true → compare_in f a b ≡ order_z (scaled_in f a) (scaled_in f b)
  -- every pattern has its own position, and the positions are the signed numbers of the width
  pub own_position : (a b : ℕ) → position_in f a ≡ position_in f b → a ≡ b
  pub position_fits : (b : ℕ) → b < 2 * sign_in f → FitsSigned (sign_in f) (position_in f b)
  pub position_reached : (z : ℤ) → FitsSigned (sign_in f) z → (b : ℕ) × (b < 2 * sign_in f) × (position_in f b ≡ z)
  -- in the total order the NaN lie outside all other patterns, by their sign, and minus zero lies below plus zero
  pub nan_outside : (a b : ℕ) → nan_in f a ≡ true → nan_in f b ≡ false
      → order_z (position_in f a) (position_in f b) ≡ cond (negative_in f a) Less Greater
  pub zeros_ordered : order_z (position_in f (sign_in f)) (position_in f 0) ≡ Less

-- ---- the same of values

-- values of a kind of this form
abbrev pub OfForm : Form → Value → Type 0
OfForm form v = form_of (kind_of v) ≡ form

-- each of a list is so
abbrev pub Every : {A : Type 0} → (A → Type 0) → List A → Type 0
Every P [] = Unit
Every P (x ∷ xs) = P x × Every P xs

-- the five tests that ask for an order
abbrev pub order_tests : Value → Value → List (Outcome Bool)
order_tests a b = eq_of a b ∷ lt_of a b ∷ le_of a b ∷ gt_of a b ∷ ge_of a b ∷ []

-- the six tests, of any two values
pub record Tests : Type 0 where
  -- a test is yes exactly of the orders that it asks for
  pub eq_exactly : (a b : Value) → (eq_of a b ≡ gives true) ↔ (compare_of a b ≡ gives Equal)
  pub lt_exactly : (a b : Value) → (lt_of a b ≡ gives true) ↔ (compare_of a b ≡ gives Less)
  pub gt_exactly : (a b : Value) → (gt_of a b ≡ gives true) ↔ (compare_of a b ≡ gives Greater)
  pub le_exactly : (a b : Value) → (le_of a b ≡ gives true) ↔ ((compare_of a b ≡ gives Less) ⊎ (compare_of a b ≡ gives Equal))
  pub ge_exactly : (a b : Value) → (ge_of a b ≡ gives true) ↔ ((compare_of a b ≡ gives Greater) ⊎ (compare_of a b ≡ gives Equal))
  -- ne is no where eq is yes, and yes where eq is no
  pub ne_turns : (a b : Value) → ne_of a b ≡ mapped not (eq_of a b)
  -- on Unordered every one is no, except ne
  pub unordered : (a b : Value) → compare_of a b ≡ gives Unordered → Every (λ test. test ≡ gives false) (order_tests a b) × (ne_of a b ≡ gives true)
  -- a test is refused exactly as the comparison is
  pub refused : (a b : Value) (n p : ℕ) → Every (λ test. (test ≡ refuses n p) ↔ (compare_of a b ≡ refuses n p)) (ne_of a b ∷ order_tests a b)

-- values of one kind
pub record Values : Type 0 where
  -- floats of one kind by their bits
  pub floats_compare : (f : Format) (a b : Value) → OneKind a b → OfForm (floating f) a
      → compare_of a b ≡ gives (compare_in f (bits_of a) (bits_of b))
  pub floats_total : (f : Format) (a b : Value) → OneKind a b → OfForm (floating f) a
      → total_of a b ≡ gives (order_z (position_in f (bits_of a)) (position_in f (bits_of b)))
  -- integers by their number, in both orders
  pub integers_compare : (a b : Value) → OneIntegerKind a b → compare_of a b ≡ gives (order_z (position_of a) (position_of b))
  pub integers_total : (a b : Value) → OneIntegerKind a b → total_of a b ≡ gives (order_z (position_of a) (position_of b))
  -- so they are orders
  pub partial_order : PartialOrder compare_of eq_of
  pub integer_order : LinearOrder compare_of OneIntegerKind (λ a b. a ≡ b)
  pub total_order : LinearOrder total_of OneKind (λ a b. bits_of a ≡ bits_of b)
  -- the total order keeps the comparison's direction
  pub total_less : (a b : Value) → compare_of a b ≡ gives Less → total_of a b ≡ gives Less
  pub total_greater : (a b : Value) → compare_of a b ≡ gives Greater → total_of a b ≡ gives Greater
  -- and the six tests go by the comparison
  pub tests : Tests
