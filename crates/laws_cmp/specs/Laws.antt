-- What a comparison owes. A refusal is no order: two values of different kinds meet no law, and need none.
use Rattle.std.specs.Prelude.{ℕ, ◌<◌, ◌≡◌, ◌⊎◌, Bool, true, false, List, [], ◌∷◌, T, length}
use Rattle.float.specs.declared.Order.{Order}
use Rattle.float.specs.declared.Order.TheVariants.{Less, Equal, Greater}
use Rattle.value.specs.declared.Value.{Value}
use Rattle.value.specs.Kinds.{kind_of, form_of, is_integer}
use Rattle.float.specs.Order.{is_equal}
use Rattle.value.specs.Outcome.{Outcome, gives, mapped}
use Rattle.cmp.specs.Compare as cmp
use Rattle.record.specs.declared.Field.{Field}
use Rattle.record.specs.declared.Record.{Record}
use Rattle.record.specs.Record.{fields_of, value_at, kinds_of, bad_count}
use Rattle.lexical.specs.Lexical.{compare_of}

-- obeys_partial_cmp_spec_properties, with symmetry and transitivity of eq in place of obeys_eq_spec_properties
pub record PartialOrder {A : Type 0} (compare : A → A → Outcome Order) (eq : A → A → Outcome Bool) : Type 0 where
  pub equal_eq : (x y : A) → compare x y ≡ gives Equal → eq x y ≡ gives true
  pub eq_equal : (x y : A) → eq x y ≡ gives true → compare x y ≡ gives Equal
  pub less_greater : (x y : A) → compare x y ≡ gives Less → compare y x ≡ gives Greater
  pub greater_less : (x y : A) → compare y x ≡ gives Greater → compare x y ≡ gives Less
  pub less_trans : (x y z : A) → compare x y ≡ gives Less → compare y z ≡ gives Less → compare x z ≡ gives Less
  pub greater_trans : (x y z : A) → compare x y ≡ gives Greater → compare y z ≡ gives Greater → compare x z ≡ gives Greater
  pub eq_symmetric : (x y : A) → eq x y ≡ gives true → eq y x ≡ gives true
  pub eq_transitive : (x y z : A) → eq x y ≡ gives true → eq y z ≡ gives true → eq x z ≡ gives true

-- Less, Equal or Greater, and nothing else
abbrev pub Ordered : Outcome Order → Type 0
Ordered o = (o ≡ gives Less) ⊎ ((o ≡ gives Equal) ⊎ (o ≡ gives Greater))

-- a linear order of what belongs together; Equal only for what is the same
pub record LinearOrder {A : Type 0} (compare : A → A → Outcome Order) (together same : A → A → Type 0) : Type 0 where
  pub ordered : (x y : A) → together x y → Ordered (compare x y)
  pub reflexive : (x : A) → together x x → compare x x ≡ gives Equal
  pub equal_same : (x y : A) → together x y → compare x y ≡ gives Equal → same x y
  pub less_greater : (x y : A) → compare x y ≡ gives Less → compare y x ≡ gives Greater
  pub greater_less : (x y : A) → compare y x ≡ gives Greater → compare x y ≡ gives Less
  pub less_trans : (x y z : A) → compare x y ≡ gives Less → compare y z ≡ gives Less → compare x z ≡ gives Less

-- two values of one kind, and two of one integer kind
abbrev pub OneKind : Value → Value → Type 0
OneKind x y = kind_of x ≡ kind_of y

abbrev pub OneIntegerKind : Value → Value → Type 0
OneIntegerKind x y = T (is_integer (form_of (kind_of x))) × OneKind x y

-- ---- records

-- every field is of an integer kind
abbrev pub AllIntegers : List Field → Type 0
AllIntegers [] = Unit
AllIntegers (x ∷ xs) = T (is_integer (form_of (kind_of x.value))) × AllIntegers xs

-- two records of 1 to 12 fields with the same kinds, and two with integer kinds alone
abbrev pub OneShape : Record → Record → Type 0
OneShape a b = (bad_count a.count ≡ false) × (bad_count b.count ≡ false) × (kinds_of (fields_of a) ≡ kinds_of (fields_of b))

abbrev pub OneIntegerShape : Record → Record → Type 0
OneIntegerShape a b = AllIntegers (fields_of a) × OneShape a b

-- the fields that count are the same
abbrev pub SameFields : Record → Record → Type 0
SameFields a b = fields_of a ≡ fields_of b

-- eq of two records: they compare Equal
abbrev pub records_eq : Record → Record → Outcome Bool
records_eq a b = mapped is_equal (compare_of a b)

-- the comparison of the fields at one index
abbrev pub field_order : List Field → List Field → ℕ → Outcome Order
field_order xs ys i = cmp.compare_of (value_at xs i) (value_at ys i)

-- every field is Equal
abbrev pub AllEqual : List Field → List Field → Type 0
AllEqual xs ys = (i : ℕ) → i < length xs → field_order xs ys i ≡ gives Equal

-- the fields at i decide with the order o: there is one on each side, those before it are Equal, and it isn't
pub record DecidesAt (i : ℕ) (xs ys : List Field) (o : Order) : Type 0 where
  pub in_first : i < length xs
  pub in_second : i < length ys
  pub equal_before : (j : ℕ) → j < i → field_order xs ys j ≡ gives Equal
  pub decides : field_order xs ys i ≡ gives o
  pub not_equal : o ≡ Equal → ⊥
