-- To another kind a value converts exactly when it has a number, some value of that kind has the same number, and it isn't minus zero to an
-- integer kind; and then the answer stands for the same.
use mathlib.Core.Path.{◌≡◌, refl, sym, ◌∙◌, ap, subst}
use mathlib.Core.Bool.{Bool, true, false, ◌&&◌, cond, and-true}
use mathlib.Core.List.{[]}
use Prim.Native.Nat.{ℕ, ◌-◌, ◌*◌, ◌%◌, ◌^◌, ◌<◌}
use native.Mathlib.Nat.{mod-eq_of_lt}
use native.Mathlib.Omega.{arith}
use borrow.Author.Tests.{eq-eqb, ne_eqb}
use lib.IntN.{ℤ, pos, negsuc}
use lib.Signed.{mag}
use lib.Ieee.{of_bits}
use lib.Ieee as language
use Rattle.float.specs.Language.{own_of}
use Rattle.float.specs.Format.{f16, f32, f64, sign_in}
use Rattle.float.specs.Number.{Exact, not_number, infinite, finite, is_none, times, none}
use Rattle.float.specs.Number as float-number
use Rattle.float.specs.Order.{pattern_in}
use Rattle.float.proofs.Language.{below_top}
use Rattle.float.proofs.Tests.{clash}
use Rattle.value.specs.declared.Kind.{Kind}
use Rattle.value.specs.declared.Kind.TheVariants as kind
use Rattle.value.specs.declared.Value.{Value}
use Rattle.value.specs.declared.Value.TheVariants.{U8, U16, U32, U64, I8, I16, I32, I64, F16}
use Rattle.value.specs.Kinds.{kind_of, kind_number, floating, form_of, is_integer}
use Rattle.value.specs.Meaning.{exact_of, number_of, bits_of, step_of, twos_of, from_twos, f32_value, f64_value, value_of, word_for, float_bits}
use Rattle.value.specs.Outcome.{Outcome, gives}
use Rattle.value.specs.Rules.{chain}
use Rattle.value.proofs.FloatBits.{bits_pattern}
use Rattle.value.proofs.MadeValues.{low_bits}
use Rattle.value.proofs.TwosComplement.{from_fits, from_twos_lem}
use Rattle.convert.specs.Convert.{is_minus_zero, magnitude_for, integer_for, pattern_for, into_rules, made_in, convert_of}
use Rattle.convert.specs.Inner.{into_of}
use Rattle.convert.proofs.Accepted.{Accepted, rules_accept, rules_give, exact_for, made_same, unsigned_fits}
use Rattle.convert.proofs.Accepted.{signed_fits, pattern_small, accepts_unsigned, accepts_signed, accepts_float}

-- ---- the made value

pub made_kind : (to : Kind) (x : Exact) → kind_of (made_in to x) ≡ to
unfolding made_in
made_kind kind.U8 x = refl
made_kind kind.U16 x = refl
made_kind kind.U32 x = refl
made_kind kind.U64 x = refl
made_kind kind.I8 x = refl
made_kind kind.I16 x = refl
made_kind kind.I32 x = refl
made_kind kind.I64 x = refl
made_kind kind.F32 x = refl
made_kind kind.F64 x = refl
made_kind kind.F16 x = refl

-- a float that the language holds as a float
module _ (f : language.Format) (x : Exact) (a : Accepted (floating (own_of f)) x) where
  abbrev own_pattern : ℕ
  own_pattern = pattern_for (own_of f) x

  float_bits_lem : float_bits f (of_bits f own_pattern) (word_for (own_of f) own_pattern) ≡ own_pattern
  float_bits_lem = bits_pattern f own_pattern (below_top f own_pattern (pattern_small (own_of f) x a))

  float_of : own_pattern ≡ float_bits f (of_bits f own_pattern) (word_for (own_of f) own_pattern) % (2 * sign_in (own_of f))
  float_of = sym (ap (λ (n : ℕ). n % (2 * sign_in (own_of f))) float_bits_lem ∙ mod-eq_of_lt (pattern_small (own_of f) x a))

made_exact : (to : Kind) (x : Exact) → Accepted (form_of to) x → exact_of (made_in to x) ≡ exact_for (form_of to) x
unfolding made_in
made_exact kind.U8 x a = refl
made_exact kind.U16 x a = refl
made_exact kind.U32 x a = refl
made_exact kind.U64 x a = refl
made_exact kind.I8 x a = refl
made_exact kind.I16 x a = refl
made_exact kind.I32 x a = refl
made_exact kind.I64 x a = refl
made_exact kind.F32 x a = ap (λ (b : ℕ). times (step_of f32) (pattern_in f32 b)) (float_bits_lem language.binary32 x a)
made_exact kind.F64 x a = ap (λ (b : ℕ). times (step_of f64) (pattern_in f64 b)) (float_bits_lem language.binary64 x a)
made_exact kind.F16 x a = refl

-- the made value is that of its own bits: it lies in the kind's range
natural_of : (k n : ℕ) → n < 2 ^ k → n ≡ n % 2 ^ k
natural_of k n h = sym (mod-eq_of_lt h)

twos_fits : (half : ℕ) (z : ℤ) → mag z < half → twos_of (2 * half - 1) z < 2 * half
twos_fits half (pos n) h = omega arith
twos_fits half (negsuc n) h = omega arith

integer_of : (half : ℕ) (z : ℤ) → mag z < half → z ≡ from_twos half (twos_of (2 * half - 1) z % (2 * half))
integer_of half z h = sym (ap (from_twos half) (mod-eq_of_lt (twos_fits half z h)) ∙ from_twos_lem half z h)

made_of_bits : (to : Kind) (x : Exact) → Accepted (form_of to) x → made_in to x ≡ value_of to (bits_of (made_in to x))
unfolding made_in value_of
made_of_bits kind.U8 x a = ap U8 (natural_of 8 (magnitude_for x) (unsigned_fits 8 x a))
made_of_bits kind.U16 x a = ap U16 (natural_of 16 (magnitude_for x) (unsigned_fits 16 x a))
made_of_bits kind.U32 x a = ap U32 (natural_of 32 (magnitude_for x) (unsigned_fits 32 x a))
made_of_bits kind.U64 x a = ap U64 (natural_of 64 (magnitude_for x) (unsigned_fits 64 x a))
made_of_bits kind.I8 x a = ap I8 (integer_of (2 ^ 7) (integer_for x) (signed_fits 8 x a))
made_of_bits kind.I16 x a = ap I16 (integer_of (2 ^ 15) (integer_for x) (signed_fits 16 x a))
made_of_bits kind.I32 x a = ap I32 (integer_of (2 ^ 31) (integer_for x) (signed_fits 32 x a))
made_of_bits kind.I64 x a = ap I64 (integer_of (2 ^ 63) (integer_for x) (signed_fits 64 x a))
made_of_bits kind.F32 x a = ap f32_value (float_of language.binary32 x a)
made_of_bits kind.F64 x a = ap f64_value (float_of language.binary64 x a)
made_of_bits kind.F16 x a = ap F16 (natural_of 16 (pattern_for f16 x) (pattern_small f16 x a))

-- ---- a value of the kind that has the number

accepts : (to : Kind) (b : ℕ) (x : Exact) → is_none x ≡ false → (is_minus_zero x && is_integer (form_of to)) ≡ false
    → number_of (value_of to b) ≡ float-number.number_of x → Accepted (form_of to) x
unfolding value_of
accepts kind.U8 b x t z h = accepts_unsigned 8 (b % 2 ^ 8) x (sym (and-true _) ∙ z) (low_bits b 8) h
accepts kind.U16 b x t z h = accepts_unsigned 16 (b % 2 ^ 16) x (sym (and-true _) ∙ z) (low_bits b 16) h
accepts kind.U32 b x t z h = accepts_unsigned 32 (b % 2 ^ 32) x (sym (and-true _) ∙ z) (low_bits b 32) h
accepts kind.U64 b x t z h = accepts_unsigned 64 (b % 2 ^ 64) x (sym (and-true _) ∙ z) (low_bits b 64) h
accepts kind.I8 b x t z h = accepts_signed 8 (from_twos (2 ^ 7) (b % 2 ^ 8)) x (sym (and-true _) ∙ z) (from_fits (2 ^ 7) (b % 2 ^ 8) (low_bits b 8)) h
accepts kind.I16 b x t z h = accepts_signed 16 (from_twos (2 ^ 15) (b % 2 ^ 16)) x (sym (and-true _) ∙ z) (from_fits (2 ^ 15) (b % 2 ^ 16) (low_bits b 16)) h
accepts kind.I32 b x t z h = accepts_signed 32 (from_twos (2 ^ 31) (b % 2 ^ 32)) x (sym (and-true _) ∙ z) (from_fits (2 ^ 31) (b % 2 ^ 32) (low_bits b 32)) h
accepts kind.I64 b x t z h = accepts_signed 64 (from_twos (2 ^ 63) (b % 2 ^ 64)) x (sym (and-true _) ∙ z) (from_fits (2 ^ 63) (b % 2 ^ 64) (low_bits b 64)) h
accepts kind.F32 b x t z h = accepts_float f32 _ x t h
accepts kind.F64 b x t z h = accepts_float f64 _ x t h
accepts kind.F16 b x t z h = accepts_float f16 _ x t h

-- ---- the six rules

pub into_accepts : (to : Kind) (x : Exact) (w : Value) → into_of to x ≡ gives w → Accepted (form_of to) x × (made_in to x ≡ w)
unfolding into_of
into_accepts to x w h = rules_accept (form_of to) x (made_in to x) w h

pub into_gives : (to : Kind) (x : Exact) → Accepted (form_of to) x → into_of to x ≡ gives (made_in to x)
unfolding into_of
into_gives to x a = rules_give (form_of to) x (made_in to x) a

-- by whether the kind is its own
abbrev own : Value → Kind → Bool → Outcome Value
own v to t = chain (cond t [] (into_rules (form_of to) (exact_of v))) (gives (cond t v (made_in to (exact_of v))))

pub other_kind : (v : Value) (to : Kind) → (kind_number (kind_of v) ≡ kind_number to → ⊥) → convert_of v to ≡ into_of to (exact_of v)
unfolding convert_of into_of
other_kind v to d = ap (own v to) (ne_eqb _ _ d)

pub none_is : (x : Exact) → (float-number.number_of x ≡ none → ⊥) → is_none x ≡ false
none_is not_number h = absurd (h refl)
none_is (infinite s) h = refl
none_is (finite s m) h = refl

pub is_none_lem : (x : Exact) → is_none x ≡ false → float-number.number_of x ≡ none → ⊥
is_none_lem not_number t h = clash cc
is_none_lem (infinite true) t h = clash cc
is_none_lem (infinite false) t h = clash cc
is_none_lem (finite s m) t h = clash cc

-- ---- when a value converts

-- the same kind: the same value
pub own_kind_lem : (v : Value) (to : Kind) → kind_number (kind_of v) ≡ kind_number to → convert_of v to ≡ gives v
unfolding convert_of
own_kind_lem v to q = ap (own v to) (eq-eqb _ _ q)

pub same_kind : (v : Value) → convert_of v (kind_of v) ≡ gives v
same_kind v = own_kind_lem v (kind_of v) refl

module _ (v : Value) (to : Kind) (other : kind_number (kind_of v) ≡ kind_number to → ⊥) where
  -- minus zero to an integer kind, which has one zero alone
  abbrev sign_lost : Bool
  sign_lost = is_minus_zero (exact_of v) && is_integer (form_of to)

  -- an answer has a number, and no sign is lost; it is the value of some bits of the kind, and stands for the same
  pub sound : (w : Value) → convert_of v to ≡ gives w
      → (number_of v ≡ none → ⊥) × (sign_lost ≡ false) × (kind_of w ≡ to) × (value_of to (bits_of w) ≡ w) × (exact_of w ≡ exact_of v)
  sound w h =
      let a = into_accepts to (exact_of v) w (sym (other_kind v to other) ∙ h) in (
        is_none_lem (exact_of v) a.0.some_number,
        a.0.no_minus_zero,
        ap kind_of (sym a.1) ∙ made_kind to (exact_of v),
        subst (λ (u : Value). value_of to (bits_of u) ≡ u) a.1 (sym (made_of_bits to (exact_of v) a.0)),
        ap exact_of (sym a.1) ∙ made_exact to (exact_of v) a.0 ∙ made_same (form_of to) (exact_of v) a.0,
      )

  -- where some bits of the kind have the number, and no sign is lost, there is an answer
  pub complete : (b : ℕ) → (number_of v ≡ none → ⊥) → sign_lost ≡ false → number_of (value_of to b) ≡ number_of v
      → convert_of v to ≡ gives (made_in to (exact_of v))
  complete b n z h = other_kind v to other ∙ into_gives to (exact_of v) (accepts to b (exact_of v) (none_is (exact_of v) n) z h)

  -- the two as one claim
  abbrev KindHasIt : Type 0
  KindHasIt = (number_of v ≡ none → ⊥) × (sign_lost ≡ false) × ((b : ℕ) × (number_of (value_of to b) ≡ number_of v))

  pub exactly : (((w : Value) × (convert_of v to ≡ gives w)) → KindHasIt) × (KindHasIt → (w : Value) × (convert_of v to ≡ gives w))
  exactly = (
    λ given. let s = sound given.0 given.1 in (s.0, s.1, (bits_of given.0, ap number_of s.3 ∙ ap float-number.number_of s.4)),
    λ has. (made_in to (exact_of v), complete has.2.0 has.0 has.1 has.2.1),
  )
