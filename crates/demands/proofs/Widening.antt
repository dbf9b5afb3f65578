-- A kind widens another exactly when it holds all its numbers. Where the table says yes, a conversion gives each number;
-- where it says no, one value of the kind, the same for all others, is refused: this is computed for all pairs of kinds.
use Rattle.std.specs.Prelude.{Some}
use mathlib.Core.Path.{◌≡◌, sym, ◌∙◌, ap, subst}
use mathlib.Core.Bool.{Bool, true, false, not, ◌&&◌, ◌||◌, or-false}
use mathlib.Core.Logic.{◌⊎◌, inl, inr, ◌↔◌}
use mathlib.Core.List.{List, [], ◌∷◌}
use Prim.Native.Nat.{ℕ, zero, suc, ◌+◌, ◌-◌, ◌*◌, ◌^◌}
use native.Mathlib.Omega.{arith}
use borrow.Author.Tests.{eqb-true}
use lib.Dec.{T, eqb}
use lib.IntN.{pos}
use lib.Ieee.{to_bits, of_bits, of_fields, odd, size, span, climb, is_nan}
use lib.Ieee.Fits.{and_l, and_r}
use Rattle.float.specs.Format.{fraction_of, exponent_of, abs_of, mag_of}
use Rattle.float.specs.Number.{Exact, not_number, infinite, finite, none, is_none, number, signed_of}
use Rattle.float.specs.Number as float-number
use Rattle.float.specs.Order.{pattern_of}
use Rattle.float.proofs.Naturals.{three_ways}
use Rattle.float.proofs.Tests.{clash, neither}
use Rattle.value.specs.declared.Kind.{Kind}
use Rattle.value.specs.declared.Value.{Value}
use Rattle.value.specs.Kinds.{kind_of, kind_number, all_kinds, kind_in, Form, unsigned, signed, floating, form_of, is_integer}
use Rattle.value.specs.Meaning.{exact_of, number_of, value_of, float_bits, unit, step_of}
use Rattle.value.specs.Outcome.{Outcome, gives, refuses}
use Rattle.value.proofs.FloatBits.{is_false}
use Rattle.value.proofs.KindNumbers.{kind_back, number_injective}
use Rattle.value.proofs.MadeValues.{value_kind}
use Rattle.value.proofs.Ranges.{made_in_range}
use Rattle.cmp.proofs.KindTests.{is_true}
use Rattle.convert.specs.Convert.{is_minus_zero, convert_of, encode_of, held_in, made_in}
use Rattle.convert.specs.Widening.{widens}
use Rattle.convert.proofs.Exactly.{is_none_lem, own_kind_lem, exactly}
use Rattle.convert.proofs.Widening.{widened}
use Rattle.demands.specs.Conversion.{HoldsAllOf}

-- ---- two kinds are one or not

own_or_other : (v : Value) (to : Kind) → (kind_number (kind_of v) ≡ kind_number to) ⊎ (kind_number (kind_of v) ≡ kind_number to → ⊥)
own_or_other v to = elim (three_ways (kind_number (kind_of v)) (kind_number to)) [
  | inl l ↦ inr (λ q. omega arith)
  | inr (inl q) ↦ inl q
  | inr (inr g) ↦ inr (λ q. omega arith)
]

-- ---- the table says yes

holds_all : (from to : Kind) → widens (form_of from) (form_of to) ≡ true → HoldsAllOf from to
holds_all from to h b some =
    let v = value_of from b in
    let k = value_kind from b in
    elim (own_or_other v to) [
      | inl q ↦ (b, ap (λ (j : Kind). number_of (value_of j b)) (sym (number_injective (kind_of v) to q) ∙ k))
      | inr d ↦
          let w = widened v to (made_in_range from b) d (subst (λ (j : Kind). widens (form_of j) (form_of to) ≡ true) (sym k) h) some in
          ((exactly v to d).0 w).2
    ]

-- ---- a test that holds of every kind

abbrev every : (Kind → Bool) → List Kind → Bool
every p [] = true
every p (k ∷ ks) = p k && every p ks

in_list : (p : Kind → Bool) (ks : List Kind) (n : ℕ) (k : Kind) → T (every p ks) → kind_in ks n ≡ Some k → T (p k)
in_list p [] n k t q = clash cc
in_list p (j ∷ ks) zero k t q = let same : j ≡ k = cc in subst (λ (i : Kind). T (p i)) same (and_l (p j) (every p ks) t)
in_list p (j ∷ ks) (suc n) k t q = in_list p ks n k (and_r (p j) (every p ks) t) q

of_every : (p : Kind → Bool) → T (every p all_kinds) → (k : Kind) → T (p k)
of_every p t k = in_list p all_kinds (kind_number k) k t (kind_back k)

-- every kind has the number 0: its bits 0 are one
abbrev is_nought : Exact → Bool
is_nought not_number = false
is_nought (infinite s) = false
is_nought (finite s m) = eqb m 0

nought_number : (x : Exact) → T (is_nought x) → float-number.number_of x ≡ number (pos 0)
nought_number not_number t = absurd t
nought_number (infinite s) t = absurd t
nought_number (finite true m) t = ap (λ (n : ℕ). number (signed_of true n)) (eqb-true m 0 (is_true _ t))
nought_number (finite false m) t = ap (λ (n : ℕ). number (signed_of false n)) (eqb-true m 0 (is_true _ t))

all_noughts : T (every (λ k. is_nought (exact_of (value_of k 0))) all_kinds)
unfolding value_of unit step_of float_bits pattern_of mag_of abs_of to_bits of_bits of_fields odd size span climb is_nan
all_noughts = tt

pub has_nought : (to : Kind) → number_of (value_of to 0) ≡ number (pos 0)
has_nought to = nought_number (exact_of (value_of to 0)) (of_every (λ k. is_nought (exact_of (value_of k 0))) all_noughts to)

-- ---- the table says no

-- the largest, minus the largest, or the next number above 1
abbrev telling_bits : Form → ℕ
telling_bits (unsigned n) = 2 ^ n - 1
telling_bits (signed n) = 2 ^ (n - 1) + 1
telling_bits (floating f) = (2 ^ (exponent_of f - 1) - 1) * 2 ^ fraction_of f + 1

abbrev telling : Kind → Value
telling k = value_of k (telling_bits (form_of k))

abbrev is_refused : Outcome Value → Bool
is_refused (gives w) = false
is_refused (refuses n p) = true

-- it has a number, and isn't minus zero
abbrev has_number : Kind → Bool
has_number from = not (is_none (exact_of (telling from)) || is_minus_zero (exact_of (telling from)))

-- no kind without room takes it
abbrev tells : Kind → Kind → Bool
tells from to = widens (form_of from) (form_of to) || is_refused (convert_of (telling from) to)

all_numbers : T (every has_number all_kinds)
unfolding value_of unit step_of float_bits pattern_of mag_of abs_of to_bits of_bits of_fields odd size span climb is_nan
all_numbers = tt

all_told : T (every (λ from. every (tells from) all_kinds) all_kinds)
unfolding value_of convert_of made_in held_in encode_of unit step_of float_bits pattern_of mag_of abs_of to_bits of_bits of_fields odd size span climb is_nan
all_told = tt

module _ (from to : Kind) (holds : HoldsAllOf from to) where
  told : (is_none (exact_of (telling from)) ≡ false) × (is_minus_zero (exact_of (telling from)) ≡ false)
  told = neither _ _ (is_false _ (of_every has_number all_numbers from))

  some_number : number_of (telling from) ≡ none → ⊥
  some_number = is_none_lem (exact_of (telling from)) told.0

  no_sign : (is_minus_zero (exact_of (telling from)) && is_integer (form_of to)) ≡ false
  no_sign = ap (λ (t : Bool). t && is_integer (form_of to)) told.1

  not_refused : is_refused (convert_of (telling from) to) ≡ false
  not_refused = elim (own_or_other (telling from) to) [
    | inl q ↦ ap is_refused (own_kind_lem (telling from) to q)
    | inr d ↦ ap is_refused ((exactly (telling from) to d).1 (some_number, no_sign, holds (telling_bits (form_of from)) some_number)).1
  ]

  all_held : widens (form_of from) (form_of to) ≡ true
  all_held =
      let told : T (tells from to) = of_every (tells from) (of_every (λ k. every (tells k) all_kinds) all_told from) to in
      sym (or-false _) ∙ is_true _ (subst (λ (t : Bool). T (widens (form_of from) (form_of to) || t)) not_refused told)

pub widens_means : (from to : Kind) → (widens (form_of from) (form_of to) ≡ true) ↔ HoldsAllOf from to
widens_means from to = (holds_all from to, all_held from to)
