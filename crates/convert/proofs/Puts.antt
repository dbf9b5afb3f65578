-- What a target finds and the value that it makes of it are the six rules and the value of the definition.
use Rattle.std.specs.Prelude.{Result, Err, Ok}
use mathlib.Core.Path.{◌≡◌, refl, sym, ◌∙◌, ap, subst}
use mathlib.Core.Bool.{Bool, true, false, not, ◌&&◌, and-true, and-false}
use Prim.Native.Nat.{ℕ, ◌+◌, ◌-◌, ◌*◌, ◌/◌, ◌%◌, ◌^◌}
use lib.Dec.{eqb, ltb}
use Rattle.float.specs.Format.{Format, f16, f32, f64, fraction_of, exponent_of, inf_in}
use Rattle.float.specs.ClassMeaning.{largest_in}
use Rattle.float.specs.Number.{Exact, not_number, infinite, finite}
use Rattle.value.specs.declared.Kind.{Kind}
use Rattle.value.specs.declared.Kind.TheVariants as kind
use Rattle.value.specs.declared.Value.{Value}
use Rattle.value.specs.Kinds.{Form, unsigned, signed, floating, form_of}
use Rattle.value.specs.Meaning.{unit, step_of}
use Rattle.value.specs.declared.Refusal.{Refusal}
use Rattle.value.specs.Outcome.{gives, refuse_if, refusal_of, outcome_of, mapped}
use Rattle.value.specs.Rules.{chain}
use Rattle.value.proofs.Rules.{chain_mapped}
use Rattle.convert.specs.Convert.{encode_of, held_in, is_minus_zero, has_fraction, outside, into_rules, sign_for, magnitude_for, abs_for, made_in}
use Rattle.convert.specs.declared.Found.{Found}
use Rattle.convert.specs.Inner.{into_of, found, whole_in, float_in, find_in, FitsIn, make_in}
use Rattle.convert.proofs.Accepted.{Accepted, rules_accept, unsigned_fits, signed_fits, abs_small}

-- ---- the number that a form has

abbrev number_for : Form → Exact → ℕ
number_for (unsigned k) x = magnitude_for x
number_for (signed k) x = magnitude_for x
number_for (floating f) x = abs_for f x

-- ---- the rules by the cases of the number

whole_rules : {A : Type 0} (z t u : Bool) (a : A)
    → refuse_if z 13 0 (refuse_if t 3 0 (refuse_if u 4 0 (gives a)))
    ≡ refuse_if (z && true) 13 0 (refuse_if (t && true) 3 0 (refuse_if u 4 0 (refuse_if false 5 0 (gives a))))
whole_rules z t u a = simp (and-true z, and-true t)

float_rules_lem : {A : Type 0} (z t u v : Bool) (a : A)
    → refuse_if u 4 0 (refuse_if v 5 0 (gives a)) ≡ refuse_if (z && false) 13 0 (refuse_if (t && false) 3 0 (refuse_if u 4 0 (refuse_if v 5 0 (gives a))))
float_rules_lem z t u v a = simp (and-false z, and-false t)

find_unsigned : (k : ℕ) (x : Exact) → whole_in 0 (2 ^ k - 1) x ≡ chain (into_rules (unsigned k) x) (gives (found (sign_for x) (magnitude_for x)))
unfolding whole_in
find_unsigned k not_number = refl
find_unsigned k (infinite s) = refl
find_unsigned k (finite s m) = whole_rules (s && eqb m 0) (not (eqb (m % unit) 0)) (outside 0 (2 ^ k - 1) s (m / unit)) (found s (m / unit))

find_signed : (k : ℕ) (x : Exact) → whole_in (2 ^ (k - 1)) (2 ^ (k - 1) - 1) x ≡ chain (into_rules (signed k) x) (gives (found (sign_for x) (magnitude_for x)))
unfolding whole_in
find_signed k not_number = refl
find_signed k (infinite s) = refl
find_signed k (finite s m) = whole_rules (s && eqb m 0) (not (eqb (m % unit) 0)) (outside (2 ^ (k - 1)) (2 ^ (k - 1) - 1) s (m / unit)) (found s (m / unit))

find_float : (f : Format) (last : ℕ) → last ≡ 2 ^ exponent_of f - 3 → (last + 2) * 2 ^ fraction_of f ≡ inf_in f → (x : Exact)
    → float_in (fraction_of f) (step_of f) last x ≡ chain (into_rules (floating f) x) (gives (found (sign_for x) (abs_for f x)))
unfolding float_in held_in encode_of
find_float f last q i not_number = refl
find_float f last q i (infinite s) = ap (λ (n : ℕ). gives (found s n)) i
find_float f last q i (finite s m) =
    rw q (float_rules_lem (is_minus_zero (finite s m)) (has_fraction (finite s m)) (ltb (largest_in f * step_of f) m) (not (held_in f m))
    (found s (encode_of f m)))

pub find_rules : (to : Kind) (x : Exact) → find_in to x ≡ chain (into_rules (form_of to) x) (gives (found (sign_for x) (number_for (form_of to) x)))
unfolding step_of
find_rules kind.U8 x = find_unsigned 8 x
find_rules kind.U16 x = find_unsigned 16 x
find_rules kind.U32 x = find_unsigned 32 x
find_rules kind.U64 x = find_unsigned 64 x
find_rules kind.I8 x = find_signed 8 x
find_rules kind.I16 x = find_signed 16 x
find_rules kind.I32 x = find_signed 32 x
find_rules kind.I64 x = find_signed 64 x
find_rules kind.F32 x = find_float f32 253 refl refl x
find_rules kind.F64 x = find_float f64 2045 refl refl x
find_rules kind.F16 x = find_float f16 29 refl refl x

-- ---- the value made of it

make_is : (to : Kind) (x : Exact) → make_in to (sign_for x) (number_for (form_of to) x) ≡ made_in to x
unfolding made_in
make_is kind.U8 x = refl
make_is kind.U16 x = refl
make_is kind.U32 x = refl
make_is kind.U64 x = refl
make_is kind.I8 x = refl
make_is kind.I16 x = refl
make_is kind.I32 x = refl
make_is kind.I64 x = refl
make_is kind.F32 x = refl
make_is kind.F64 x = refl
make_is kind.F16 x = refl

abbrev made : Kind → Found → Value
made to w = make_in to w.negative w.number

into_found : (to : Kind) (x : Exact) → mapped (made to) (find_in to x) ≡ into_of to x
unfolding into_of
into_found to x =
    ap (mapped (made to)) (find_rules to x)
    ∙ chain_mapped (made to) (into_rules (form_of to) x) (gives (found (sign_for x) (number_for (form_of to) x)))
    ∙ ap (λ (v : Value). chain (into_rules (form_of to) x) (gives v)) (make_is to x)

-- ---- as the code has it

number_fits : (form : Form) (x : Exact) → Accepted form x → FitsIn form (sign_for x) (number_for form x)
number_fits (unsigned k) x a = unsigned_fits k x a
number_fits (signed k) x a = signed_fits k x a
number_fits (floating f) x a = abs_small f x a

module _ (to : Kind) (x : Exact) (w : Result Found Refusal) (h : outcome_of w ≡ find_in to x) where
  into : mapped (made to) (outcome_of w) ≡ into_of to x
  into = ap (mapped (made to)) h ∙ into_found to x

  pub put_is : (n : Found) → w ≡ Ok n → gives (make_in to n.negative n.number) ≡ into_of to x
  put_is n q = sym (ap (λ (v : Result Found Refusal). mapped (made to) (outcome_of v)) q) ∙ into

  pub put_refused : (j : Refusal) → w ≡ Err j → refusal_of j ≡ into_of to x
  put_refused j q = sym (ap (λ (v : Result Found Refusal). mapped (made to) (outcome_of v)) q) ∙ into

  -- what was found fits the kind
  pub found_fits : (n : Found) → w ≡ Ok n → FitsIn (form_of to) n.negative n.number
  found_fits n q =
      let a = rules_accept (form_of to) x (found (sign_for x) (number_for (form_of to) x)) n (sym (find_rules to x) ∙ sym h ∙ ap outcome_of q) in
      subst (λ (v : Found). FitsIn (form_of to) v.negative v.number) a.1 (number_fits (form_of to) x a.0)
