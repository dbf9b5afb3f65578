-- One sample into an unsigned kind of k bits: a fraction is 3, a whole number out of its range 4, and any other without a sign is given.
use mathlib.Core.Path.{◌≡◌, refl, sym, ◌∙◌, ap}
use mathlib.Core.Bool.{Bool, true, false, cond}
use Prim.Native.Nat.{ℕ, ◌-◌, ◌*◌, ◌/◌, ◌%◌, ◌^◌, ◌<◌}
use native.Mathlib.Nat.{mul-div_cancel, mul-mod_left, mul-pos, zero-mod}
use native.Mathlib.Omega.{arith}
use borrow.Author.Tests.{eq-eqb, ne_eqb, le-ltb, ltb-true, ltb-false}
use lib.Dec.{ltb}
use lib.Pow.{pow_pos}
use Rattle.float.specs.Number.{Exact, finite}
use Rattle.float.proofs.Tests.{clash}
use Rattle.value.specs.declared.Kind.{Kind}
use Rattle.value.specs.declared.Kind.TheVariants as kind
use Rattle.value.specs.Kinds.{unsigned, form_of}
use Rattle.value.specs.Meaning.{bits_of, unit}
use Rattle.value.specs.Outcome.{gives, refuses, mapped}
use Rattle.value.proofs.Units.{unit_pos}
use Rattle.convert.specs.Convert.{outside, magnitude_for, made_in, convert_of}
use Rattle.convert.specs.Inner.{into_of}
use Rattle.convert.proofs.MinusZero.{some_magnitude}
use Rattle.convert.proofs.Wholes.{limit_is}
use Rattle.row.specs.Convert.{u8_to_u16, u16_to_u8}
use Rattle.row.specs.Inner.{is_wide}

-- ---- a kind whose values are numbers of k bits

module _ (to : Kind) (k : ℕ) (form : form_of to ≡ unsigned k) where
  pub into_fraction : (s : Bool) (m : ℕ) → (m % unit ≡ 0 → ⊥) → into_of to (finite s m) ≡ refuses 3 0
  unfolding into_of
  into_fraction s m h =
      let some : m ≡ 0 → ⊥ = λ q. h (ap (λ (n : ℕ). n % unit) q ∙ zero-mod unit) in
      simp (form, some_magnitude s m (omega arith), ne_eqb (m % unit) 0 h)

  -- n whole units
  module _ (n : ℕ) where
    no_rest : n * unit % unit ≡ 0
    no_rest = mul-mod_left n unit

    all_units : n * unit / unit ≡ n
    unfolding unit
    all_units = mul-div_cancel n (pow_pos 1074)

    pub into_outside : (s : Bool) → outside 0 (2 ^ k - 1) s n ≡ true → into_of to (finite s (n * unit)) ≡ refuses 4 0
    unfolding into_of
    into_outside s h =
        let above : cond s 0 (2 ^ k - 1) < n = ltb-true _ n (sym (limit_is 0 (2 ^ k - 1) s n) ∙ h) in
        let some : 0 < n * unit = mul-pos (omega arith) unit_pos in
        simp (form, some_magnitude s (n * unit) some, eq-eqb (n * unit % unit) 0 no_rest, all_units, h)

    pub into_inside : ((x : Exact) → bits_of (made_in to x) ≡ magnitude_for x) → ltb (2 ^ k - 1) n ≡ false
        → mapped bits_of (into_of to (finite false (n * unit))) ≡ gives n
    unfolding into_of
    into_inside made h = simp (form, eq-eqb (n * unit % unit) 0 no_rest, all_units, h) (ap gives (made (finite false (n * unit)) ∙ all_units))

pub u8_made : (x : Exact) → bits_of (made_in kind.U8 x) ≡ magnitude_for x
unfolding made_in
u8_made x = refl

pub u16_made : (x : Exact) → bits_of (made_in kind.U16 x) ≡ magnitude_for x
unfolding made_in
u16_made x = refl

-- ---- the samples

pub u8_wider : (n : ℕ) → n < 2 ^ 8 → u8_to_u16 n ≡ gives n
unfolding u8_to_u16 convert_of into_of
u8_wider n h = into_inside kind.U16 16 refl n u16_made (le-ltb (2 ^ 16 - 1) n (omega arith))

pub u16_narrower : (n : ℕ) → is_wide n ≡ false → u16_to_u8 n ≡ gives n
unfolding u16_to_u8 convert_of into_of
u16_narrower n h = into_inside kind.U8 8 refl n u8_made h

pub u16_wide : (n : ℕ) → is_wide n ≡ true → u16_to_u8 n ≡ refuses 4 0
unfolding u16_to_u8 convert_of into_of
u16_wide n h = ap (mapped bits_of) (into_outside kind.U8 8 refl n false h)

-- what a u16 is narrowed to is a byte
pub narrow_small : (n b : ℕ) → u16_to_u8 n ≡ gives b → b < 2 ^ 8
narrow_small n b q = go (is_wide n) refl
  where
    go : (t : Bool) → is_wide n ≡ t → b < 2 ^ 8
    go true h = clash (let k = sym (u16_wide n h) ∙ q in cc)
    go false h = let k : n ≡ b = cc (sym (u16_narrower n h) ∙ q) in let l = ltb-false 255 n h in omega arith
