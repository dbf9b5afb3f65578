-- What a program holds is in the range of its kind: owning a value tells it. So its bits are no more than its kind has.
use mathlib.Core.Path.{◌≡◌, refl, sym, subst}
use mathlib.Core.Bool.{Bool, true, false, cond}
use mathlib.Core.List.{List, [], ◌∷◌}
use Prim.Native.Nat.{ℕ, zero, suc, ◌+◌, ◌-◌, ◌*◌, ◌%◌, ◌^◌, ◌≤◌, ◌<◌}
use native.Mathlib.Nat.{pow-suc}
use native.Mathlib.Omega.{arith}
use lib.Dec.{T, lit<}
use lib.IntN.{ℤ, pos, negsuc}
use lib.Pow.{pow_pos}
use lib.Ieee.{Float, is_nan, fits, to_bits}
use lib.Ieee as language
use lib.Ieee.Bits.{to_bits-lt, of_bits-fits}
use mir.Val.{Val}
use denote.RattleType.{RattleType}
use denote.Laws.{Is}
use denote.Floats.{is_true}
use denote.Enum.Declared.{row}
use denote.Enum.Laws.{owed}
use Rattle.float.specs.Format.{Format, f16, f32, f64, fraction_of, exponent_of, inf_in, nan_in, sign_in}
use Rattle.float.specs.Language.{own_of}
use Rattle.value.specs.declared.Kind.{Kind}
use Rattle.value.specs.declared.Kind.TheVariants as kind
use Rattle.value.specs.declared.Value.{Value}
use Rattle.value.specs.declared.Value.TheVariants.{U8, U16, U32, U64, I8, I16, I32, I64, F32, F64, F16}
use Rattle.value.specs.Kinds.{Form, unsigned, signed, floating, form_of, width_in, kind_of}
use Rattle.value.specs.Meaning.{Content, natural, integer, real, content_of, FitsSigned, float_bits, bits_in, InRange, from_twos, word_for, value_of}
use Rattle.value.proofs.Widths.{Sized}
use Rattle.value.proofs.TwosComplement.{fits_below, below_fits, from_fits}
use Rattle.value.proofs.MadeValues.{low_bits}
use Rattle.value.specs.contracts.Value.{the_type, the_row}
use Rattle.value.proofs.Value.TheLaws.{the_laws}

-- ---- what a program holds

pub value_held : (v : Value) (vs : List Val) → Is (row the_type) v vs → InRange v
value_held (U8 n) vs p = (owed the_type the_laws (U8 n) vs p).0.1
value_held (U16 n) vs p = (owed the_type the_laws (U16 n) vs p).0.1
value_held (U32 n) vs p = (owed the_type the_laws (U32 n) vs p).0.1
value_held (U64 n) vs p = (owed the_type the_laws (U64 n) vs p).0.1
value_held (I8 z) vs p = below_fits (2 ^ 7) z (owed the_type the_laws (I8 z) vs p).0.1
value_held (I16 z) vs p = below_fits (2 ^ 15) z (owed the_type the_laws (I16 z) vs p).0.1
value_held (I32 z) vs p = below_fits (2 ^ 31) z (owed the_type the_laws (I32 z) vs p).0.1
value_held (I64 z) vs p = below_fits (2 ^ 63) z (owed the_type the_laws (I64 z) vs p).0.1
value_held (F32 x w) vs p = let o = owed the_type the_laws (F32 x w) vs p in (subst T (sym o.0.1) tt, o.1.0.1)
value_held (F64 x w) vs p = let o = owed the_type the_laws (F64 x w) vs p in (subst T (sym o.0.1) tt, o.1.0.1)
value_held (F16 b) vs p = (owed the_type the_laws (F16 b) vs p).0.1

-- ---- and what is in range a program can hold

-- one machine value stands for it
abbrev pub Stands : (R : RattleType) → R.Denot → Type 0
Stands R x = (u : Val) × Is R x (u ∷ [])

pub value_stands : (v : Value) → InRange v → Stands the_row v
value_stands (U8 n) h = (_, (_, (refl, ((_, tt), (refl, ((refl, h), tt))))))
value_stands (U16 n) h = (_, (_, (refl, ((_, tt), (refl, ((refl, h), tt))))))
value_stands (U32 n) h = (_, (_, (refl, ((_, tt), (refl, ((refl, h), tt))))))
value_stands (U64 n) h = (_, (_, (refl, ((_, tt), (refl, ((refl, h), tt))))))
value_stands (I8 z) h = (_, (_, (refl, ((_, tt), (refl, ((refl, fits_below (2 ^ 7) z h), tt))))))
value_stands (I16 z) h = (_, (_, (refl, ((_, tt), (refl, ((refl, fits_below (2 ^ 15) z h), tt))))))
value_stands (I32 z) h = (_, (_, (refl, ((_, tt), (refl, ((refl, fits_below (2 ^ 31) z h), tt))))))
value_stands (I64 z) h = (_, (_, (refl, ((_, tt), (refl, ((refl, fits_below (2 ^ 63) z h), tt))))))
value_stands (F32 x w) h = (_, (_, (refl, ((_, (_, tt)), (refl, ((refl, is_true _ h.0), ((refl, h.1), tt)))))))
value_stands (F64 x w) h = (_, (_, (refl, ((_, (_, tt)), (refl, ((refl, is_true _ h.0), ((refl, h.1), tt)))))))
value_stands (F16 b) h = (_, (_, (refl, ((_, tt), (refl, ((refl, h), tt))))))

-- ---- the form of a kind

abbrev pub form_in : Content → Form
form_in (natural k n) = unsigned k
form_in (integer k z) = signed k
form_in (real f b) = floating f

pub content_form : (v : Value) → form_in (content_of v) ≡ form_of (kind_of v)
content_form (U8 n) = refl
content_form (U16 n) = refl
content_form (U32 n) = refl
content_form (U64 n) = refl
content_form (I8 z) = refl
content_form (I16 z) = refl
content_form (I32 z) = refl
content_form (I64 z) = refl
content_form (F32 x w) = refl
content_form (F64 x w) = refl
content_form (F16 b) = refl

-- ---- bits

pub twice_half : (k : ℕ) → 1 ≤ k → 2 * 2 ^ (k - 1) ≡ 2 ^ k
twice_half zero h = elim h [ ]
twice_half (suc k) h = let q : suc k - 1 ≡ k = omega arith in rw (q, pow-suc 2 k) (omega arith)

twos_range : (k : ℕ) (z : ℤ) → 1 ≤ k → FitsSigned (2 ^ (k - 1)) z → bits_in (integer k z) < 2 ^ k
twos_range k (pos n) s h = omega (arith, twice_half k s)
twos_range k (negsuc n) s h = omega (arith, pow_pos k)

quiet_range : (f : Format) → inf_in f + 2 ^ (fraction_of f - 1) < 2 ^ width_in (floating f)
quiet_range f16 = lit< tt
quiet_range f32 = lit< tt
quiet_range f64 = lit< tt

number_range : (f : language.Format) (x : Float) → T (fits f x) → to_bits f x < 2 ^ width_in (floating (own_of f))
number_range language.binary32 x h = to_bits-lt language.binary32 x h
number_range language.binary64 x h = to_bits-lt language.binary64 x h

float_range : (f : language.Format) (x : Float) (w : ℕ) → T (fits f x) → w < 2 ^ width_in (floating (own_of f))
    → float_bits f x w < 2 ^ width_in (floating (own_of f))
unfolding float_bits
float_range f x w h g = go (is_nan x) (nan_in (own_of f) w)
  where
    go : (s t : Bool) → cond s (cond t w (inf_in (own_of f) + 2 ^ (fraction_of (own_of f) - 1))) (to_bits f x) < 2 ^ width_in (floating (own_of f))
    go true true = g
    go true false = quiet_range (own_of f)
    go false t = number_range f x h

-- what it holds has no more bits than its form; of a float the sign bit is the highest
abbrev pub Ranged : Content → Type 0
Ranged (natural k n) = n < 2 ^ k
Ranged (integer k z) = FitsSigned (2 ^ (k - 1)) z
Ranged (real f b) = b < 2 * sign_in f

pub content_ranged : (v : Value) → InRange v → Ranged (content_of v)
content_ranged (U8 n) r = r
content_ranged (U16 n) r = r
content_ranged (U32 n) r = r
content_ranged (U64 n) r = r
content_ranged (I8 z) r = r
content_ranged (I16 z) r = r
content_ranged (I32 z) r = r
content_ranged (I64 z) r = r
content_ranged (F32 x w) r = float_range language.binary32 x w r.0 r.1
content_ranged (F64 x w) r = float_range language.binary64 x w r.0 r.1
content_ranged (F16 b) r = r

pub bits_range : (x : Content) → Sized (form_in x) → Ranged x → bits_in x < 2 ^ width_in (form_in x)
bits_range (natural k n) s r = r
bits_range (integer k z) s r = twos_range k z (omega (arith, s.0)) r
bits_range (real f b) s r = omega (arith, pow-suc 2 (fraction_of f + exponent_of f))

-- ---- what is made of a pattern

word_small : (f : Format) (b : ℕ) → b < 2 ^ width_in (floating f) → word_for f b < 2 ^ width_in (floating f)
word_small f b h = go (nan_in f b)
  where
    go : (t : Bool) → cond t b 0 < 2 ^ width_in (floating f)
    go true = h
    go false = pow_pos (width_in (floating f))

signed_small : (half n : ℕ) → n < 2 * half → FitsSigned half (from_twos half n)
signed_small half n h = below_fits half (from_twos half n) (from_fits half n h)

pub made_in_range : (k : Kind) (b : ℕ) → InRange (value_of k b)
unfolding value_of
made_in_range kind.U8 b = low_bits b 8
made_in_range kind.U16 b = low_bits b 16
made_in_range kind.U32 b = low_bits b 32
made_in_range kind.U64 b = low_bits b 64
made_in_range kind.I8 b = signed_small (2 ^ 7) (b % 2 ^ 8) (low_bits b 8)
made_in_range kind.I16 b = signed_small (2 ^ 15) (b % 2 ^ 16) (low_bits b 16)
made_in_range kind.I32 b = signed_small (2 ^ 31) (b % 2 ^ 32) (low_bits b 32)
made_in_range kind.I64 b = signed_small (2 ^ 63) (b % 2 ^ 64) (low_bits b 64)
made_in_range kind.F32 b = (of_bits-fits language.binary32 (b % 2 ^ 32), word_small f32 (b % 2 ^ 32) (low_bits b 32))
made_in_range kind.F64 b = (of_bits-fits language.binary64 (b % 2 ^ 64), word_small f64 (b % 2 ^ 64) (low_bits b 64))
made_in_range kind.F16 b = low_bits b 16
