-- A value as it is read is made again of its bits; they are the bits that were written, with plus zero's for minus zero's.
use Prim.Native.Nat.{ℕ, ◌+◌, ◌*◌, ◌^◌, ◌%◌, ◌<◌}
use native.Mathlib.Nat.{mod-eq_of_lt, pow-suc}
use native.Mathlib.Omega.{arith}
use mathlib.Core.Path.{◌≡◌, refl, ap, ◌∙◌, subst}
use mathlib.Core.Bool.{Bool, true, false, cond}
use lib.Dec.{eqb}
use Rattle.float.specs.Format.{fraction_of, exponent_of, sign_in}
use Rattle.value.specs.declared.Kind.{Kind}
use Rattle.value.specs.declared.Kind.TheVariants as kind
use Rattle.value.specs.declared.Value.{Value}
use Rattle.value.specs.Kinds.{Form, floating, form_of, kind_of, width_in, width_of}
use Rattle.value.specs.Meaning.{Content, natural, integer, real, content_of, bits_in, bits_of, value_of}
use Rattle.value.proofs.MadeValues.{low_bits, bits_made, value_bits}
use Rattle.value.proofs.Ranges.{form_in, content_form, Ranged, content_ranged}
use Rattle.key.specs.Keyed.{Keyed, plus_zero_in, made_normal, normal}
use Rattle.key.proofs.FieldKeys.{field_read}

-- ---- values made again of their bits

value_low : (k : Kind) (b : ℕ) → value_of k (b % 2 ^ width_of k) ≡ value_of k b
unfolding value_of
value_low kind.U8 b = rw (mod-eq_of_lt (low_bits b 8))
value_low kind.U16 b = rw (mod-eq_of_lt (low_bits b 16))
value_low kind.U32 b = rw (mod-eq_of_lt (low_bits b 32))
value_low kind.U64 b = rw (mod-eq_of_lt (low_bits b 64))
value_low kind.I8 b = rw (mod-eq_of_lt (low_bits b 8))
value_low kind.I16 b = rw (mod-eq_of_lt (low_bits b 16))
value_low kind.I32 b = rw (mod-eq_of_lt (low_bits b 32))
value_low kind.I64 b = rw (mod-eq_of_lt (low_bits b 64))
value_low kind.F32 b = rw (mod-eq_of_lt (low_bits b 32))
value_low kind.F64 b = rw (mod-eq_of_lt (low_bits b 64))
value_low kind.F16 b = rw (mod-eq_of_lt (low_bits b 16))

made_again : (k : Kind) (b : ℕ) → value_of k (bits_of (value_of k b)) ≡ value_of k b
made_again k b = ap (value_of k) (bits_made k b) ∙ value_low k b

-- a value as it is read is made again of its bits
pub normal_again : (v : Value) → Keyed v → normal v ≡ v → value_of (kind_of v) (bits_of v) ≡ v
normal_again v h q =
    let is = (field_read v h).value_is ∙ q in
    subst (λ (u : Value). value_of (kind_of v) (bits_of u) ≡ u) is (made_again (kind_of v) _)

-- ---- the bits of a value made normal

plus_zero_below : (b m half : ℕ) → b < m → cond (eqb b half) 0 b < m
plus_zero_below b m half h = go (eqb b half)
  where
    go : (t : Bool) → cond t 0 b < m
    go true = omega arith
    go false = h

content_normal : (v : Value) (c : Content) → content_of v ≡ c → form_in c ≡ form_of (kind_of v) → Ranged c
    → bits_of (made_normal c v) ≡ plus_zero_in (form_in c) (bits_in c)
content_normal v (natural k n) q form r = ap bits_in q
content_normal v (integer k z) q form r = ap bits_in q
content_normal v (real f b) q form r =
    let below : plus_zero_in (floating f) b < 2 ^ width_in (floating f) =
    omega (arith, plus_zero_below b (2 * sign_in f) (sign_in f) r, pow-suc 2 (fraction_of f + exponent_of f)) in
    value_bits (kind_of v) (plus_zero_in (floating f) b) (subst (λ (other : Form). plus_zero_in (floating f) b < 2 ^ width_in other) form below)

pub normal_bits : (v : Value) → Keyed v → bits_of (normal v) ≡ plus_zero_in (form_of (kind_of v)) (bits_of v)
normal_bits v h =
    content_normal v (content_of v) refl (content_form v) (content_ranged v h.in_range)
    ∙ ap (λ (form : Form). plus_zero_in form (bits_of v)) (content_form v)
