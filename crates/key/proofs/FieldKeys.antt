-- One field: its key number is in range, orders as its value, and is read back as the value made normal; and every canonical number is the key of the
-- value read.
-- A law for each of the three forms, over the width; the kinds are its instances.
use mathlib.Core.Path.{◌≡◌, refl, sym, ap, ◌∙◌, subst}
use mathlib.Core.Bool.{false}
use Prim.Native.Nat.{ℕ, ◌*◌, ◌%◌, ◌-◌, ◌^◌, ◌<◌}
use native.Mathlib.Nat.{mod-eq_of_lt}
use lib.IntN.{ℤ, pos, negsuc}
use Rattle.float.specs.Format.{Format, f16, f32, f64, sign_in}
use Rattle.float.specs.Number.{is_none, times}
use Rattle.float.specs.Number as float-number
use Rattle.float.specs.Order.{order_n, order_of}
use Rattle.float.proofs.Tests.{clash}
use Rattle.value.specs.declared.Kind.{Kind}
use Rattle.value.specs.declared.Kind.TheVariants as kind
use Rattle.value.specs.declared.Value.{Value}
use Rattle.value.specs.declared.Value.TheVariants.{U8, U16, U32, U64, I8, I16, I32, I64, F32, F64, F16}
use Rattle.value.specs.Kinds.{signed, floating, form_of, kind_of, width_of, bytes_of}
use Rattle.value.specs.Meaning.{Content, natural, integer, real, content_of, FitsSigned, whole_of, unit, exact_in, bits_of, value_of}
use Rattle.cmp.specs.Compare.{value_order}
use Rattle.cmp.proofs.Numbers.{integers_order}
use Rattle.key.specs.Key.{key_in, key_number, bits_from, not_canonical}
use Rattle.key.specs.Keyed.{Keyed, normal}
use Rattle.value.proofs.Ranges.{form_in, content_form, Ranged, content_ranged, made_in_range}
use Rattle.value.proofs.MadeValues.{value_bits}
use Rattle.key.proofs.SignedKeys.{shifted_order, shifted_below, shifted_read, read_shifted}
use Rattle.key.proofs.FloatFields.{float_below, float_canonical, float_read, float_order, made_pattern, made_small, made_some, made_key}

-- ---- the order

signed_order : (k : ℕ) (y z : ℤ) → FitsSigned (2 ^ (k - 1)) y → FitsSigned (2 ^ (k - 1)) z
    → order_n (key_in (integer k y)) (key_in (integer k z))
    ≡ order_of (float-number.number_of (exact_in (integer k y))) (float-number.number_of (exact_in (integer k z)))
signed_order k y z h l = shifted_order (2 ^ (k - 1)) y z h l ∙ integers_order y z

content_order : (c d : Content) → form_in c ≡ form_in d → Ranged c → Ranged d → is_none (exact_in c) ≡ false → is_none (exact_in d) ≡ false
    → order_n (key_in c) (key_in d) ≡ order_of (float-number.number_of (exact_in c)) (float-number.number_of (exact_in d))
content_order (natural j m) (natural k n) q h l s t = integers_order (pos m) (pos n)
content_order (natural j m) (integer k z) q h l s t = clash cc
content_order (natural j m) (real g y) q h l s t = clash cc
content_order (integer j y) (natural k n) q h l s t = clash cc
content_order (integer j y) (integer k z) q h l s t =
    let r : j ≡ k = cc in
    subst (λ (i : ℕ). order_n (key_in (integer j y)) (key_in (integer i z))
    ≡ order_of (float-number.number_of (exact_in (integer j y))) (float-number.number_of (exact_in (integer i z)))) r
    (signed_order j y z h (rw (sym r) at l))
content_order (integer j y) (real g b) q h l s t = clash cc
content_order (real f a) (natural k n) q h l s t = clash cc
content_order (real f a) (integer k z) q h l s t = clash cc
content_order (real f a) (real g b) q h l s t =
    let r : g ≡ f = cc in
    subst (λ (i : Format). order_n (key_in (real f a)) (key_in (real i b))
    ≡ order_of (float-number.number_of (exact_in (real f a))) (float-number.number_of (exact_in (real i b)))) (sym r)
    (float_order f a b h (rw r at l) s (rw r at t))

pub field_order_lem : (v w : Value) → Keyed v → Keyed w → kind_of v ≡ kind_of w → order_n (key_number v) (key_number w) ≡ value_order v w
field_order_lem v w h k q =
    content_order (content_of v) (content_of w) (content_form v ∙ ap form_of q ∙ sym (content_form w)) (content_ranged v h.in_range)
    (content_ranged w k.in_range) h.some_number k.some_number

-- ---- reading the key of a field

-- n is a canonical key number of the kind, and v is what is read of it
pub record Reads (k : Kind) (n : ℕ) (v : Value) : Type 0 where
  pub below : n < 256 ^ bytes_of k
  pub canonical : not_canonical (form_of k) n ≡ false
  pub value_is : value_of k (bits_from (form_of k) n) ≡ v

-- a value that holds a pattern of a format; the bytes of the kind have the patterns of the format
float_reads : (v : Value) → Keyed v → (f : Format) (b : ℕ) → content_of v ≡ real f b → form_of (kind_of v) ≡ floating f
    → 256 ^ bytes_of (kind_of v) ≡ 2 * sign_in f → Reads (kind_of v) (key_number v) (normal v)
float_reads v h f b q form size =
    let below : b < 2 * sign_in f = subst Ranged q (content_ranged v h.in_range) in
    let some : is_none (exact_in (real f b)) ≡ false = sym (ap (λ (c : Content). is_none (exact_in c)) q) ∙ h.some_number in
    record {
      below = rw (size, q) (float_below f b below);
      canonical = rw (form, q) (float_canonical f b below some);
      value_is = rw (form, q) (ap (value_of (kind_of v)) (float_read f b below));
    }

pub field_read : (v : Value) → Keyed v → Reads (kind_of v) (key_number v) (normal v)
unfolding value_of
field_read (U8 n) h = record { below = h.in_range; canonical = refl; value_is = ap U8 (mod-eq_of_lt h.in_range) }
field_read (U16 n) h = record { below = h.in_range; canonical = refl; value_is = ap U16 (mod-eq_of_lt h.in_range) }
field_read (U32 n) h = record { below = h.in_range; canonical = refl; value_is = ap U32 (mod-eq_of_lt h.in_range) }
field_read (U64 n) h = record { below = h.in_range; canonical = refl; value_is = ap U64 (mod-eq_of_lt h.in_range) }
field_read (I8 z) h = record { below = shifted_below (2 ^ 7) z h.in_range; canonical = refl; value_is = ap I8 (shifted_read (2 ^ 7) z h.in_range) }
field_read (I16 z) h = record { below = shifted_below (2 ^ 15) z h.in_range; canonical = refl; value_is = ap I16 (shifted_read (2 ^ 15) z h.in_range) }
field_read (I32 z) h = record { below = shifted_below (2 ^ 31) z h.in_range; canonical = refl; value_is = ap I32 (shifted_read (2 ^ 31) z h.in_range) }
field_read (I64 z) h = record { below = shifted_below (2 ^ 63) z h.in_range; canonical = refl; value_is = ap I64 (shifted_read (2 ^ 63) z h.in_range) }
field_read (F32 x w) h = float_reads (F32 x w) h f32 _ refl refl refl
field_read (F64 x w) h = float_reads (F64 x w) h f64 _ refl refl refl
field_read (F16 b) h = float_reads (F16 b) h f16 b refl refl refl

-- ---- writing the value of a key number

whole_some : (z : ℤ) → is_none (times unit (whole_of z)) ≡ false
whole_some (pos n) = refl
whole_some (negsuc n) = refl

-- v has a key, whose number is n
pub record Writes (n : ℕ) (v : Value) : Type 0 where
  pub keyed : Keyed v
  pub number_is : key_number v ≡ n

-- what the value of some bits holds tells both
writes : (k : Kind) (b : ℕ) (c : Content) → content_of (value_of k b) ≡ c → is_none (exact_in c) ≡ false → {n : ℕ} → key_in c ≡ n → Writes n (value_of k b)
writes k b c q s h = record {
  keyed = record { in_range = made_in_range k b; some_number = ap (λ (d : Content). is_none (exact_in d)) q ∙ s };
  number_is = ap key_in q ∙ h;
}

-- by the form: its bits are the number itself, the number with the sign bit turned, or a pattern of the format
unsigned_write : (k : Kind) (w n : ℕ) → n < 2 ^ w → content_of (value_of k n) ≡ natural w (n % 2 ^ w) → Writes n (value_of k n)
unsigned_write k w n h q = writes k n (natural w n) (q ∙ ap (natural w) (mod-eq_of_lt h)) refl refl

signed_write : (k : Kind) (b w : ℕ) {z : ℤ} {n : ℕ} → key_in (integer w z) ≡ n → content_of (value_of k b) ≡ integer w z → Writes n (value_of k b)
signed_write k b w {z} h q = writes k b (integer w z) q (whole_some z) h

float_write : (k : Kind) (f : Format) (n : ℕ) → n < 2 * sign_in f → not_canonical (floating f) n ≡ false → 2 ^ width_of k ≡ 2 * sign_in f
    → content_of (value_of k (made_pattern f n)) ≡ real f (bits_of (value_of k (made_pattern f n))) → Writes n (value_of k (made_pattern f n))
float_write k f n h c size q =
    let b = made_pattern f n in
    writes k b (real f b) (q ∙ ap (real f) (value_bits k b (rw size (made_small f n h)))) (made_some f n h c) (made_key f n h c)

pub field_write : (k : Kind) (n : ℕ) → n < 256 ^ bytes_of k → not_canonical (form_of k) n ≡ false → Writes n (value_of k (bits_from (form_of k) n))
unfolding value_of
field_write kind.U8 n h c = unsigned_write kind.U8 8 n h refl
field_write kind.U16 n h c = unsigned_write kind.U16 16 n h refl
field_write kind.U32 n h c = unsigned_write kind.U32 32 n h refl
field_write kind.U64 n h c = unsigned_write kind.U64 64 n h refl
field_write kind.I8 n h c = signed_write kind.I8 (bits_from (signed 8) n) 8 (read_shifted (2 ^ 7) n h).1 refl
field_write kind.I16 n h c = signed_write kind.I16 (bits_from (signed 16) n) 16 (read_shifted (2 ^ 15) n h).1 refl
field_write kind.I32 n h c = signed_write kind.I32 (bits_from (signed 32) n) 32 (read_shifted (2 ^ 31) n h).1 refl
field_write kind.I64 n h c = signed_write kind.I64 (bits_from (signed 64) n) 64 (read_shifted (2 ^ 63) n h).1 refl
field_write kind.F32 n h c = float_write kind.F32 f32 n h c refl refl
field_write kind.F64 n h c = float_write kind.F64 f64 n h c refl refl
field_write kind.F16 n h c = float_write kind.F16 f16 n h c refl refl
