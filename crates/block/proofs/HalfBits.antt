-- The f32 pattern of an f16 that is no NaN, found without its sign: by the table, as the infinity, or with the exponent moved.
use Rattle.std.proofs.Common.{◌≡◌, ℕ, ◌+◌, ◌*◌, ◌%◌, ◌<◌, ◌≤◌, Bool, false, cond, List, get_or, sym, ap, ◌∙◌, subst, lt_of_le_of_lt, mod-lt}
use Rattle.std.proofs.Common.{mod-eq_of_lt, add_comm, arith, lit<, ltb-false, le-leb}
use borrow.Author.Tests.{lt-leb}
use lib.Ieee.{binary32}
use Rattle.float.specs.Format.{f16, f32, abs_in, nan_in, negative_in}
use Rattle.half.specs.Small.{IsOver, Small}
use Rattle.value.specs.declared.Kind.TheVariants as kind
use Rattle.value.specs.declared.Value.TheVariants.{F16}
use Rattle.value.specs.Meaning.{exact_of, bits_of, f32_value}
use Rattle.value.specs.Outcome.{gives, mapped}
use Rattle.value.proofs.FloatBits.{bits_pattern}
use Rattle.convert.specs.Convert.{convert_of, with_sign}
use Rattle.convert.specs.Inner.{into_of}
use Rattle.convert.proofs.Exactly.{other_kind}
use Rattle.convert.proofs.FromHalf.{entry_small, low_moved, high_moved, infinite_moved}
use Rattle.convert.proofs.Patterns.{made_small}
use Rattle.sample.specs.Refusals.{bits_to}
use Rattle.block.specs.Inner.{given_bits, half_bits}

-- w with the sign of b is the f32 of b
pub record IsWide (b w : ℕ) : Type 0 where
  pub below : w < 0x8000_0000
  pub moved : into_of kind.F32 (exact_of (F16 b)) ≡ gives (f32_value (with_sign f32 (negative_in f16 b) w))

module _ (b : ℕ) {a : ℕ} (abs : a ≡ abs_in f16 b) where
  pub wide_low : (t : List ℕ) → Small t → a < 1024 → IsWide b (get_or t (a % 1024) 0)
  unfolding Small
  wide_low t s low =
      let small : abs_in f16 b < 1024 = subst (λ (n : ℕ). n < 1024) abs low in
      let over = subst (λ (n : ℕ). IsOver n (get_or t (a % 1024) 0)) (mod-eq_of_lt low ∙ abs) (s.1 (a % 1024) (mod-lt a (lit< tt))) in
      record { below = lt_of_le_of_lt (entry_small (abs_in f16 b) _ small over) (lit< tt); moved = low_moved b _ small over }

  pub wide_infinite : a ≡ 0x7c00 → IsWide b 0x7f80_0000
  wide_infinite q = record { below = lit< tt; moved = infinite_moved b (sym abs ∙ q) }

  pub wide_high : 1024 ≤ a → (a ≡ 0x7c00 → ⊥) → nan_in f16 b ≡ false → IsWide b (a * 0x2000 + 0x3800_0000)
  wide_high high other number =
      let top : abs_in f16 b ≤ 0x7c00 = ltb-false _ _ number in
      let below : a < 0x7c00 = omega (arith, abs) in
      record {
        below = omega arith;
        moved =
            high_moved b (subst (λ (n : ℕ). 1024 ≤ n) abs high) (subst (λ (n : ℕ). n < 0x7c00) abs below)
            ∙ ap (λ (n : ℕ). gives (f32_value (with_sign f32 (negative_in f16 b) (n * 0x2000 + 0x3800_0000)))) (sym abs);
      }

-- the bits of the conversion
module _ (b w : ℕ) (is : IsWide b w) where
  signed_bits : with_sign f32 (negative_in f16 b) w ≡ half_bits b
  unfolding bits_to
  signed_bits =
      let c = with_sign f32 (negative_in f16 b) w in
      let converted : convert_of (F16 b) kind.F32 ≡ gives (f32_value c) = other_kind (F16 b) kind.F32 (λ q. omega arith) ∙ is.moved in
      sym (ap (λ o. given_bits (mapped bits_of o)) converted ∙ bits_pattern binary32 c (made_small f32 (negative_in f16 b) w is.below))

  pub bits_clear : b < 0x8000 → w ≡ half_bits b
  bits_clear h = ap (λ (s : Bool). cond s (0x8000_0000 + w) w) (sym (lt-leb _ _ h)) ∙ signed_bits

  pub bits_set : 0x8000 ≤ b → w + 0x8000_0000 ≡ half_bits b
  bits_set h = add_comm w 0x8000_0000 ∙ ap (λ (s : Bool). cond s (0x8000_0000 + w) w) (sym (le-leb _ _ h)) ∙ signed_bits
