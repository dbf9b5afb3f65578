-- The bits of a float that is held as a float, and the float of a pattern.
use mathlib.Core.Path.{◌≡◌, refl, sym, ◌∙◌, ap, subst}
use mathlib.Core.Bool.{Bool, true, false, not, true≢false}
use Prim.Native.Nat.{ℕ, ◌+◌, ◌-◌, ◌*◌, ◌^◌, ◌<◌}
use lib.Dec.{T}
use lib.Ieee.{Float, nan, inf, fin, Format, binary32, binary64, is_nan, to_bits, of_bits, of_fields, odd, nan_bits, top, ne, div}
use lib.Ieee.Bits.{to_bits-of_bits, nan_bits_is}
use lib.Ieee.Compare.{differs_from_itself, nan_differs}
use Rattle.float.specs.Format as format
use Rattle.float.specs.Format.{fraction_of, inf_in, nan_in}
use Rattle.float.specs.Language.{own_of}
use Rattle.float.proofs.Language.{nan_pattern}
use Rattle.value.specs.Meaning.{nan_word, float_bits, word_for}

-- ---- the test x != x

nan_is : (x : Float) → x ≡ nan → is_nan x ≡ true
unfolding is_nan
nan_is x q = ap is_nan q

pub differs_nan : (x : Float) → ne x x ≡ true → is_nan x ≡ true
differs_nan x h = nan_is x (differs_from_itself x (subst T (sym h) tt))

pub same_no_nan : (x : Float) → ne x x ≡ false → T (not (is_nan x))
unfolding is_nan
same_no_nan nan h = subst (λ (b : Bool). T b) (sym nan_differs ∙ h) tt
same_no_nan (inf s) h = tt
same_no_nan (fin s m e) h = tt

-- ---- a float's bits

pub is_false : (b : Bool) → T (not b) → b ≡ false
is_false true t = absurd t
is_false false t = refl

module _ (f : Format) (x : Float) (w : ℕ) where
  pub bits_number : T (not (is_nan x)) → to_bits f x ≡ float_bits f x w
  unfolding float_bits
  bits_number h = simp (is_false (is_nan x) h)

  pub bits_not_nan : is_nan x ≡ false → to_bits f x ≡ float_bits f x w
  unfolding float_bits
  bits_not_nan h = simp h

  pub bits_nan : is_nan x ≡ true → nan_word (own_of f) w ≡ float_bits f x w
  unfolding float_bits
  bits_nan h = simp h

pub word_nan : (f : format.Format) (w : ℕ) → true ≡ nan_in f w → w ≡ nan_word f w
word_nan f w h = simp (sym h)

pub word_other : (f : format.Format) (w : ℕ) → false ≡ nan_in f w → inf_in f + 2 ^ (fraction_of f - 1) ≡ nan_word f w
word_other f w h = simp (sym h)

-- ---- the float of a pattern

only_nan : (x : Float) → is_nan x ≡ true → x ≡ nan
unfolding is_nan
only_nan nan h = refl
only_nan (inf s) h = absurd (true≢false (sym h))
only_nan (fin s m e) h = absurd (true≢false (sym h))

-- the language's own NaN
quiet_nan : (f : Format) → of_bits f (inf_in (own_of f) + 2 ^ (fraction_of (own_of f) - 1)) ≡ nan
unfolding of_bits of_fields odd
quiet_nan binary32 = refl
quiet_nan binary64 = refl

pub word_beside : (f : format.Format) (b : ℕ) → true ≡ nan_in f b → b ≡ word_for f b
word_beside f b h = simp (sym h)

pub word_none : (f : format.Format) (b : ℕ) → false ≡ nan_in f b → 0 ≡ word_for f b
word_none f b h = simp (sym h)

module _ (f : Format) (b : ℕ) (small : b < 2 * top f) where
  nan_test : is_nan (of_bits f b) ≡ nan_in (own_of f) b
  nan_test = nan_pattern f b small

  pub pattern_number : false ≡ nan_in (own_of f) b → T (not (is_nan (of_bits f b)))
  pattern_number h = subst (λ (t : Bool). T (not t)) (h ∙ sym nan_test) tt

  pub from_bits : false ≡ nan_in (own_of f) b → T (not (nan_bits f b))
  from_bits h = subst (λ (t : Bool). T (not t)) (sym (nan_bits_is f b)) (pattern_number h)

  -- the NaN of the language is the NaN of every such pattern
  pub quiet_made : true ≡ nan_in (own_of f) b → of_bits f (inf_in (own_of f) + 2 ^ (fraction_of (own_of f) - 1)) ≡ of_bits f b
  quiet_made h = quiet_nan f ∙ sym (only_nan (of_bits f b) (nan_test ∙ sym h))

  -- every pattern is the bits of the float made from it, a NaN's included
  pub bits_pattern : float_bits f (of_bits f b) (word_for (own_of f) b) ≡ b
  bits_pattern = go (nan_in (own_of f) b) refl
    where
      go : (t : Bool) → t ≡ nan_in (own_of f) b → float_bits f (of_bits f b) (word_for (own_of f) b) ≡ b
      go true h =
          ap (float_bits f (of_bits f b)) (simp (sym h))
          ∙ sym (bits_nan f (of_bits f b) b (nan_test ∙ sym h))
          ∙ sym (word_nan (own_of f) b h)
      go false h =
          sym (bits_number f (of_bits f b) _ (pattern_number h))
          ∙ to_bits-of_bits f b small (pattern_number h)
