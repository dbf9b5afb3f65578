-- Samples as they pass the boundary: the number of a kind, and bits. RULES.md: The boundary.
use Rattle.std.specs.Prelude.{ℕ, suc, ◌^◌, Bool, true, false, ◌||◌, cond, List, [], ◌∷◌, ltb, leb, length, Option, None, Some}
use Rattle.value.specs.declared.Kind.{Kind}
use Rattle.value.specs.declared.Kind.TheVariants as kind
use Rattle.value.specs.declared.Value.{Value}
use Rattle.value.specs.Kinds.{kind_at, width_of}
use Rattle.value.specs.Meaning.{value_of}
use Rattle.value.specs.Rules.{Rule, rule}
use Rattle.silamogo.specs.declared.Sample.{Sample}

-- ---- kinds

-- no kind was found
abbrev pub is_nothing : Option Kind → Bool
is_nothing (Some k) = false
is_nothing None = true

-- the number names no kind
unfoldable pub unnamed : ℕ → Bool
unnamed n = is_nothing (kind_at n)

-- one of them names none
unfoldable pub any_unnamed : List ℕ → Bool
any_unnamed [] = false
any_unnamed (n ∷ ns) = unnamed n || any_unnamed ns

-- u8 stands for none
abbrev pub found_or : Option Kind → Kind
found_or (Some k) = k
found_or None = kind.U8

-- the kind with the number, where there is one
unfoldable pub kind_for : ℕ → Kind
kind_for n = found_or (kind_at n)

-- ---- bits

-- bits that the kind doesn't have
unfoldable pub too_wide : Sample → Bool
too_wide s = leb (2 ^ width_of (kind_for s.kind)) s.bits

-- the index of the first sample with such bits, or how many samples there are
unfoldable pub first_wide : List Sample → ℕ
first_wide [] = 0
first_wide (s ∷ ss) = cond (too_wide s) 0 (suc (first_wide ss))

-- the value with the bits
unfoldable pub value_for : Sample → Value
value_for s = value_of (kind_for s.kind) s.bits

-- ---- the rules before a call's own

-- 4 at the first field with bits that its kind doesn't have
abbrev pub wide_rule : List Sample → Rule
wide_rule ss = rule 4 (first_wide ss) (ltb (first_wide ss) (length ss))

-- ---- single samples, whose place is 0

-- one of them has such bits
unfoldable pub any_wide : List Sample → Bool
any_wide [] = false
any_wide (s ∷ ss) = too_wide s || any_wide ss

-- 7 for a number that names no kind, 4 for bits that a kind doesn't have
abbrev pub samples_rules : List ℕ → List Sample → List Rule
samples_rules ns ss = rule 7 0 (any_unnamed ns) ∷ rule 4 0 (any_wide ss) ∷ []
