-- The calls on single samples: rules 7 and 4, then the library's call on the values. RULES.md: The boundary.
use Rattle.std.specs.Prelude.{ℕ, Bool, ◌||◌, cond, List, [], ◌∷◌, eqb, ltb, ℤ}
use Rattle.float.specs.declared.Class.{Class}
use Rattle.float.specs.declared.Order.{Order}
use Rattle.float.specs.Format.{Format, f16, f32, f64, class_in, position_in}
use Rattle.value.specs.declared.Value.{Value}
use Rattle.value.specs.Outcome.{Outcome, gives}
use Rattle.value.specs.Rules.{Rule, rule, chain}
use Rattle.cmp.specs.Compare as cmp
use Rattle.choose.specs.Choose as choose
use Rattle.convert.specs.Convert as convert
use Rattle.silamogo.specs.declared.Sample.{Sample}
use Rattle.silamogo.specs.Samples.{kind_for, any_wide, value_for, samples_rules}

-- ---- two samples, and three

-- 7, 4
abbrev pub two_rules : Sample → Sample → List Rule
two_rules a b = samples_rules (a.kind ∷ b.kind ∷ []) (a ∷ b ∷ [])

-- a call on two values, once their samples have passed
abbrev pub two_then : {A : Type 0} → (Value → Value → Outcome A) → Sample → Sample → Outcome A
two_then call a b = chain (two_rules a b) (call (value_for a) (value_for b))

unfoldable pub compare_of : Sample → Sample → Outcome Order
compare_of a b = two_then cmp.compare_of a b

unfoldable pub total_of : Sample → Sample → Outcome Order
total_of a b = two_then cmp.total_of a b

unfoldable pub min_of : Sample → Sample → Outcome Value
min_of a b = two_then choose.min_of a b

unfoldable pub max_of : Sample → Sample → Outcome Value
max_of a b = two_then choose.max_of a b

-- 7, 4
abbrev pub three_rules : Sample → Sample → Sample → List Rule
three_rules v lower upper = samples_rules (v.kind ∷ lower.kind ∷ upper.kind ∷ []) (v ∷ lower ∷ upper ∷ [])

-- the clamp of a sample
unfoldable pub clamp_of : Sample → Sample → Sample → Outcome Value
clamp_of v lower upper = chain (three_rules v lower upper) (choose.clamp_of (value_for v) (value_for lower) (value_for upper))

-- ---- to another kind

-- 7, for the number of the target too, and 4
abbrev pub kind_rules : Sample → ℕ → List Rule
kind_rules v to = samples_rules (v.kind ∷ to ∷ []) (v ∷ [])

-- the conversion of a sample
unfoldable pub convert_of : Sample → ℕ → Outcome Value
convert_of v to = chain (kind_rules v to) (convert.convert_of (value_for v) (kind_for to))

-- ---- patterns of the float kinds, 8 to 10

-- 7: no float kind
abbrev pub not_float : ℕ → Bool
not_float n = ltb n 8 || ltb 10 n

-- what a format tells of the bits
abbrev pub of_float : {A : Type 0} → (Format → ℕ → A) → Sample → A
of_float tell s =
    cond (eqb s.kind 8) (tell f32 s.bits)
    (cond (eqb s.kind 9) (tell f64 s.bits)
    (tell f16 s.bits))

-- 7 for a kind that is no float, and 4
abbrev pub float_rules : Sample → List Rule
float_rules s = rule 7 0 (not_float s.kind) ∷ rule 4 0 (any_wide (s ∷ [])) ∷ []

-- the class of a pattern
unfoldable pub classify_of : Sample → Outcome Class
classify_of s = chain (float_rules s) (gives (of_float class_in s))

-- its position in the total order
unfoldable pub sample_position : Sample → Outcome ℤ
sample_position s = chain (float_rules s) (gives (of_float position_in s))
