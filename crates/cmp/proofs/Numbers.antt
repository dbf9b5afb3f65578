-- Two values of one kind by the numbers that they stand for: the common unit changes no order.
use mathlib.Core.Path.{◌≡◌, refl, sym, ◌∙◌}
use Prim.Native.Nat.{ℕ}
use lib.IntN.{ℤ, pos, negsuc}
use mir.Syntax.{Width}
use mir.Val.{SFits, to_z, of_z}
use mir.ValLaws.{to_z-of_z}
use Rattle.float.specs.declared.Order.{Order}
use Rattle.float.specs.Format.{Format}
use Rattle.float.specs.Number.{times}
use Rattle.float.specs.Number as float-number
use Rattle.float.specs.Order.{order_z, order_of, compare_in, pattern_in}
use Rattle.float.specs.Order as patterns
use Rattle.value.specs.declared.Value.{Value}
use Rattle.value.specs.declared.Value.TheVariants.{U8, U16, U32, U64, I8, I16, I32, I64, F32, F64, F16}
use Rattle.value.proofs.Forms.{Whole}
use Rattle.value.proofs.Units.{unit_pos, step_pos}
use Rattle.float.proofs.Comparing.{times_order}
use Rattle.value.specs.Meaning.{whole_of, unit, step_of, exact_of, number_of, position_of}

whole_order : (y z : ℤ) → order_of (float-number.number_of (whole_of y)) (float-number.number_of (whole_of z)) ≡ order_z y z
whole_order (pos m) (pos n) = refl
whole_order (pos m) (negsuc n) = refl
whole_order (negsuc m) (pos n) = refl
whole_order (negsuc m) (negsuc n) = refl

-- two integers
pub integers_order : (y z : ℤ) → order_z y z ≡ order_of (float-number.number_of (times unit (whole_of y))) (float-number.number_of (times unit (whole_of z)))
integers_order y z = sym (times_order unit unit_pos (whole_of y) (whole_of z) ∙ whole_order y z)

-- two patterns of one format
pub patterns_order : (f : Format) (a b : ℕ)
    → compare_in f a b
    ≡ order_of (float-number.number_of (times (step_of f) (pattern_in f a)))
    (float-number.number_of (times (step_of f) (pattern_in f b)))
unfolding patterns.compare_of
patterns_order f a b = sym (times_order (step_of f) (step_pos f) (pattern_in f a) (pattern_in f b))

-- an integer kind's position is its number
pub whole_position : (v : Value) → Whole v → exact_of v ≡ times unit (whole_of (position_of v))
whole_position (U8 n) t = refl
whole_position (U16 n) t = refl
whole_position (U32 n) t = refl
whole_position (U64 n) t = refl
whole_position (I8 z) t = refl
whole_position (I16 z) t = refl
whole_position (I32 z) t = refl
whole_position (I64 z) t = refl
whole_position (F32 x w) t = absurd t
whole_position (F64 x w) t = absurd t
whole_position (F16 b) t = absurd t

pub positions_order : (a b : Value) → Whole a → Whole b → order_of (number_of a) (number_of b) ≡ order_z (position_of a) (position_of b)
positions_order a b s t = cc (whole_position a s, whole_position b t) ∙ sym (integers_order (position_of a) (position_of b))

-- ---- two signed numbers, which the machine reads back from their bits

pub held_order : {w : Width} (y z : ℤ) {o : Order} → SFits w y → SFits w z → o ≡ order_z (to_z w (of_z w y)) (to_z w (of_z w z)) → o ≡ order_z y z
held_order {w} y z f g h = h ∙ cc (to_z-of_z w y f, to_z-of_z w z g)
