-- A shape and a record of it, which a program can hold, so that the theorems speak of something.
use mathlib.Core.Path.{refl}
use mathlib.Core.List.{List, [], ◌∷◌}
use native.Mathlib.Omega.{arith}
use lib.Dec.{lit<}
use lib.IntN.{negsuc}
use lib.Ieee.{binary32, to_bits, of_bits, of_fields, odd, size, span, climb, is_nan}
use lib.Ieee.Bits.{of_bits-fits}
use Rattle.float.specs.Format.{abs_of, mag_of}
use Rattle.float.specs.Order.{pattern_of}
use Rattle.value.specs.declared.Kind.TheVariants as kind
use Rattle.value.specs.declared.Value.TheVariants.{U16, I16}
use Rattle.value.specs.Meaning.{f32_value, float_bits, step_of, unit}
use Rattle.record.specs.declared.Field.{Field}
use Rattle.record.specs.Record.{field_for, shape_for, record_of}
use Rattle.key.specs.Keyed.{none, more, NoNan, OfShape, Usable}
use Rattle.key.specs.Held.{HeldRecord}
use Rattle.key.proofs.Held.{keyed_held, of_shape_numbers}

abbrev three : List Field
three = field_for (U16 258) ∷ field_for (I16 (negsuc 0)) ∷ field_for (f32_value 0xbf80_0000) ∷ []

three_shape : Usable (shape_for (kind.U16 ∷ kind.I16 ∷ kind.F32 ∷ []))
three_shape = record { some = omega arith; few = omega arith; places = refl }

three_of_shape : OfShape (shape_for (kind.U16 ∷ kind.I16 ∷ kind.F32 ∷ [])) (record_of three)
unfolding unit step_of float_bits pattern_of mag_of abs_of to_bits of_bits of_fields odd size span climb is_nan
three_of_shape = record {
  places = refl;
  count_is = refl;
  kinds_are = refl;
  keyed = more (field_for (U16 258)) _ (record { in_range = omega arith; some_number = refl })
      (more (field_for (I16 (negsuc 0))) _ (record { in_range = omega arith; some_number = refl })
      (more (field_for (f32_value 0xbf80_0000)) _ (record { in_range = (of_bits-fits binary32 0xbf80_0000, lit< tt); some_number = refl }) none));
}

three_held : HeldRecord (record_of three) × NoNan (record_of three)
three_held = (keyed_held three three_of_shape.keyed (omega arith), of_shape_numbers _ (record_of three) three_of_shape)
