-- The marked cases hold of the rules: the definitions, computed on each, give the list's own answers.
use mathlib.Core.Path.{refl}
use lib.Ieee.{to_bits, of_bits, of_fields, odd, size, span, climb, is_nan}
use Rattle.float.specs.Format.{abs_of, class_of, mag_of, scaled_of, position_of}
use Rattle.float.specs.Order.{pattern_of}
use Rattle.value.specs.Meaning.{float_bits, unit, step_of}
use Rattle.cmp.specs.Compare.{compare_of, total_of}
use Rattle.choose.specs.Choose.{clamp_of}
use Rattle.choose.specs.Inner.{clamped_by}
use Rattle.convert.specs.Convert.{encode_of, held_in, made_in, convert_of}
use Rattle.convert.specs.Inner.{into_of}
use Rattle.lexical.specs.Lexical.{lexical_of, shapes_differ}
use Rattle.lexical.specs.Lexical as lexical
use Rattle.bytewise.specs.Numbers.{big_endian, from_big_endian}
use Rattle.key.specs.Key.{key_of, write_of, write_exit, bytes_in, key_numbers, read_of}
use Rattle.value.specs.Rules.{each_of}
use Rattle.demands.specs.Marked.{answer_to, marked, AllAnswered}

pub all_answered : AllAnswered marked
unfolding answer_to marked class_of scaled_of compare_of total_of convert_of into_of
    made_in held_in encode_of clamp_of clamped_by lexical.compare_of lexical_of shapes_differ
    write_of write_exit each_of key_of big_endian read_of key_numbers bytes_in from_big_endian
    unit step_of float_bits pattern_of mag_of abs_of position_of to_bits of_bits of_fields odd size span climb is_nan
all_answered = refl
