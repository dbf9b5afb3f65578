-- The marked cases as one list: each is a question to the rules, and the answer that they owe. RULES.md: Marked cases.
use Rattle.std.specs.Prelude.{ℕ, ◌≡◌, List, [], ◌∷◌, map, ℤ, pos, negsuc, replicate}
use Rattle.float.specs.declared.Class.{Class}
use Rattle.float.specs.declared.Class.TheVariants.{Subnormal, Normal, Infinite, Nan}
use Rattle.float.specs.declared.Order.{Order}
use Rattle.float.specs.declared.Order.TheVariants.{Less, Equal, Unordered}
use Rattle.float.specs.Format as format
use Rattle.float.specs.Format.{class_in, scaled_in}
use Rattle.value.specs.declared.Kind.{Kind}
use Rattle.value.specs.declared.Kind.TheVariants as kind
use Rattle.value.specs.declared.Value.{Value}
use Rattle.value.specs.declared.Value.TheVariants.{U8, U16, U32, U64, I8, I16, I64}
use Rattle.value.specs.Meaning.{f32_value, f64_value}
use Rattle.value.specs.Outcome.{Outcome, gives, refuses}
use Rattle.cmp.specs.Compare.{compare_of, total_of}
use Rattle.choose.specs.Choose.{clamp_of}
use Rattle.convert.specs.Convert.{convert_of}
use Rattle.record.specs.declared.Record.{Record}
use Rattle.record.specs.Record.{field_for, record_of, shape_for}
use Rattle.lexical.specs.Lexical as lexical
use Rattle.key.specs.Key.{write_of, write_exit, read_of}

-- ---- what can be asked, and what can be answered

-- a call with its arguments
pub data Question : Type 0 where
  class_f32 scaled-f32 : ℕ → Question
  compare total_order : Value → Value → Question
  convert : Value → Kind → Question
  clamp : Value → Value → Value → Question
  compare_records : List Value → List Value → Question
  -- into a buffer of so many bytes, all 0
  write_key : List Value → ℕ → Question
  read_key : List Kind → List ℕ → Question

-- what the rules say to it
pub data Answer : Type 0 where
  a_class : Class → Answer
  a_number : ℤ → Answer
  an_order : Outcome Order → Answer
  a_value : Outcome Value → Answer
  -- the length, and the buffer at the end
  a_key : Outcome ℕ → List ℕ → Answer
  a_record : Outcome Record → Answer

-- the record of these values
abbrev pub record_for : List Value → Record
record_for vs = record_of (map field_for vs)

-- what the rules answer
unfoldable pub answer_to : Question → Answer
answer_to (class_f32 b) = a_class (class_in format.f32 b)
answer_to (scaled-f32 b) = a_number (scaled_in format.f32 b)
answer_to (compare a b) = an_order (compare_of a b)
answer_to (total_order a b) = an_order (total_of a b)
answer_to (convert v to) = a_value (convert_of v to)
answer_to (clamp v lower upper) = a_value (clamp_of v lower upper)
answer_to (compare_records xs ys) = an_order (lexical.compare_of (record_for xs) (record_for ys))
answer_to (write_key vs room) = a_key (write_of (record_for vs) room) (write_exit (record_for vs) (replicate room 0))
answer_to (read_key ks key) = a_record (read_of (shape_for ks) key)

-- ---- the list

-- a case: its number, a question, and the answer owed
pub data Case : Type 0 where
  case : ℕ → Question → Answer → Case

-- the question
abbrev pub asked : Case → Question
asked (case number q a) = q

-- the answer
abbrev pub owed : Case → Answer
owed (case number q a) = a

-- a value of f32 by its bits
abbrev f32 : ℕ → Value
f32 b = f32_value b

-- and one of f64
abbrev f64 : ℕ → Value
f64 b = f64_value b

-- the fourteen cases, some with several questions
unfoldable pub marked : List Case
marked =
    case 1 (compare (f32 0x0000_0000) (f32 0x8000_0000)) (an_order (gives Equal))
    ∷ case 1 (total_order (f32 0x8000_0000) (f32 0x0000_0000)) (an_order (gives Less))
    ∷ case 2 (compare (f32 0x7fc0_0000) (f32 0x7fc0_0000)) (an_order (gives Unordered))
    ∷ case 2 (total_order (f32 0x7fc0_0000) (f32 0x7fc0_0000)) (an_order (gives Equal))
    ∷ case 3 (class_f32 0x7f7f_ffff) (a_class Normal)
    ∷ case 3 (class_f32 0x7f80_0000) (a_class Infinite)
    ∷ case 3 (class_f32 0x7f80_0001) (a_class Nan)
    ∷ case 4 (class_f32 0x007f_ffff) (a_class Subnormal)
    ∷ case 4 (scaled-f32 0x007f_ffff) (a_number (pos 8388607))
    ∷ case 4 (class_f32 0x0080_0000) (a_class Normal)
    ∷ case 4 (scaled-f32 0x0080_0000) (a_number (pos 8388608))
    ∷ case 5 (convert (U32 16777216) kind.F32) (a_value (gives (f32 0x4b80_0000)))
    ∷ case 5 (convert (U32 16777217) kind.F32) (a_value (refuses 5 0))
    ∷ case 6 (convert (f32 0x477f_ff00) kind.U16) (a_value (gives (U16 65535)))
    ∷ case 6 (convert (f32 0x4780_0000) kind.U16) (a_value (refuses 4 0))
    ∷ case 7 (convert (f32 0x3f00_0000) kind.U16) (a_value (refuses 3 0))
    ∷ case 7 (convert (f32 0x8000_0000) kind.U16) (a_value (refuses 13 0))
    ∷ case 8 (convert (f64 0x36a0_0000_0000_0000) kind.F32) (a_value (gives (f32 0x0000_0001)))
    ∷ case 8 (convert (f64 0x3690_0000_0000_0000) kind.F32) (a_value (refuses 5 0))
    ∷ case 8 (convert (f64 0x47f0_0000_0000_0000) kind.F32) (a_value (refuses 4 0))
    ∷ case 9 (convert (I64 (negsuc 9223372036854775807)) kind.F64) (a_value (gives (f64 0xc3e0_0000_0000_0000)))
    ∷ case 9 (convert (f64 0x43e0_0000_0000_0000) kind.I64) (a_value (refuses 4 0))
    ∷ case 9 (convert (f64 0x43e0_0000_0000_0000) kind.U64) (a_value (gives (U64 9223372036854775808)))
    ∷ case 10 (convert (U16 255) kind.U8) (a_value (gives (U8 255)))
    ∷ case 10 (convert (U16 256) kind.U8) (a_value (refuses 4 0))
    ∷ case 10 (convert (I8 (negsuc 0)) kind.U8) (a_value (refuses 4 0))
    ∷ case 11 (clamp (f32 0x8000_0000) (f32 0x0000_0000) (f32 0x3f80_0000)) (a_value (gives (f32 0x8000_0000)))
    ∷ case 12 (compare_records (U8 1 ∷ f32 0x7fc0_0000 ∷ []) (U8 2 ∷ f32 0x7fc0_0000 ∷ [])) (an_order (gives Less))
    ∷ case 12 (compare_records (U8 1 ∷ f32 0x7fc0_0000 ∷ []) (U8 1 ∷ f32 0x0000_0000 ∷ [])) (an_order (gives Unordered))
    ∷ case 13 (write_key (U16 258 ∷ I16 (negsuc 0) ∷ f32 0xbf80_0000 ∷ []) 8) (a_key (gives 8) (0x01 ∷ 0x02 ∷ 0x7f ∷ 0xff ∷ 0x40 ∷ 0x7f ∷ 0xff ∷ 0xff ∷ []))
    ∷ case 14 (write_key (f32 0x8000_0000 ∷ []) 4) (a_key (gives 4) (0x80 ∷ 0x00 ∷ 0x00 ∷ 0x00 ∷ []))
    ∷ case 14 (read_key (kind.F32 ∷ []) (0x7f ∷ 0xff ∷ 0xff ∷ 0xff ∷ [])) (a_record (refuses 12 0))
    ∷ []

-- ---- the claim

-- asked one after the other, the rules give the answers that they owe
abbrev pub AllAnswered : List Case → Type 0
AllAnswered cases = map (λ c. answer_to (asked c)) cases ≡ map owed cases
