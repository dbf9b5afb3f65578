-- The operands of a case line: the digits of a value, one value, two values, a value and a kind.
use Rattle.value.specs.declared.Value.{Value}
use Rattle.std.specs.Prelude.{ℕ, cond, List, eqb, length, Option, None, Some}
use Rattle.value.specs.declared.Kind.{Kind}
use Rattle.value.specs.Meaning.{value_of}
use Rattle.text.specs.Digits.{hex_of}
use Rattle.text.specs.Names.{kind_named, digits_of}
use Rattle.text.specs.Words.{before_of, after_of}

-- the value of a kind with the bits that were read
abbrev pub with_bits : Kind → Option ℕ → Option Value
with_bits k (Some bits) = Some (value_of k bits)
with_bits k None = None

-- the value of a kind with these digits, which are all digits of the kind
unfoldable pub with_digits : Kind → List ℕ → Option Value
with_digits k digits = cond (eqb (length digits) (digits_of k)) (with_bits k (hex_of digits)) None

-- the same for a kind that was looked for
abbrev pub with_kind : Option Kind → List ℕ → Option Value
with_kind (Some k) digits = with_digits k digits
with_kind None digits = None

-- a kind's name, a colon, digits
unfoldable pub value_in : List ℕ → Option Value
value_in s = with_kind (kind_named (before_of 58 s)) (after_of 58 s)

-- two values, if both are
abbrev pub both : Option Value → Option Value → Option (Value × Value)
both (Some a) (Some b) = Some (a, b)
both (Some a) None = None
both None b = None

-- a value, a space, a value
unfoldable pub values_in : List ℕ → Option (Value × Value)
values_in s = both (value_in (before_of 32 s)) (value_in (after_of 32 s))

-- a value and a kind, if both are
abbrev pub beside : Option Value → Option Kind → Option (Value × Kind)
beside (Some v) (Some k) = Some (v, k)
beside (Some v) None = None
beside None k = None

-- a value, a space, a kind's name
unfoldable pub value_and_kind_in : List ℕ → Option (Value × Kind)
value_and_kind_in s = beside (value_in (before_of 32 s)) (kind_named (after_of 32 s))
