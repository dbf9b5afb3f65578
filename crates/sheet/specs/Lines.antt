-- The lines of a sheet, as bytes: nine, each a name, `=`, a number and a line end. RULES.md: Strip sheet.
use Rattle.std.specs.Prelude.{ℕ, zero, suc, ◌/◌, ◌%◌, cond, List, [], ◌∷◌, ◌++◌, ltb, Option, None, Some}
use Prim.Native.Char.{code}
use Prim.Native.String.{String, [] as none, ◌∷◌ as ◌then◌}
use Rattle.io.specs.Digits.{hex_digit_ascii, last_digits}
use Rattle.strip.specs.declared.Sheet.{Sheet}

-- the bytes of a word
abbrev pub ascii : String → List ℕ
ascii none = []
ascii (c then word) = code c ∷ ascii word

-- the decimal digits of a number, the high one first, none of them a zero ahead of others; k is how many there may be
abbrev pub decimal_in : ℕ → ℕ → List ℕ
decimal_in zero n = []
decimal_in (suc k) n = cond (ltb n 10) (hex_digit_ascii n ∷ []) (decimal_in k (n / 10) ++ (hex_digit_ascii (n % 10) ∷ []))

-- those of a machine number, which has no more than 20
unfoldable pub decimal_digits : ℕ → List ℕ
decimal_digits n = decimal_in 20 n

-- eight hex digits, or `-` where there is none
unfoldable pub extreme_digits : Option ℕ → List ℕ
extreme_digits (Some b) = last_digits 16 8 b
extreme_digits None = ascii "-"

-- a name, what it stands for and a line end
abbrev pub line_of : List ℕ → List ℕ → List ℕ
line_of name said = name ++ said ++ (10 ∷ [])

-- all nine, in their order
unfoldable pub lines_of : Sheet → List ℕ
lines_of s =
    line_of (ascii "samples=") (decimal_digits s.samples)
    ++ line_of (ascii "zero=") (decimal_digits s.zero)
    ++ line_of (ascii "subnormal=") (decimal_digits s.subnormal)
    ++ line_of (ascii "normal=") (decimal_digits s.normal)
    ++ line_of (ascii "infinite=") (decimal_digits s.infinite)
    ++ line_of (ascii "nan=") (decimal_digits s.nan)
    ++ line_of (ascii "lowest=") (extreme_digits s.lowest)
    ++ line_of (ascii "highest=") (extreme_digits s.highest)
    ++ line_of (ascii "tail=") (decimal_digits s.tail)
