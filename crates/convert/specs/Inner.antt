-- Nothing in this file has to be believed: it says what private functions compute, and no public contract or theorem reaches it.
-- A magnitude, in units of 2^-1074, is digits * 2^shift in the code: no machine number holds it as one.
use Rattle.std.specs.Prelude.{ℕ, suc, ◌+◌, ◌-◌, ◌*◌, ◌/◌, ◌%◌, ◌^◌, ◌<◌, Bool, not, ◌&&◌, cond, eqb, ltb}
use Rattle.std.specs.Int.Signed.{mag}
use Rattle.float.specs.Format.{f16, f32, f64, mag_of, sign_in}
use Rattle.float.specs.Number.{Exact, not_number, infinite, finite, signed_of}
use Rattle.value.specs.declared.Kind.{Kind}
use Rattle.value.specs.declared.Value.{Value}
use Rattle.value.specs.declared.Value.TheVariants.{U8, U16, U32, U64, I8, I16, I32, I64, F16}
use Rattle.value.specs.Kinds.{Form, unsigned, signed, floating, form_of}
use Rattle.value.specs.Meaning.{unit, f32_value, f64_value}
use Rattle.value.specs.Outcome.{Outcome, gives, refuses, refuse_if}
use Rattle.convert.specs.Convert.{encode_at, outside, with_sign, into_rules, made_in}
use Rattle.convert.specs.declared.Parts.{Parts}
use Rattle.convert.specs.declared.Scaled.{Scaled}
use Rattle.convert.specs.declared.Found.{Found}
use Rattle.value.specs.Rules.{chain}
use Rattle.value.specs.declared.Kind.TheVariants as kind
use Rattle.convert.specs.declared.Parts.TheVariants as parts

-- the magnitude of a number
abbrev pub magnitude : Scaled → ℕ
magnitude n = n.digits * 2 ^ n.shift

-- what the parts of a value mean
abbrev pub meaning : Parts → Exact
meaning parts.NotANumber = not_number
meaning (parts.Infinite s) = infinite s
meaning (parts.Finite n) = finite n.negative (magnitude n)

-- a pattern by its sign and its abs; i is the abs of the infinity
abbrev pub pattern_at : ℕ → ℕ → Bool → ℕ → Exact
pattern_at p i s a = cond (ltb i a) not_number (cond (eqb a i) (infinite s) (finite s (mag_of p a)))

-- what a target kind finds
abbrev pub found : Bool → ℕ → Found
found s n = record { negative = s; number = n }

-- an integer kind whose numbers go from -low to high: the sign and the magnitude
abbrev pub whole_at : ℕ → ℕ → Bool → ℕ → Outcome Found
whole_at low high s m =
    refuse_if (s && eqb m 0) 13 0
    (refuse_if (not (eqb (m % unit) 0)) 3 0
    (refuse_if (outside low high s (m / unit)) 4 0
    (gives (found s (m / unit)))))

unfoldable pub whole_in : ℕ → ℕ → Exact → Outcome Found
whole_in low high not_number = refuses 1 0
whole_in low high (infinite s) = refuses 2 0
whole_in low high (finite s m) = whole_at low high s m

-- a float format with p fraction bits, smallest step t and highest exponent `last` (of which the largest finite field is last + 1): the sign and the abs
abbrev pub held_at : ℕ → ℕ → ℕ → Bool
held_at p t m = eqb (mag_of p (encode_at p (m / t)) * t) m

abbrev pub float_at : ℕ → ℕ → ℕ → Bool → ℕ → Outcome Found
float_at p t last s m =
    refuse_if (ltb ((2 ^ suc p - 1) * 2 ^ last * t) m) 4 0
    (refuse_if (not (held_at p t m)) 5 0
    (gives (found s (encode_at p (m / t)))))

unfoldable pub float_in : ℕ → ℕ → ℕ → Exact → Outcome Found
float_in p t last not_number = refuses 1 0
float_in p t last (infinite s) = gives (found s ((last + 2) * 2 ^ p))
float_in p t last (finite s m) = float_at p t last s m

-- ---- a target kind: what it finds, that this fits it, and the value that it makes of it

abbrev pub find_in : Kind → Exact → Outcome Found
find_in kind.U8 x = whole_in 0 0xff x
find_in kind.U16 x = whole_in 0 0xffff x
find_in kind.U32 x = whole_in 0 0xffff_ffff x
find_in kind.U64 x = whole_in 0 0xffff_ffff_ffff_ffff x
find_in kind.I8 x = whole_in 0x80 0x7f x
find_in kind.I16 x = whole_in 0x8000 0x7fff x
find_in kind.I32 x = whole_in 0x8000_0000 0x7fff_ffff x
find_in kind.I64 x = whole_in 0x8000_0000_0000_0000 0x7fff_ffff_ffff_ffff x
find_in kind.F32 x = float_in 23 (2 ^ 925) 253 x
find_in kind.F64 x = float_in 52 1 2045 x
find_in kind.F16 x = float_in 10 (2 ^ 1050) 29 x

abbrev pub FitsIn : Form → Bool → ℕ → Type 0
FitsIn (unsigned k) s n = n < 2 ^ k
FitsIn (signed k) s n = mag (signed_of s n) < 2 ^ (k - 1)
FitsIn (floating f) s n = n < sign_in f

abbrev pub make_in : Kind → Bool → ℕ → Value
make_in kind.U8 s n = U8 n
make_in kind.U16 s n = U16 n
make_in kind.U32 s n = U32 n
make_in kind.U64 s n = U64 n
make_in kind.I8 s n = I8 (signed_of s n)
make_in kind.I16 s n = I16 (signed_of s n)
make_in kind.I32 s n = I32 (signed_of s n)
make_in kind.I64 s n = I64 (signed_of s n)
make_in kind.F32 s n = f32_value (with_sign f32 s n)
make_in kind.F64 s n = f64_value (with_sign f64 s n)
make_in kind.F16 s n = F16 (with_sign f16 s n)

-- the value of a kind that has a number, or why there is none
unfoldable pub into_of : Kind → Exact → Outcome Value
into_of to x = chain (into_rules (form_of to) x) (gives (made_in to x))
