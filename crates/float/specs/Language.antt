-- The language's own floats are of two of the formats here; it has no f16. RULES.md: The kinds.
use Rattle.std.specs.Float.Ieee as language
use Rattle.float.specs.Format.{Format, f32, f64}

-- which of them
abbrev pub own_of : language.Format → Format
own_of language.binary32 = f32
own_of language.binary64 = f64
