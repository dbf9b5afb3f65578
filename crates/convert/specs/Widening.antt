-- Conversions that refuse nothing but a NaN, by the forms of the two kinds. RULES.md: Exact conversion.
use Rattle.std.specs.Prelude.{suc, ◌-◌, Bool, false, leb}
use Rattle.float.specs.Format.{fraction_of}
use Rattle.value.specs.Kinds.{Form, unsigned, signed, floating}

-- the second form has room for every number of the first
abbrev pub widens : Form → Form → Bool
widens (unsigned j) (unsigned k) = leb j k
widens (unsigned j) (signed k) = leb j (k - 1)
widens (unsigned j) (floating f) = leb j (suc (fraction_of f))
widens (signed j) (unsigned k) = false
widens (signed j) (signed k) = leb j k
widens (signed j) (floating f) = leb j (suc (fraction_of f))
widens (floating f) (unsigned k) = false
widens (floating f) (signed k) = false
widens (floating f) (floating g) = leb (fraction_of f) (fraction_of g)
