-- The conversion of a sample, and what the samples of a string of bytes are answered. RULES.md: Migration.
use Rattle.std.specs.Prelude.{ℕ, Bool, true, false, not, List, [], ◌∷◌, eqb}
use Rattle.value.specs.declared.Kind.{Kind}
use Rattle.value.specs.declared.Value.{Value}
use Rattle.value.specs.Meaning.{bits_of}
use Rattle.value.specs.Outcome.{Outcome, gives, refuses, mapped, Success}
use Rattle.value.specs.Rules.{Rule, rule, chain}
use Rattle.convert.specs.Convert.{convert_of}
use Rattle.row.specs.Row.{row_answer}
use Rattle.sample.specs.Samples.{count_of, left_of, samples_of}

-- one sample: the bits of the value of the other kind
unfoldable pub bits_to : Kind → Value → Outcome ℕ
bits_to to v = mapped bits_of (convert_of v to)

-- there is no result
abbrev pub is_refused : {A : Type 0} → Outcome A → Bool
is_refused (gives a) = false
is_refused (refuses number place) = true

-- the number of a refusal
abbrev pub refusal_number : {A : Type 0} → Outcome A → ℕ
refusal_number (gives a) = 0
refusal_number (refuses number place) = number

-- of a sample: whether its conversion is refused
abbrev pub refused_to : Kind → Value → Bool
refused_to to v = is_refused (bits_to to v)

-- bytes left over are 9, at the number of whole samples
abbrev pub left_rules : Kind → List ℕ → List Rule
left_rules from bytes = rule 9 (count_of from bytes) (not (eqb (left_of from bytes) 0)) ∷ []

-- and then the first sample that is refused decides
unfoldable pub answer_of : Kind → Kind → List ℕ → Outcome Success
answer_of from to bytes = chain (left_rules from bytes) (row_answer (bits_to to) 0 (samples_of from bytes))
