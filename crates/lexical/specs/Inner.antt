-- Nothing in this file has to be believed: it says what private functions compute, and no public contract or theorem reaches it.
-- How two records compare, together with the index of the field that decides: what the comparison and the choice share.
use Rattle.std.specs.Prelude.{ℕ, ◌+◌, List}
use Rattle.value.specs.Outcome.{Outcome, gives}
use Rattle.value.specs.Rules.{chain}
use Rattle.cmp.specs.Inner.{chosen_by}
use Rattle.record.specs.declared.Field.{Field}
use Rattle.record.specs.declared.Record.{Record}
use Rattle.lexical.specs.declared.comparisons.Decision.{Decision}
use Rattle.record.specs.Record.{fields_of}
use Rattle.lexical.specs.Lexical.{lexical_of, deciding_of, record_rules}

-- of the fields from a place on
abbrev pub decision_from : ℕ → List Field → List Field → Decision
decision_from at xs ys = record { order = lexical_of xs ys; at = at + deciding_of xs ys }

unfoldable pub decide_of : Record → Record → Outcome Decision
decide_of a b = chain (record_rules a b) (gives (decision_from 0 (fields_of a) (fields_of b)))

abbrev pub chosen_from : Record → Record → Decision → Outcome Record
chosen_from one other d = chosen_by d.at one other d.order
