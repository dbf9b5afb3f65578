-- The words of the list are the names in the order of the kinds, so that a name's number is its kind's.
use Prim.Native.Nat.{◌≤◌}
use mathlib.Core.Path.{◌∙◌, ap}
use native.Mathlib.Omega.{arith}
use Rattle.value.specs.Kinds.{kind_at}
use Rattle.text.specs.Words.{words_of}
use Rattle.text.specs.Names.{kind_named}
use Rattle.text.proofs.Chains.{among_most}
use Rattle.text.proofs.names.kind_named.Goals as goal
use Rattle.text.proofs.names.kind_named.Goals.{After-word_number}

few : (c : After-word_number) → c.word_number.result ≤ 11
unfolding words_of
few c = rw c.word_number.ensures (among_most _ _)

pub overflow_cast-word_number : goal.overflow_cast-word_number
overflow_cast-word_number c = let l = few c in omega arith

pub returns : goal.returns
unfolding kind_named words_of
returns c = c.kind_of_number.ensures ∙ ap kind_at c.word_number.ensures
