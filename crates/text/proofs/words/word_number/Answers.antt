-- The parts up to the first that is s are counted.
use Rattle.std.proofs.Common.{rules, tests, ◌∙◌, ap}
use mathlib.Core.Bool.{not}
use lib.Dec.{eqb}
use Rattle.std.specs.Cmp.Lexicographic.{pointwise}
use Rattle.std.proofs.lemmas.Iterator.Search.{YieldsList-from_take_while}
use Rattle.std.proofs.lemmas.Iterator.Splits.{YieldsList-from_slice_split}
use Rattle.std.proofs.lemmas.Iterator.Consumers.{YieldsList-at, count_from_yields_List}
use Rattle.text.proofs.Chains.{words_is, number_is}
use Rattle.text.specs.Words.{number_among}
use Rattle.text.proofs.words.word_number.Goals as goal

pub returns : goal.returns
returns c =
    count_from_yields_List c.take_while.result _ c.count.ensures.ran
    (YieldsList-from_take_while _ (λ w. not (pointwise eqb c.args.s.now w))
    (YieldsList-at c.take_while.ensures.source
    (YieldsList-from_slice_split _ (λ b. eqb b 32) c.args.words.now c.split.ensures.rest c.split.ensures.done c.split.ensures.closure
    (λ x b q k. search (rules, tests))))
    c.take_while.ensures.closure c.take_while.ensures.done (λ x b q k. search (rules, tests)))
    ∙ number_is c.args.s.now _
    ∙ ap (number_among c.args.s.now) (words_is c.args.words.now)
