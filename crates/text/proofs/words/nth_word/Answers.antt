-- The parts between spaces are the words.
use Rattle.std.proofs.Common.{List, [], ℕ, Bor, rules, tests, ◌∙◌, ap}
use lib.Dec.{eqb}
use Rattle.std.specs.Option.{unwrap_or}
use Rattle.std.proofs.lemmas.Iterator.Splits.{YieldsList-from_slice_split}
use Rattle.std.proofs.lemmas.Iterator.Consumers.{nth_from_yields_List}
use Rattle.text.proofs.Chains.{words_is, nth_is, now_is}
use Rattle.text.specs.Words.{nth_of}
use Rattle.text.proofs.words.nth_word.Goals as goal

pub returns : goal.returns
returns c =
    ap (λ (x : Bor (List ℕ)). x.now) c.unwrap_or.ensures
    ∙ now_is c.nth.result _
    ∙ ap (λ r. unwrap_or r [])
    (nth_from_yields_List _ _ c.args.n c.nth.ensures.ran
    (YieldsList-from_slice_split _ (λ b. eqb b 32) c.args.words.now c.split.ensures.rest c.split.ensures.done c.split.ensures.closure
    (λ x b q k. search (rules, tests))))
    ∙ nth_is c.args.n _ ∙ ap (nth_of c.args.n) (words_is c.args.words.now)
