-- The hex digit's filter by the base is the case of `digit_in`.
use Rattle.std.proofs.Common.{rules, tests, ◌∙◌, ap}
use Rattle.text.specs.Digits.{digit_in, below}
use Rattle.text.proofs.Numbers.{filtered}
use Rattle.text.proofs.digits.digit_in.Goals as goal

pub returns : goal.returns
unfolding digit_in
returns c = filtered c.args.base _ (λ d t q. search (rules, tests)) c.hex_digit.result c.filter.ensures ∙ ap (below c.args.base) c.hex_digit.ensures
