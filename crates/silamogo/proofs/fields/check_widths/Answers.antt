-- Where the first such field was found.
use mathlib.Core.Path.{sym, ◌∙◌, ap}
use Rattle.std.proofs.Common.{rules, tests}
use Rattle.std.proofs.lemmas.Iterator.{YieldsList-from_slice, YieldsList-from_zip}
use Rattle.std.proofs.lemmas.Iterator.Search.{position_from_yields_List}
use Rattle.silamogo.proofs.Pairs.{wide_in, found_wide, found_is}
use Rattle.silamogo.proofs.fields.check_widths.Goals as goal

pub returns-in-Some : goal.returns-in-Some
returns-in-Some c =
    let found = position_from_yields_List wide_in c.position-wide.new.self _ c.position-wide.result c.position-wide.ensures.ran
    (YieldsList-from_zip (YieldsList-from_slice c.args.kinds.now cc) (YieldsList-from_slice c.args.bits.now cc)) (λ x b q k. search (rules, tests)) in
    sym (ap found_wide c.in-Some.is) ∙ found_is c.args.kinds.now c.args.bits.now found

pub returns-in-None : goal.returns-in-None
returns-in-None c =
    let found = position_from_yields_List wide_in c.position-wide.new.self _ c.position-wide.result c.position-wide.ensures.ran
    (YieldsList-from_zip (YieldsList-from_slice c.args.kinds.now cc) (YieldsList-from_slice c.args.bits.now cc)) (λ x b q k. search (rules, tests)) in
    sym (ap found_wide c.in-None.is) ∙ found_is c.args.kinds.now c.args.bits.now found
