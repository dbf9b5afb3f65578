-- A number of 64 bits takes no more than 20 digits, which the library's digits spell.
use mathlib.Core.List.{List, ◌++◌}
use mathlib.Core.Path.{◌∙◌, ap}
use Prim.Native.Nat.{ℕ, ◌^◌, ◌≤◌, ◌<◌}
use native.Mathlib.Omega.{arith}
use lib.Dec.{lit<, lit≤}
use Rattle.sheet.specs.Lines.{line_of}
use Rattle.sheet.proofs.Spelled.{decimal_spelled, fewest_most}
use Rattle.sheet.proofs.lines.Page.put_number.Goals as goal
use Rattle.sheet.proofs.lines.Page.put_number.Goals.{After-decimal-k}

few : (c : After-decimal-k) → c.decimal-k.result ≤ 20
few c =
    let below : c.args.n < 10 ^ 20 = omega (arith, c.ranges.n.fits) in
    fewest_most 10 1 20 c.args.n c.decimal-k.result (lit< tt) (lit≤ tt) below c.decimal-k.ensures.len

pub returns-clause-text : goal.returns-clause-text
returns-clause-text c =
    let a = c.args in
    let e = c.decimal-k.ensures in
    let digits = e.digits ∙ decimal_spelled a.n c.decimal-k.result (few ((goal.at.returns-clause-text c).After-decimal-k)) e.len in
    c.put_line.ensures ∙ ap (λ (text : List ℕ). a.self.now ++ line_of a.name.now text) digits
