-- 32 bits take eight digits, and `-` stands where there is no sample.
use mathlib.Core.List.{List, ◌++◌}
use mathlib.Core.Path.{◌≡◌, sym, ◌∙◌, ap}
use Prim.Native.Nat.{ℕ}
use native.Mathlib.Omega.{arith}
use lib.Dec.{lit<, lit≤}
use borrow.Author.Rules.{rules}
use Rattle.sheet.specs.Lines.{extreme_digits, line_of}
use lib.ListN.{take}
use lib.Seq.{length-take-le}
use Rattle.sheet.proofs.Laid.{line_long}
use Rattle.sheet.proofs.Spelled.{fewest_most, hex_spelled, nothing_spelled}
use Rattle.sheet.proofs.lines.Page.put_extreme.Goals as goal
use Rattle.sheet.proofs.lines.Page.put_extreme.Goals.{After-hex-k}

eight : (c : After-hex-k) → c.hex-k.result ≡ 8
eight c =
    let bits = c.in-Some.bits in
    let f = c.hex-k.ensures.len in
    omega (arith, f.0, fewest_most 16 8 8 bits c.hex-k.result (lit< tt) (lit≤ tt) (search rules) f)

pub put_line-requires : goal.put_line-requires
put_line-requires c = let e = eight ((goal.at.put_line-requires c).After-hex-k) in search rules

pub returns-in-Some-clause-text : goal.returns-in-Some-clause-text
returns-in-Some-clause-text c =
    let a = c.args in
    let digits = c.hex-k.ensures.digits ∙ hex_spelled _ c.hex-k.result (eight ((goal.at.returns-in-Some-clause-text c).After-hex-k)) in
    c.put_line.ensures
    ∙ ap (λ (text : List ℕ). a.self.now ++ line_of a.name.now text) (digits ∙ ap extreme_digits (sym c.in-Some.is))

pub returns-in-Some-clause-most : goal.returns-in-Some-clause-most
returns-in-Some-clause-most c =
    let a = c.args in
    let e = eight ((goal.at.returns-in-Some-clause-most c).After-hex-k) in
    let l = line_long a.self.now a.name.now (take c.hex-k.result c.hex-k.new.out) c.put_line.ensures in
    omega (arith, e, l, length-take-le c.hex-k.result c.hex-k.new.out (omega (arith, e, c.hex-k.array_long)))

pub returns-in-None-clause-text : goal.returns-in-None-clause-text
returns-in-None-clause-text c =
    let a = c.args in
    c.put_line-in-None.ensures
    ∙ ap (λ (text : List ℕ). a.self.now ++ line_of a.name.now text) (nothing_spelled ∙ ap extreme_digits (sym c.in-None.is))
