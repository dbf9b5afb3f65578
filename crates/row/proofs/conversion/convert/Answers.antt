-- Lengths that differ, the first sample that is refused, or each sample converted.
use Rattle.std.proofs.Common.{rules, ◌∙◌, refl, sym, ap, arith}
use Rattle.row.specs.Inner.{is_refused}
use Rattle.row.proofs.ConvertRow.{lengths_differ_lem, sample_decides_row, all_converted}
use Rattle.row.proofs.conversion.convert.Goals as goal

pub returns-then-src-dst : goal.returns-then-src-dst
returns-then-src-dst g c =
    let both = lengths_differ_lem g.C.Conversion.conversion c.args.src.now c.args.dst.now c.if-src-dst.true in
    record { answer = both.0; exit = both.1 }

pub returns-in-Some : goal.returns-in-Some
returns-in-Some g c =
    let x = c.index-src-place.result in
    let src = c.args.src.now in
    let conversion = g.C.Conversion.conversion in
    let both = sample_decides_row conversion src c.args.dst.now c.if-src-dst.false (λ y. is_refused (conversion y)) c.in-Some.place c.number.result x
    (λ k l. refl) (search rules) (ap conversion (sym c.index-src-place.is) ∙ c.number.ensures) in
    record { answer = both.0; exit = both.1 }

pub returns : goal.returns
returns g c =
    let both = all_converted g.C.Conversion.conversion c.args.src.now c.args.dst.now c.if-src-dst.false c.loop-i.dst (omega arith) (λ k x y l. search rules) in
    record { answer = both.0; exit = both.1 }
