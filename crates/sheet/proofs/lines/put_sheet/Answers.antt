-- The nine lines stand one behind the other.
use Rattle.sheet.specs.Lines.{decimal_digits, extreme_digits, lines_of}
use Rattle.sheet.proofs.Laid.{behind}
use Rattle.sheet.proofs.lines.put_sheet.Goals as goal

pub returns : goal.returns
unfolding lines_of
returns c =
    let s = c.args.s in
    let start = c.new-page.ensures in
    let samples = behind _ "samples=" (decimal_digits s.samples) start c.put_number.ensures.text in
    let zero = behind _ "zero=" (decimal_digits s.zero) samples c.put_number-2.ensures.text in
    let subnormal = behind _ "subnormal=" (decimal_digits s.subnormal) zero c.put_number-3.ensures.text in
    let normal = behind _ "normal=" (decimal_digits s.normal) subnormal c.put_number-4.ensures.text in
    let infinite = behind _ "infinite=" (decimal_digits s.infinite) normal c.put_number-5.ensures.text in
    let nan = behind _ "nan=" (decimal_digits s.nan) infinite c.put_number-6.ensures.text in
    let lowest = behind _ "lowest=" (extreme_digits s.lowest) nan c.put_extreme.ensures.text in
    let highest = behind _ "highest=" (extreme_digits s.highest) lowest c.put_extreme-2.ensures.text in
    behind _ "tail=" (decimal_digits s.tail) highest c.put_number-7.ensures.text
