-- Four bytes are one number.
use Rattle.std.proofs.Common.{◌∙◌, rules}
use Rattle.bytewise.proofs.LittleEndian.{four_are}
use Rattle.strip.proofs.samples.bits_of.Goals as goal

pub returns : goal.returns
returns c = c.from_le_bytes.ensures ∙ four_are c.args.sample.now (search rules)
