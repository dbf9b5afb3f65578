-- The first i samples were noted.
use Rattle.std.proofs.Common.{◌≡◌, take}
use Rattle.sample.specs.Samples.{samples_of}
use Rattle.look.specs.Report.{all_noted}
use Rattle.look.proofs.looks.all_noted.Given as goal

abbrev pub invariant-loop-i : goal.invariant-loop-i
invariant-loop-i l = l.seen ≡ all_noted l.to l.initial.seen (take l.i (samples_of l.from l.src))
