-- The places are filled one by one.
use mathlib.Core.Path.{◌≡◌}
use lib.ListN.{take}
use Rattle.record.specs.Record.{kinds_of}
use Rattle.record.proofs.Shaping.{places_from}
use Rattle.record.proofs.shapes.shape_for.Given as goal

abbrev pub invariant-loop-at : goal.invariant-loop-at
invariant-loop-at l = l.shape.places ≡ places_from l.at (kinds_of (take l.at l.fields))
