-- The second row holds what the samples are moved to.
use Rattle.std.proofs.Common.{◌≡◌, ◌*◌, map, drop, refl, ◌∙◌}
use Rattle.sample.specs.Samples.{numbers_in}
use Rattle.block.proofs.Rowing.{map_three}
use Rattle.block.proofs.Pieces.{places, row_read}
use Rattle.block.proofs.rows.one_row.Goals as goal

pub returns : goal.returns
returns g c =
    let a = c.args in
    let w = g.P.From.Sample.WIDTH in
    let own : c.load.new.row ≡ map g.P.From.Sample.of_bits (numbers_in w a.many (drop (w * a.i) a.src.now)) =
    c.load.ensures ∙ row_read g.P.From.Sample.of_bits w a.i a.many a.src.now c.WIDTH.ensures (places a.many 16 _ c.requires.row.0) in
    c.store_row.ensures
    ∙ rw (
      c.WIDTH-2.ensures,
      c.convert.ensures.row,
      own,
      map_three g.P.To.Sample.bits g.P.Pair.moved g.P.From.Sample.of_bits (numbers_in w a.many (drop (w * a.i) a.src.now)),
    ) refl
