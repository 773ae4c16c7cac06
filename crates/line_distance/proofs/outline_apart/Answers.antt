-- `line_distance::outline_apart` meets its contract: by whether one of the points is in twilight. Assumes nothing.
use mathlib.Core.Path.{◌∙◌}
use mir.Facts.{to_z-of_z}
use Rattle.int.proofs.Words.{back32}
use Rattle.line_distance.proofs.Seen.{of_places}
use Rattle.line_distance.proofs.outline_apart.Goals as goal

pub returns : goal.returns
returns c = let s = c.args in
    of_places s.v s.scale s.p s.a s.q s.b s.gux.now s.guy.now s.gox.now s.goy.now s.tox.now s.toy.now c.is_twilight.ensures c.is_twilight-2.ensures
    c.place_for-here.ensures c.place_for-there.ensures
    (back32 c.along.result c.along.type_inv ∙ c.along.ensures)
    (to_z-of_z c.ranges.scale)
    (back32 c.scaled_unless.result c.scaled_unless.type_inv ∙ c.scaled_unless.ensures)
