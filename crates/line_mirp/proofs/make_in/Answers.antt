-- `line_mirp::make_in` meets its contract: by the zone, in any world that holds the lists lent. Assumes nothing.
use mathlib.Core.Path.{ap, ap₂, sym, ◌∙◌}
use mir.Facts.{to_z-of_z}
use Rattle.graphics.specs.declared.Vector.{Vector}
use Rattle.line.specs.Places.{place_in}
use Rattle.line.specs.World.{world}
use Rattle.line_steps.proofs.Laws.{made_twilight}
use Rattle.line_steps.specs.Steps.{made_in}
use Rattle.line_mirp.specs.Mirp.{mirp_place}
use Rattle.line_mirp.proofs.make_in.Goals as goal
use Rattle.line_mirp.proofs.make_in.Goals.{Start}

-- where the point is made
abbrev place : Start → Vector
place s = let a = s.args in
    mirp_place a.freedom a.control (place_in a.reference a.gox.now a.goy.now a.tox.now a.toy.now a.other)

pub returns-in-Glyph : goal.returns-in-Glyph
unfolding made_in
returns-in-Glyph c = let a = c.args in
    λ state gx gy gflags tflags. sym (ap (made_in a.at (place (goal.at.returns-in-Glyph c).Start) (world state gx gy gflags a.tox.now a.toy.now a.tx.now a.ty.now tflags)) c.in-Glyph.is)

pub returns-in-Twilight : goal.returns-in-Twilight
returns-in-Twilight c = let a = c.args in
    λ state gx gy gflags tflags. made_twilight (world state gx gy gflags a.tox.now a.toy.now a.tx.now a.ty.now tflags) a.at
    (c.mirp_place-place.ensures ∙ ap₂ (mirp_place a.freedom) (to_z-of_z c.ranges.control) c.place_in-original.ensures)
    c.put_at.ensures
    c.put_at-in-Twilight.ensures
    c.in-Twilight.is
