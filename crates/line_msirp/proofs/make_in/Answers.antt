-- `line_msirp::make_in` meets its contract: by the zone, in any world that holds the lists lent. Assumes nothing.
use mathlib.Core.Path.{ap, ap₂, sym, ◌∙◌}
use mir.Facts.{to_z-of_z}
use Rattle.line_steps.proofs.Laws.{made_twilight}
use Rattle.line_steps.specs.Steps.{made_in}
use Rattle.graphics.specs.declared.Vector.{Vector}
use Rattle.line.specs.Places.{place_in}
use Rattle.line.specs.World.{world}
use Rattle.zone.specs.Zone.{place_of}
use Rattle.line_msirp.specs.Msirp.{made_from, made_place}
use Rattle.line_msirp.proofs.make_in.Goals as goal
use Rattle.line_msirp.proofs.make_in.Goals.{Start}

-- what the point is made from
abbrev origin : Start → Vector
origin s = let a = s.args in
    made_from a.rules (place_of a.tox.now a.toy.now a.at) (place_in a.reference a.gox.now a.goy.now a.tox.now a.toy.now a.other)

pub returns-in-Glyph : goal.returns-in-Glyph
unfolding made_in
returns-in-Glyph c = let a = c.args in
    λ s gx gy gflags tflags. sym (ap (made_in a.at (made_place a.v a.distance (origin (goal.at.returns-in-Glyph c).Start)) (world s gx gy gflags a.tox.now a.toy.now a.tx.now a.ty.now tflags)) c.in-Glyph.is)

pub returns-in-Twilight : goal.returns-in-Twilight
returns-in-Twilight c = let a = c.args in
    λ state gx gy gflags tflags. made_twilight (world state gx gy gflags a.tox.now a.toy.now a.tx.now a.ty.now tflags) a.at
    (c.made_place-place.ensures ∙ ap₂ (made_place a.v) (to_z-of_z c.ranges.distance) c.made_from-from.ensures)
    c.put_at.ensures
    c.put_at-in-Twilight.ensures
    c.in-Twilight.is
