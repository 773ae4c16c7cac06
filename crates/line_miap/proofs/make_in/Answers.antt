-- `line_miap::make_in` meets its contract: by the zone, in any world that holds the lists lent. Assumes nothing.
use mathlib.Core.Path.{ap, sym, ◌∙◌}
use mir.Facts.{to_z-of_z}
use Rattle.line_miap.specs.Numbers.{control_place}
use Rattle.line_steps.proofs.Laws.{made_twilight}
use Rattle.line_steps.specs.Steps.{made_in}
use Rattle.line.specs.World.{world}
use Rattle.line_miap.proofs.make_in.Goals as goal

pub returns-in-Glyph : goal.returns-in-Glyph
unfolding made_in
returns-in-Glyph c = let a = c.args in
    λ s gx gy gflags tflags. sym (ap (made_in a.at (control_place a.freedom a.control) (world s gx gy gflags a.tox.now a.toy.now a.tx.now a.ty.now tflags)) c.in-Glyph.is)

pub returns-in-Twilight : goal.returns-in-Twilight
returns-in-Twilight c =
    λ state gx gy gflags tflags. made_twilight (world state gx gy gflags c.args.tox.now c.args.toy.now c.args.tx.now c.args.ty.now tflags) c.args.at
    (c.control_place-place.ensures ∙ ap (control_place c.args.freedom) (to_z-of_z c.ranges.control))
    c.put_at.ensures
    c.put_at-in-Twilight.ensures
    c.in-Twilight.is
