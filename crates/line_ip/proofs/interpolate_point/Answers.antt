-- `line_ip::interpolate_point` meets its contract: by whether the point is there. Assumes nothing.
use mathlib.Core.Path.{◌∙◌}
use Rattle.int.proofs.Words.{back32}
use Rattle.line_ip.specs.Ip.{outline_place}
use Rattle.line_ip.proofs.Cases.{point_moved, point_passed}
use Rattle.line_steps.specs.Loop.{zones}
use Rattle.line_ip.proofs.interpolate_point.Goals as goal

pub fetch_in-here-requires : goal.fetch_in-here-requires
fetch_in-here-requires c = (c.requires.0, c.requires.2)

pub apply_in-requires : goal.apply_in-requires
apply_in-requires c = c.requires

pub returns-in-Err : goal.returns-in-Err
returns-in-Err c = let a = c.args in
    point_passed a.v a.facts a.zone
    (outline_place a.twilight a.gux.now a.guy.now a.gox.now a.goy.now a.tox.now a.toy.now a.zone) a.t a.at
    (zones a.gx.now a.gy.now a.gflags.now a.tx.now a.ty.now a.tflags.now) c.fetch_in-here.ensures c.in-Err.is c.let_pass.ensures

pub returns-in-Ok : goal.returns-in-Ok
returns-in-Ok c = let a = c.args in
    point_moved a.v a.facts a.zone
    (outline_place a.twilight a.gux.now a.guy.now a.gox.now a.goy.now a.tox.now a.toy.now a.zone) a.t a.at
    (zones a.gx.now a.gy.now a.gflags.now a.tx.now a.ty.now a.tflags.now) c.fetch_in-here.ensures c.in-Ok.is c.outline_place-outline.ensures
    (back32 c.distance_left.result c.distance_left.type_inv ∙ c.distance_left.ensures) c.move_of-m.ensures c.apply_in.ensures
