-- `moves::move_of` meets its contract: on an axis nothing is exempt, and off both the projection vector's y says it. Assumes nothing.
use mathlib.Core.Path.{ap, sym, ◌∙◌}
use native.Mathlib.Omega.{arith}
use lib.IntN.{ℤ, pos}
use mir.Facts.{to_z-of_z}
use Rattle.int.proofs.Words.{back32}
use Rattle.int.specs.Word.{eq_z}
use Rattle.moves.proofs.Axis.{slanted_along, slanted_move, straight_move, straight_step}
use Rattle.moves.specs.Move.{is_slanted}
use Rattle.projection.specs.Projection.{fdotp_of}
use Rattle.moves.proofs.move_of.Goals as goal

pub returns-in-X : goal.returns-in-X
returns-in-X c = let m = c in let t = m in let k = t in let p = k in let s = p in let v = s.args.v in let axis = sym t.in-X.is ∙ k.freedom_axis-axis.ensures in
    straight_move v s.args.distance s.args.f (straight_step v s.args.distance axis (to_z-of_z s.ranges.distance) (m.step_x.ensures v.freedom (fdotp_of v))) p.past_both_iups-past.ensures (ap is_slanted (sym axis)) c.held.ensures

pub returns-in-Y : goal.returns-in-Y
returns-in-Y c = let m = c in let t = m in let k = t in let p = k in let s = p in let v = s.args.v in let axis = sym t.in-Y.is ∙ k.freedom_axis-axis.ensures in
    straight_move v s.args.distance s.args.f (straight_step v s.args.distance axis (to_z-of_z s.ranges.distance) (m.step_y.ensures v.freedom (fdotp_of v))) p.past_both_iups-past.ensures (ap is_slanted (sym axis)) c.held-in-Y.ensures

pub returns-in-Both : goal.returns-in-Both
returns-in-Both c = let m = c in let e = m in let t = e in let k = t in let p = k in let s = p in let v = s.args.v in let axis = sym t.in-Both.is ∙ k.freedom_axis-axis.ensures in
    let fy = p in let fx = fy in let py = fx in let px = py in let level = back32 v.projection.y (omega (arith, py.struct_told-2-1.given.1.0)) in
    slanted_move v s.args.distance s.args.f
    (slanted_along v s.args.distance axis
    (back32 v.projection.x (omega (arith, px.struct_told-1.given.0))) level
    (back32 v.freedom.x (omega (arith, fx.struct_told-3-1.given.0))) (back32 v.freedom.y (omega (arith, fy.struct_told-4-1.given.1.0)))
    (to_z-of_z s.ranges.distance) m.step_slanted.ensures)
    p.past_both_iups-past.ensures axis (e.equal-bound.ensures ∙ ap (λ (z : ℤ). eq_z z (pos 0)) level) c.held-in-Both.ensures
