-- `iup::interpolate` meets its contract. The invariant: the points below i are in their places, and the others as they were (`Filling`).
-- Assumes nothing.
use mathlib.Core.Path.{sym, ap₂, ◌∙◌}
use native.Mathlib.Omega.{arith}
use lib.IntN.{pos}
use lib.ListN.{get_or}
use mir.Syntax.{w32}
use mir.Val.{to_z, of_z}
use Rattle.int.proofs.Words.{back32}
use Rattle.iup.proofs.Fill.{start, turn, both_length, get_d_both}
use Rattle.iup.specs.Parts.{moved_by, both}
use Rattle.iup.proofs.interpolate.Goals as goal

pub loop-i-init : goal.loop-i-init
loop-i-init c = let a = c.args in
    start (both (moved_by a.low a.high a.flat (to_z w32 (of_z w32 a.scale))) a.unscaled.now a.original.now) a.current.now
    (both_length (moved_by a.low a.high a.flat (to_z w32 (of_z w32 a.scale))) a.unscaled.now a.original.now (c.requires.0 ∙ sym c.requires.1) ∙ c.requires.1)

pub loop-i-preserved : goal.loop-i-preserved
loop-i-preserved c = let s = c in let a = s.args in let v = c.loop-i in let i = v.i in
    let us = a.unscaled.now in let os = a.original.now in
    turn v.invariant (omega arith)
    (back32 c.moved.result c.moved.type_inv ∙ c.moved.ensures
    ∙ ap₂ (moved_by a.low a.high a.flat (to_z w32 (of_z w32 a.scale))) (back32 (get_or us i (pos 0)) c.moved-arg-1.given) (back32 (get_or os i (pos 0)) c.moved-arg-in-loop-i-1.given)
    ∙ sym (get_d_both (moved_by a.low a.high a.flat (to_z w32 (of_z w32 a.scale))) us os i (omega (arith, s.requires.0, v.invariant.size)) (omega (arith, s.requires.1, v.invariant.size))))
