-- `iup::interpolate` meets its contract. The invariant: the points below i are in their places, and the others as they were (`Filling`).
-- Assumes nothing.
use Rattle.iup.proofs.Fill.{Filling}
use Rattle.iup.specs.Parts.{moved_by, both}
use Rattle.iup.proofs.interpolate.Given as goal

abbrev pub invariant-loop-i : goal.invariant-loop-i
invariant-loop-i l = Filling (both (moved_by l.low l.high l.flat l.scale) l.unscaled l.original) l.initial.current l.current l.i
