-- `iup::iup` meets its contract. The invariant: what is done, with what the contours that are left make, is the whole (`Walking`).
-- Assumes nothing.
use Rattle.iup.proofs.Walks.{Walking}
use Rattle.iup.specs.Contour.{points_of}
use Rattle.iup.proofs.iup.Given as goal

abbrev pub invariant-loop-last : goal.invariant-loop-last
invariant-loop-last l = Walking l.contours (points_of l.mask l.flags l.unscaled l.original l.initial.current) l.current l.at l.last-index
