-- `iup::iup` meets its contract. The invariant: what is done, with what the contours that are left make, is the whole (`Walking`).
-- Assumes nothing.
use mathlib.Core.Path.{refl, sym, ap, ◌∙◌}
use Prim.Native.Nat.{ℕ, ◌*◌, ◌≤◌}
use lib.ListN.{length}
use mir.Syntax.{w64}
use mir.Val.{Fits}
use Rattle.contour_ends.specs.Ends.{rising_from}
use Rattle.iup.proofs.Points.{Shown, shown}
use Rattle.iup.proofs.Spans.{part, walked}
use Rattle.iup.proofs.Walks.{next_part, came, over}
use Rattle.iup.specs.Contour.{points_of}
use Rattle.iup.proofs.iup.Goals as goal
use Rattle.iup.proofs.iup.Goals.{After-past-end, After-touch_bit-mask}

-- the mask is the axis's, from the start
whole : (c : After-touch_bit-mask) → let a = c.args in
    let cs = a.current.now in Shown c.touch_bit-mask.result a.flags.now a.unscaled.now a.original.now cs (points_of c.touch_bit-mask.result a.flags.now a.unscaled.now a.original.now cs)
whole c = let s = c in
    let a = s.args in shown c.touch_bit-mask.result a.flags.now a.unscaled.now a.original.now a.current.now s.requires.0 s.requires.1 s.requires.2

-- a contour's part lies within all four lists
bounds :
    (c : After-past-end) →
    let h = c in let v = h.loop-last in let s = h in let at = v.at in let e = c.past-end.result in
    (at ≤ e) × (e ≤ length s.args.unscaled.now) × (e ≤ length s.args.original.now) × (e ≤ length s.args.flags.now) × Fits w64 (at * 4) × (e ≤ length v.current)
bounds c =
    let whole : (let a = c.args in
    let cs = a.current.now in Shown c.touch_bit-mask.result a.flags.now a.unscaled.now a.original.now cs (points_of c.touch_bit-mask.result a.flags.now a.unscaled.now a.original.now cs)) = (let s = c in
    let a = s.args in shown c.touch_bit-mask.result a.flags.now a.unscaled.now a.original.now a.current.now s.requires.0 s.requires.1 s.requires.2) in
    let i = c in let l = c in let t = c in
    let s = c in let v = l.loop-last in
    let (g, w, r) = next_part v.invariant i.loop-last-test.true c.past-end.ensures in
    let (p0, p1, p2, p3, p4) = part v.at c.past-end.result g w (v.invariant.size ∙ sym whole.size) s.requires.0 s.requires.1 s.requires.2 s.well_formed.0.1 in
    (p0, p1, p2, p3, p4, w)

pub loop-last-init : goal.loop-last-init
loop-last-init c = let s = c in let w = whole c in
    record { done = refl; same = w.current; size = w.size; rising = ap (λ (n : ℕ). rising_from 0 n s.args.contours.now) (sym w.size) ∙ s.requires.3 }

pub offset_bounds-unscaled-at : goal.offset_bounds-unscaled-at
offset_bounds-unscaled-at c = (bounds c).4

pub slice_bounds-contour-count : goal.slice_bounds-contour-count
slice_bounds-contour-count c = (bounds c).0

pub slice_bounds-contour-start : goal.slice_bounds-contour-start
slice_bounds-contour-start c = (bounds c).0

pub slice_bounds-contour-end : goal.slice_bounds-contour-end
slice_bounds-contour-end c = (bounds c).1

pub offset_bounds-original-at : goal.offset_bounds-original-at
offset_bounds-original-at c = (bounds (goal.at.offset_bounds-original-at c).After-past-end).4

pub slice_bounds-contour-count-in-loop-last : goal.slice_bounds-contour-count-in-loop-last
slice_bounds-contour-count-in-loop-last c = (bounds (goal.at.slice_bounds-contour-count-in-loop-last c).After-past-end).0

pub slice_bounds-contour-start-in-loop-last : goal.slice_bounds-contour-start-in-loop-last
slice_bounds-contour-start-in-loop-last c = (bounds (goal.at.slice_bounds-contour-start-in-loop-last c).After-past-end).0

pub slice_bounds-contour-end-in-loop-last : goal.slice_bounds-contour-end-in-loop-last
slice_bounds-contour-end-in-loop-last c = (bounds (goal.at.slice_bounds-contour-end-in-loop-last c).After-past-end).2

pub offset_bounds-current-at : goal.offset_bounds-current-at
offset_bounds-current-at c = (bounds (goal.at.offset_bounds-current-at c).After-past-end).4

pub slice_bounds-contour-count-in-loop-last-2 : goal.slice_bounds-contour-count-in-loop-last-2
slice_bounds-contour-count-in-loop-last-2 c = (bounds (goal.at.slice_bounds-contour-count-in-loop-last-2 c).After-past-end).0

pub slice_bounds-contour-start-in-loop-last-2 : goal.slice_bounds-contour-start-in-loop-last-2
slice_bounds-contour-start-in-loop-last-2 c = (bounds (goal.at.slice_bounds-contour-start-in-loop-last-2 c).After-past-end).0

pub slice_bounds-contour-end-in-loop-last-2 : goal.slice_bounds-contour-end-in-loop-last-2
slice_bounds-contour-end-in-loop-last-2 c = (bounds (goal.at.slice_bounds-contour-end-in-loop-last-2 c).After-past-end).5

pub slice_bounds-contour-count-in-loop-last-3 : goal.slice_bounds-contour-count-in-loop-last-3
slice_bounds-contour-count-in-loop-last-3 c = (bounds (goal.at.slice_bounds-contour-count-in-loop-last-3 c).After-past-end).0

pub slice_bounds-contour-start-in-loop-last-3 : goal.slice_bounds-contour-start-in-loop-last-3
slice_bounds-contour-start-in-loop-last-3 c = (bounds (goal.at.slice_bounds-contour-start-in-loop-last-3 c).After-past-end).0

pub slice_bounds-contour-end-in-loop-last-3 : goal.slice_bounds-contour-end-in-loop-last-3
slice_bounds-contour-end-in-loop-last-3 c = (bounds (goal.at.slice_bounds-contour-end-in-loop-last-3 c).After-past-end).3

pub loop-last-preserved : goal.loop-last-preserved
loop-last-preserved c = let l = c in let turn = c in
    let t = c in let s = c in let a = s.args in
    let p = c in let k = c in
    over t.touch_bit-mask.result a.flags.now a.unscaled.now a.original.now a.current.now s.requires.0 s.requires.1 s.requires.2 l.loop-last.invariant turn.loop-last-test.true p.past-end.ensures k.contour.ensures k.contour.auto.current

pub returns : goal.returns
returns c = let s = c in let t = c in let a = s.args in
    walked a.axis a.flags.now a.contours.now a.unscaled.now a.original.now a.current.now t.touch_bit-mask.ensures (came c.loop-last.invariant c.loop-last-test.false)
