-- `iup::spread_out` meets its contract. The invariant: what is done, with what the points from here on make, is the whole (`Spreading`).
-- Assumes nothing.
use mathlib.Core.Path.{◌≡◌, refl, sym, ◌∙◌}
use Prim.Native.Nat.{◌+◌, ◌-◌, ◌*◌, ◌≤◌, ◌<◌}
use native.Mathlib.Omega.{arith}
use lib.ListN.{length, drop}
use mir.Syntax.{w64}
use mir.Val.{Fits}
use borrow.Rule.Slice.PartMut.{same_len_mid}
use Rattle.iup.proofs.Points.{Shown, shown}
use Rattle.iup.proofs.Search.{ahead_le}
use Rattle.iup.proofs.Spans.{before, onward, stretch}
use Rattle.iup.proofs.Turn.{sizes, turned, finished}
use Rattle.iup.specs.Contour.{points_of}
use Rattle.iup.specs.Parts.{ahead, marks}
use Rattle.iup.proofs.spread_out.Goals as goal
use Rattle.iup.proofs.spread_out.Goals.{After-next_touched-next, Start}

whole : (c : Start) → let a = c.args in let cs = a.current.now in Shown a.mask a.flags.now a.unscaled.now a.original.now cs (points_of a.mask a.flags.now a.unscaled.now a.original.now cs)
whole c = let a = c.args in shown a.mask a.flags.now a.unscaled.now a.original.now a.current.now c.requires.0 c.requires.1 c.requires.2

-- the next touched point stands from `at` on, and within the list
bounds : (c : After-next_touched-next) → let s = c in (c.loop-at.at ≤ c.next_touched-next.result) × (c.next_touched-next.result ≤ length s.args.flags.now) × (length c.loop-at.current ≡ length s.args.current.now)
bounds c =
    let whole : (let a = c.args in let cs = a.current.now in Shown a.mask a.flags.now a.unscaled.now a.original.now cs (points_of a.mask a.flags.now a.unscaled.now a.original.now cs)) = (let a = c.args in shown a.mask a.flags.now a.unscaled.now a.original.now a.current.now c.requires.0 c.requires.1 c.requires.2) in
    let s = c in let v = c.loop-at in (
      onward v.at (ahead (marks s.args.mask (drop v.at s.args.flags.now))) c.next_touched-next.ensures,
      ahead_le s.args.mask s.args.flags.now v.at c.next_touched-next.result c.next_touched-next.ensures (before c.loop-at-test.true),
      v.invariant.size ∙ sym whole.size,
    )

-- a stretch lies within all lists
spans :
    (c : After-next_touched-next) →
    let s = c in let v = c.loop-at in let e = c.next_touched-next.result in
    let f = length s.args.flags.now in
    (e ≤ length s.args.unscaled.now) × (e ≤ length s.args.original.now) × (e ≤ length v.current) × Fits w64 (v.at * 4) × Fits w64 (e + 1) × (f - (e + 1) < f - v.at)
spans c = let s = c in let b = bounds c in
    stretch c.loop-at.at c.next_touched-next.result c.loop-at-test.true b.0 b.1 b.2 s.requires.0 s.requires.1 s.requires.2 s.well_formed.0.1

pub loop-at-init : goal.loop-at-init
loop-at-init c = let s = c in record { done = refl; same = (whole (goal.at.loop-at-init c).Start).current; size = (whole (goal.at.loop-at-init c).Start).size }

pub slice_bounds-stretch-end : goal.slice_bounds-stretch-end
slice_bounds-stretch-end c = (spans (goal.at.slice_bounds-stretch-end c).After-next_touched-next).0

pub loop-at-preserved : goal.loop-at-preserved
loop-at-preserved c = let head = c in let turn = c in
    let touched = c in let placed = c in
    let s = c in let v = head.loop-at in
    turned (whole (goal.at.loop-at-preserved c).Start) v.invariant turn.loop-at-test.true touched.next_touched-next.ensures placed.place_at-after.ensures c.stretch.ensures refl
    (same_len_mid v.at (touched.next_touched-next.result - v.at) v.current c.stretch.new.current c.stretch.auto.current)

pub returns : goal.returns
returns c = let s = c in finished c.loop-at.invariant (omega (arith, sizes (whole (goal.at.returns c).Start), c.loop-at-test.false))
