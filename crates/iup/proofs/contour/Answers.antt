-- `iup::contour` meets its contract: with no touched point nothing is done (`none`), one takes the others along (`one`), and from two on the
-- others are spread (`several`). Assumes nothing.
use mathlib.Core.Path.{◌≡◌, ap, ◌∙◌}
use mathlib.Core.List.{List, ◌++◌}
use Prim.Native.Nat.{◌+◌, ◌-◌, ◌*◌, ◌≤◌, ◌<◌}
use borrow.Author.Tests.{lt-ltb}
use lib.IntN.{ℤ, pos}
use lib.ListN.{length, drop, take, get_or, length-drop}
use borrow.Rule.Slice.PartMut.{put_mid}
use mir.Syntax.{w32, w64}
use mir.Val.{to_z, of_z, Fits}
use Rattle.int.proofs.Words.{back32}
use Rattle.iup.proofs.ByTouched.{none, several, one, shift_all}
use Rattle.iup.proofs.Points.{Shown, shown}
use Rattle.iup.proofs.Search.{last_le}
use Rattle.iup.proofs.Spans.{place, two}
use Rattle.iup.proofs.Turn.{same_place}
use Rattle.iup.specs.Contour.{points_of}
use Rattle.iup.specs.Parts.{place_at}
use Rattle.iup.specs.declared.Place.{Place}
use Rattle.iup.proofs.contour.Goals as goal
use Rattle.iup.proofs.contour.Goals.{After-first-then-at-flags-2-1, After-shift-then-more-eq0, Start, Then-at-flags}

whole : (c : Start) → let a = c.args in let cs = a.current.now in Shown a.mask a.flags.now a.unscaled.now a.original.now cs (points_of a.mask a.flags.now a.unscaled.now a.original.now cs)
whole c = let a = c.args in shown a.mask a.flags.now a.unscaled.now a.original.now a.current.now c.requires.0 c.requires.1 c.requires.2

-- where the first touched point stands, and that its addresses fit
places :
    (c : Then-at-flags) →
    let s = c in let at = c.next_touched-at.result in let u = length s.args.unscaled.now in
    let o = length s.args.original.now in
    let n = length s.args.current.now in let f = length s.args.flags.now in
    (at < u) × (at < o) × (at < n) × (at + 1 ≤ f) × (at ≤ n) × (at + 1 ≤ n) × Fits w64 (at * 4) × Fits w64 (at + 1) × Fits w64 ((at + 1) * 4)
places c = let s = c in place c.next_touched-at.result c.if-at-flags.true s.requires.0 s.requires.1 s.requires.2 s.well_formed.0.1

-- the first touched point, as it was read
first :
    (c : After-first-then-at-flags-2-1) →
    let t = c in let s = t in let at = t.next_touched-at.result in
    let us = s.args.unscaled.now in let os = s.args.original.now in let cs = s.args.current.now in
    let p : Place =
    record {
      unscaled = to_z w32 (of_z w32 (get_or us at (pos 0)));
      original = to_z w32 (of_z w32 (get_or os at (pos 0)));
      current = to_z w32 (of_z w32 (get_or cs at (pos 0)));
    } in
    p ≡ place_at us os cs at p
unfolding place_at
first c =
    let places : (let s = c in let at = c.next_touched-at.result in let u = length s.args.unscaled.now in
    let o = length s.args.original.now in
    let n = length s.args.current.now in let f = length s.args.flags.now in
    (at < u) × (at < o) × (at < n) × (at + 1 ≤ f) × (at ≤ n) × (at + 1 ≤ n) × Fits w64 (at * 4) × Fits w64 (at + 1) × Fits w64 ((at + 1) * 4)) = (let s = c in place c.next_touched-at.result c.if-at-flags.true s.requires.0 s.requires.1 s.requires.2 s.well_formed.0.1) in
    let touched = c in let here = c in let s = c in
    let at = touched.next_touched-at.result in
    rw (lt-ltb at (length s.args.current.now) places.2)
    (same_place
    (record {
      unscaled = get_or s.args.unscaled.now at (pos 0);
      original = get_or s.args.original.now at (pos 0);
      current = get_or s.args.current.now at (pos 0);
    })
    (back32 (get_or s.args.unscaled.now at (pos 0)) c.first-1.given)
    (back32 (get_or s.args.original.now at (pos 0)) c.first-then-at-flags-1.given)
    (back32 (get_or s.args.current.now at (pos 0)) c.first-then-at-flags-2-1.given))

-- the points behind it, moved as it was
behind :
    (c : After-shift-then-more-eq0) →
    let at = c.next_touched-at.result in
    let l : List ℤ = c.shift.new.part ++ drop at c.args.current.now in
    c.shift-then-more-eq0.new.part ≡ shift_all (to_z w32 (of_z w32 c.displacement-delta.result)) (take (length l - (at + 1)) (drop (at + 1) l))
behind c = c.shift-then-more-eq0.ensures

pub overflow_add-at-else-more-eq0 : goal.overflow_add-at-else-more-eq0
overflow_add-at-else-more-eq0 c = let i = c in let s = c in let at = i.next_touched-at.result in
    let fs = s.args.flags.now in let m = c.last_touched-more in
    two at m.result i.if-at-flags.true s.requires.0 s.requires.2 s.well_formed.0.1 (length-drop (at + 1) fs) (last_le s.args.mask (drop (at + 1) fs) (length fs - (at + 1)) m.result m.ensures)

pub returns-then-more-eq0 : goal.returns-then-more-eq0
returns-then-more-eq0 c = let touched = c in let shifted = c in
    let moved = c in let read = c in let last = c in
    let here = c in let alone = c in let s = c in let at = touched.next_touched-at.result in
    let l : List ℤ = shifted.shift.new.part ++ drop at s.args.current.now in
    let w = moved.displacement-delta in
    one (whole (goal.at.returns-then-more-eq0 c).Start) touched.next_touched-at.ensures (first (goal.at.returns-then-more-eq0 c).After-first-then-at-flags-2-1) last.last_touched-more.ensures here.if-at-flags.true
    {d = to_z w32 (of_z w32 w.result)}
    {l = l}
    (back32 w.result w.type_inv ∙ w.ensures)
    alone.if-more-eq0.true
    (ap (λ (x : List ℤ). x ++ drop at s.args.current.now) shifted.shift.ensures)
    (ap (put_mid (at + 1) (length l - (at + 1)) l) (behind (goal.at.returns-then-more-eq0 c).After-shift-then-more-eq0))

pub returns-else-more-eq0 : goal.returns-else-more-eq0
returns-else-more-eq0 c = let touched = c in let read = c in let last = c in
    let here = c in let more = c in let placed = c in let s = c in
    c.spread_out.ensures
    ∙ several (whole (goal.at.returns-else-more-eq0 c).Start) touched.next_touched-at.ensures (first (goal.at.returns-else-more-eq0 c).After-first-then-at-flags-2-1) last.last_touched-more.ensures here.if-at-flags.true more.if-more-eq0.false
    placed.place_at-last.ensures

pub returns-else-at-flags : goal.returns-else-at-flags
returns-else-at-flags c = let s = c in none (whole (goal.at.returns-else-at-flags c).Start) c.next_touched-at.ensures c.if-at-flags.false
