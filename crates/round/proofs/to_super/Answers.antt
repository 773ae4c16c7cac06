-- `round::to_super` meets its contract: each step is what its call ensures, by the distance's sign. Assumes nothing.
use mathlib.Core.Path.{◌∙◌, ap}
use mir.Facts.{to_z-of_z}
use Rattle.round.specs.Tracked.{given}
use Rattle.round.proofs.Seen.{super_down, super_up}
use Rattle.round.proofs.to_super.Goals as goal

pub returns-then-non_negative : goal.returns-then-non_negative
returns-then-non_negative c = let v = c in let h = v in let f = h in let a = f in let g = a in let e = g in let t = e in
    let b = t in let ph = b in let th = ph in let s = th in let phase = to_z-of_z s.ranges.phase in
    super_up s.args.divides s.args.period s.args.threshold s.args.phase s.args.d (to_z-of_z s.ranges.period) (to_z-of_z s.ranges.d)
    (th.given.ensures ∙ ap given (to_z-of_z s.ranges.threshold)) (ph.given-2.ensures ∙ ap given phase) b.minus-bias.ensures
    t.non_negative.ensures e.if-non_negative.true g.given-then-non_negative.ensures a.plus.ensures f.period_floor-at.ensures (h.given-then-non_negative-2.ensures ∙ ap given phase) v.plus-then-non_negative.ensures phase c.keep_up.ensures

pub returns-else-non_negative : goal.returns-else-non_negative
returns-else-non_negative c = let v = c in let h = v in let m = h in let f = m in let a = f in let g = a in let e = g in let t = e in
    let b = t in let ph = b in let th = ph in let s = th in let phase = to_z-of_z s.ranges.phase in
    super_down s.args.divides s.args.period s.args.threshold s.args.phase s.args.d (to_z-of_z s.ranges.period) (to_z-of_z s.ranges.d)
    (th.given.ensures ∙ ap given (to_z-of_z s.ranges.threshold)) (ph.given-2.ensures ∙ ap given phase) b.minus-bias.ensures
    t.non_negative.ensures e.if-non_negative.false g.given-else-non_negative.ensures a.minus.ensures f.period_floor-at-else-non_negative.ensures m.negated.ensures (h.given-else-non_negative-2.ensures ∙ ap given phase) v.minus-else-non_negative.ensures phase c.keep_down.ensures
