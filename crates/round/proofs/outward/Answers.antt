-- `round::outward` meets its contract: by the distance's sign. Assumes nothing.
use mir.Facts.{to_z-of_z}
use Rattle.round.specs.Tracked.{given, negated}
use Rattle.round.proofs.Seen.{down_out, up_out}
use Rattle.round.proofs.outward.Goals as goal

pub returns-then-non_negative : goal.returns-then-non_negative
returns-then-non_negative c = let e = c in let t = e in let s = t in
    up_out s.args.d (to_z-of_z s.ranges.d) t.non_negative.ensures e.if-non_negative.true c.given.ensures

pub returns-else-non_negative : goal.returns-else-non_negative
returns-else-non_negative c = let g = c in let e = g in let t = e in let s = t in
    down_out s.args.d (to_z-of_z s.ranges.d) t.non_negative.ensures e.if-non_negative.false g.given-else-non_negative.ensures c.negated.ensures
