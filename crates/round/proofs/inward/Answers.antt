-- `round::inward` meets its contract: by the distance's sign. Assumes nothing.
use native.Mathlib.Omega.{arith}
use mir.Facts.{to_z-of_z}
use Rattle.int.proofs.Words.{back32}
use Rattle.round.proofs.Seen.{down_in, up_in}
use Rattle.round.proofs.inward.Goals as goal

pub returns-then-non_negative : goal.returns-then-non_negative
returns-then-non_negative c = let e = c in let t = e in let s = t in
    up_in s.args.d s.args.r (to_z-of_z s.ranges.d) t.non_negative.ensures e.if-non_negative.true
    (back32 c.max.result c.max.type_inv) c.max.ensures (back32 s.args.r.word (omega arith))

pub returns-else-non_negative : goal.returns-else-non_negative
returns-else-non_negative c = let n = c in let e = n in let t = e in let s = t in
    down_in s.args.d s.args.r (to_z-of_z s.ranges.d) t.non_negative.ensures e.if-non_negative.false n.negated-back.ensures
    (back32 c.min.result c.min.type_inv) c.min.ensures (back32 n.negated-back.result.word (omega arith))
