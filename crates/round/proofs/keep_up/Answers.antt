-- `round::keep_up` meets its contract: by the sign of v. Assumes nothing.
use native.Mathlib.Omega.{arith}
use mir.Facts.{to_z-of_z}
use Rattle.int.proofs.Words.{back32}
use Rattle.round.proofs.Seen.{kept_up, phase_up}
use Rattle.round.proofs.keep_up.Goals as goal

pub returns-then-non_negative : goal.returns-then-non_negative
returns-then-non_negative c = let t = c in let s = t in
    kept_up s.args.phase s.args.v t.non_negative.ensures c.if-non_negative.true (back32 s.args.v.word (omega arith))

pub returns-else-non_negative : goal.returns-else-non_negative
returns-else-non_negative c = let t = c in let s = t in
    phase_up s.args.phase s.args.v t.non_negative.ensures c.if-non_negative.false (back32 s.args.v.word (omega arith)) (to_z-of_z s.ranges.phase)
