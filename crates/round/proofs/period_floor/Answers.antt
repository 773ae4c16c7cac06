-- `round::period_floor` meets its contract: by the way that is asked for. Assumes nothing.
use mathlib.Core.Path.{◌∙◌, ap}
use native.Mathlib.Omega.{arith}
use mir.Facts.{to_z-of_z}
use Rattle.int.proofs.Words.{back32}
use Rattle.round.specs.Tracked.{given}
use Rattle.round.proofs.Seen.{by_mask, by_quotient}
use Rattle.round.proofs.period_floor.Goals as goal

pub returns-then-divides : goal.returns-then-divides
returns-then-divides c = let o = c in let e = o in let s = e in
    by_quotient s.args.x s.args.period e.if-divides.true (to_z-of_z s.ranges.period) o.over.ensures c.times.ensures

pub returns-else-divides : goal.returns-else-divides
returns-else-divides c = let b = c in let n = b in let g = n in let e = g in let s = e in
    by_mask s.args.x s.args.period e.if-divides.false (g.given.ensures ∙ ap given (to_z-of_z s.ranges.period)) n.negated-mask.ensures
    (back32 b.bit_and.result b.bit_and.type_inv) b.bit_and.ensures (back32 s.args.x.word (omega arith)) (back32 n.negated-mask.result.word (omega arith))
