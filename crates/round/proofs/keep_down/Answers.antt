-- `round::keep_down` meets its contract: by whether v is above 0. Assumes nothing.
use native.Mathlib.Omega.{arith}
use mathlib.Core.Path.{◌∙◌, ap}
use mir.Facts.{to_z-of_z}
use Rattle.int.proofs.Words.{back32}
use Rattle.round.specs.Tracked.{given}
use Rattle.round.proofs.Seen.{kept_down, phase_down}
use Rattle.round.proofs.keep_down.Goals as goal

pub returns-then-less : goal.returns-then-less
returns-then-less c = let n = c in let g = n in let e = g in let t = e in let s = t in
    phase_down s.args.phase s.args.v t.less.ensures e.if-less.true (back32 s.args.v.word (omega arith)) (g.given.ensures ∙ ap given (to_z-of_z s.ranges.phase)) n.negated-other.ensures
    (back32 n.negated-other.result.word (omega arith))

pub returns-else-less : goal.returns-else-less
returns-else-less c = let t = c in let s = t in
    kept_down s.args.phase s.args.v t.less.ensures c.if-less.false (back32 s.args.v.word (omega arith))
