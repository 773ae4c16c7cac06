-- `projection::not_small` meets its contract: by the test of the magnitude. Assumes nothing.
use mir.Facts.{to_z-of_z}
use Rattle.int.proofs.Words.{back32}
use Rattle.projection.proofs.Seen.{large, small}
use Rattle.projection.proofs.not_small.Goals as goal

pub returns-then-less : goal.returns-then-less
returns-then-less c = let l = c in let w = l in let s = w in small s.args.raw (to_z-of_z s.ranges.raw) (back32 w.wrapping_abs.result w.wrapping_abs.type_inv) w.wrapping_abs.ensures l.less.ensures c.if-less.true

pub returns-else-less : goal.returns-else-less
returns-else-less c = let l = c in let w = l in let s = w in large s.args.raw (to_z-of_z s.ranges.raw) (back32 w.wrapping_abs.result w.wrapping_abs.type_inv) w.wrapping_abs.ensures l.less.ensures c.if-less.false
