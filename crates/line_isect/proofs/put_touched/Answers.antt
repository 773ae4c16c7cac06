-- `line_isect::put_touched` meets its contract: by the test of the index. Assumes nothing.
use mathlib.Core.Path.{ap, ◌∙◌}
use Rattle.zone.specs.Zone.{or_at}
use Rattle.line_isect.proofs.Cases.{put_inside, put_out}
use Rattle.line_isect.proofs.put_touched.Goals as goal

pub returns-then-xs-i : goal.returns-then-xs-i
returns-then-xs-i c = let a = c.args in
    put_out a.place a.at a.xs.now a.ys.now a.flags.now c.if-xs-i.true

pub returns : goal.returns
returns c = let a = c.args in
    put_inside a.place a.at a.xs.now a.ys.now a.flags.now c.if-xs-i.false c.put_at.ensures (c.or_at.ensures ∙ ap (or_at a.flags.now a.at) c.touch_bits.ensures)
