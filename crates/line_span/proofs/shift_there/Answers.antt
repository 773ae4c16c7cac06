-- `line_span::shift_there` meets its contract: list by list. Assumes nothing.
use native.Mathlib.Omega.{arith}
use Rattle.int.proofs.Words.{back32}
use Rattle.line_steps.specs.Loop.{points}
use Rattle.line_span.proofs.Walk.{list_after_list}
use Rattle.line_span.proofs.shift_there.Goals as goal

pub move_run-requires : goal.move_run-requires
move_run-requires c = (c.requires.2, c.requires.3)

pub move_run-requires-2 : goal.move_run-requires-2
move_run-requires-2 c = let p = c.requires in (p.2, omega (arith, p.0, p.3))

pub touch_run-requires : goal.touch_run-requires
touch_run-requires c = let p = c.requires in (p.2, omega (arith, p.1, p.3))

pub returns : goal.returns
returns c = let a = c.args in
    list_after_list a.m a.start a.end (points a.xs.now a.ys.now a.flags.now)
    (back32 _ (omega (arith, c.struct_told-1.given.1.0))) c.move_run.ensures
    (back32 _ (omega (arith, c.struct_told-2-1.given.1.1.1.0))) c.move_run-2.ensures
    c.touch_run.ensures
