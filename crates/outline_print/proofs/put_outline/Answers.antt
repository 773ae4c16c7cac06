-- `outline_print::put_outline` meets its contract: step by step, and the box at the end. Assumes nothing.
use Rattle.outline_steps.proofs.OneByOne.{close_of}
use Rattle.outline_steps.specs.Outline.{glyph}
use Rattle.outline_print.proofs.Outlined.{box_fits, draw_end, draw_on, draw_start, less, step_fits, step_near}
use Rattle.outline_print.proofs.put_outline.Goals as goal

pub loop-s-init : goal.loop-s-init
loop-s-init c = let a = c.args in
    draw_start (glyph a.xs.now a.ys.now a.flags.now a.contours.now) a.at a.text.now c.first_walk-walk.ensures c.requires.contours_in_bounds

pub put_stroke-next-requires : goal.put_stroke-next-requires
put_stroke-next-requires c = let a = c.args in let l = c.loop-s in let x = c.walk_on-walked.ensures in
    record { d_value = step_near (close_of (glyph a.xs.now a.ys.now a.flags.now a.contours.now) c.requires.contours_value) l.invariant x c.in-Some.is; d_in_bounds = step_fits (close_of (glyph a.xs.now a.ys.now a.flags.now a.contours.now) c.requires.contours_value) l.invariant x c.in-Some.is }

pub loop-s-smaller : goal.loop-s-smaller
loop-s-smaller c = let a = c.args in let l = c.loop-s in let x = c.walk_on-walked.ensures in
    less (close_of (glyph a.xs.now a.ys.now a.flags.now a.contours.now) c.requires.contours_value) l.invariant x c.in-Some.is

pub loop-s-preserved : goal.loop-s-preserved
loop-s-preserved c = let a = c.args in let l = c.loop-s in let x = c.walk_on-walked.ensures in
    draw_on (close_of (glyph a.xs.now a.ys.now a.flags.now a.contours.now) c.requires.contours_value) l.invariant x c.in-Some.is c.put_stroke-next.ensures c.with_stroke-framed.ensures

pub put_box-requires : goal.put_box-requires
put_box-requires c = let a = c.args in let l = c.loop-s in let x = c.walk_on-walked.ensures in record { all_near = l.invariant.near; f_in_bounds = box_fits (close_of (glyph a.xs.now a.ys.now a.flags.now a.contours.now) c.requires.contours_value) l.invariant x c.in-None.is }

pub returns-in-None : goal.returns-in-None
returns-in-None c = let a = c.args in let l = c.loop-s in let x = c.walk_on-walked.ensures in
    draw_end (close_of (glyph a.xs.now a.ys.now a.flags.now a.contours.now) c.requires.contours_value) l.invariant x c.in-None.is c.put_box.ensures
