-- `run_step::step` meets its contract: by what was read off the sheet; the operands that were read lie in it. Assumes nothing.
use mathlib.Core.Path.{◌∙◌, sym}
use native.Mathlib.Omega.{arith}
use borrow.Author.Rules.{rules}
use Rattle.line.specs.World.{Fixed, World, fixed, world}
use Rattle.run_step.proofs.Steps.{not_read, operands_inside, was_done}
use Rattle.run_step.proofs.step.Goals as goal
use Rattle.run_step.proofs.step.Goals.{Start}

abbrev entry : Start → World
entry s =
    world s.args.s s.args.gx.now s.args.gy.now s.args.gflags.now s.args.tox.now s.args.toy.now s.args.tx.now s.args.ty.now s.args.tflags.now

abbrev held : Start → Fixed
held s = fixed s.args.rules s.args.controls.now s.args.gux.now s.args.guy.now s.args.gox.now s.args.goy.now s.args.contours.now

pub offset_bounds-sheet-read : goal.offset_bounds-sheet-read
offset_bounds-sheet-read c = let b = operands_inside c.args.sheet.now c.args.s.loop_counter c.args.at (sym c.decode-line.ensures ∙ c.in-Ok.is) in
    omega (arith, b.0, b.1, c.well_formed.1.1.1.0.1)

pub slice_bounds-perform-count : goal.slice_bounds-perform-count
slice_bounds-perform-count c = let b = operands_inside c.args.sheet.now c.args.s.loop_counter c.args.at (sym c.decode-line.ensures ∙ c.in-Ok.is) in
    omega (arith, b.0)

pub slice_bounds-perform-start : goal.slice_bounds-perform-start
slice_bounds-perform-start c = let b = operands_inside c.args.sheet.now c.args.s.loop_counter c.args.at (sym c.decode-line.ensures ∙ c.in-Ok.is) in
    omega (arith, b.0)

pub slice_bounds-perform-end : goal.slice_bounds-perform-end
slice_bounds-perform-end c = let b = operands_inside c.args.sheet.now c.args.s.loop_counter c.args.at (sym c.decode-line.ensures ∙ c.in-Ok.is) in
    omega (arith, b.1)

pub perform-r-requires : goal.perform-r-requires
perform-r-requires c = c.requires

pub returns-in-Err : goal.returns-in-Err
returns-in-Err c = not_read (held (goal.at.returns-in-Err c).Start) c.args.sheet.now c.args.at (entry (goal.at.returns-in-Err c).Start) c.by_words.ensures (sym c.decode-line.ensures ∙ c.in-Err.is)

pub returns-in-Ok : goal.returns-in-Ok
returns-in-Ok c = was_done (held (goal.at.returns-in-Ok c).Start) c.args.sheet.now c.args.at (entry (goal.at.returns-in-Ok c).Start) (sym c.decode-line.ensures ∙ c.in-Ok.is) c.perform-r.ensures c.land.ensures
