-- `feed::off` meets its contract: the whole lines are run, and what is behind them is put away. Assumes nothing.
use mathlib.Core.Path.{ap}
use native.Mathlib.Omega.{arith}
use borrow.Author.Rules.{rules}
use lib.ListN.{length-drop}
use Rattle.line.specs.World.{Fixed, World, fixed, world}
use Rattle.run_lines.specs.Onward.{Ran, ran}
use Rattle.feed.proofs.Calls.{goes, off_is, off_lines}
use Rattle.feed.proofs.off.Goals as goal
use Rattle.feed.proofs.off.Goals.{Start}

abbrev held : Start → Fixed
held s = fixed s.args.rules s.args.controls.now s.args.gux.now s.args.guy.now s.args.gox.now s.args.goy.now s.args.contours.now

abbrev entry : Start → World
entry s =
    world s.args.s s.args.gx.now s.args.gy.now s.args.gflags.now s.args.tox.now s.args.toy.now s.args.tx.now s.args.ty.now s.args.tflags.now

pub lines_to_run-budget-requires : goal.lines_to_run-budget-requires
lines_to_run-budget-requires c = c.requires.at_in_bounds

pub onward-out-requires : goal.onward-out-requires
onward-out-requires c = c.requires.sound

pub after_run-requires : goal.after_run-requires
after_run-requires c = let a = c.args in
    let g = goes (held (goal.at.after_run-requires c).Start) a.sheet.now a.origin a.lines c.lines_to_run-budget.result a.at (entry (goal.at.after_run-requires c).Start) c.requires.at_in_bounds c.lines_to_run-budget.ensures a.carry.now in
    let p = ap (λ (x : Ran). x.place) c.onward-out.ensures in
    let m = ap (λ (x : Ran). x.lines) c.onward-out.ensures in
    let d = length-drop a.at a.sheet.now in record { sheet_bound = c.requires.sheet_bound; place_in_bounds = omega (arith, p, g.place); lines_bound = omega (arith, m, g.lines, d, c.requires.sheet_bound, c.requires.lines_le_most_words); most_line_in_bounds = c.requires.most_line_in_bounds }

pub returns : goal.returns
returns c = let a = c.args in
    let g = goes (held (goal.at.returns c).Start) a.sheet.now a.origin a.lines c.lines_to_run-budget.result a.at (entry (goal.at.returns c).Start) c.requires.at_in_bounds c.lines_to_run-budget.ensures a.carry.now in
    let m = ap (λ (x : Ran). x.lines) c.onward-out.ensures in
    let e = c.after_run.ensures in
    let r = ran c.onward-out.result c.onward-out.new.gx c.onward-out.new.gy c.onward-out.new.gflags c.onward-out.new.tox c.onward-out.new.toy c.onward-out.new.tx c.onward-out.new.ty c.onward-out.new.tflags in
    let l = off_lines a.origin a.lines r a.sheet.now a.carry.now e in record { tflags_after = off_is (held (goal.at.returns c).Start) a.sheet.now a.origin a.lines c.lines_to_run-budget.result a.at (entry (goal.at.returns c).Start) c.requires.at_in_bounds c.lines_to_run-budget.ensures a.carry.now r c.onward-out.ensures e; lines_bound = omega (arith, l, m, g.lines, length-drop a.at a.sheet.now) }
