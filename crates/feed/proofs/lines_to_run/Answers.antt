-- `feed::lines_to_run` meets its contract: few words, or lines that were counted. Assumes nothing.
use native.Mathlib.Omega.{arith}
use lib.ListN.{length-drop}
use Rattle.feed.specs.Steps.Runs.{Few, Many}
use Rattle.feed.proofs.lines_to_run.Goals as goal

pub overflow_sub-sheet : goal.overflow_sub-sheet
overflow_sub-sheet c = omega (arith, c.requires)

pub returns-then-sheet-at-le-LINE : goal.returns-then-sheet-at-le-LINE
returns-then-sheet-at-le-LINE c = Few (omega (arith, c.if-sheet-at-le-LINE.true, length-drop c.args.at c.args.sheet.now)) (omega arith)

pub returns : goal.returns
returns c = Many c.lines_ahead-ahead.result.end c.lines_ahead-ahead.ensures
