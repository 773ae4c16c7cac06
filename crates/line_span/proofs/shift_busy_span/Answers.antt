-- `line_span::shift_busy_span` meets its contract: by whether the point that is kept is one of the row. Assumes nothing.
use Rattle.std.specs.Prelude.{⊤, Result}
use mathlib.Core.Path.{ap, ◌∙◌}
use Rattle.answer.proofs.Passed.{passed_on}
use Rattle.answer.specs.declared.Refusal.{Refusal}
use Rattle.line_steps.specs.Loop.{Points, ended, points}
use Rattle.line_span.proofs.Walk.{cut_done, cut_refused, none_kept}
use Rattle.line_span.proofs.shift_busy_span.Goals as goal
use Rattle.line_span.proofs.shift_busy_span.Goals.{Start}

-- the lists as they are lent
abbrev entry : Start → Points
entry b = let a = b.args in points a.xs.now a.ys.now a.flags.now

pub shift_run-requires : goal.shift_run-requires
shift_run-requires c = let p = c.requires in (p.0, p.1)

pub shift_run-requires-else-keeps-start : goal.shift_run-requires-else-keeps-start
shift_run-requires-else-keeps-start c = let p = c.requires in (p.0, p.1)

pub returns-in_err-shift_run : goal.returns-in_err-shift_run
returns-in_err-shift_run c = let a = c.args in let n = c.shift_run.new in
    ap (λ (r : Result ⊤ Refusal). ended r (points n.xs n.ys n.flags)) (passed_on _ c.from_residual.ensures.1)
    ∙ cut_refused a.m a.keeps a.kept c.requires.2 a.start a.end (entry (goal.at.returns-in_err-shift_run c).Start) c.if-keeps-start.true c.shift_run.ensures c.in_err-shift_run.was

pub returns-in_ok-shift_run : goal.returns-in_ok-shift_run
returns-in_ok-shift_run c = let a = c.args in
    cut_done a.m a.keeps a.kept c.requires.2 a.start a.end (entry (goal.at.returns-in_ok-shift_run c).Start) c.if-keeps-start.true c.shift_run.ensures c.in_ok-shift_run.was c.shift_run-then-keeps-start.ensures

pub returns-else-keeps-start : goal.returns-else-keeps-start
returns-else-keeps-start c = let a = c.args in
    c.shift_run-else-keeps-start.ensures ∙ none_kept a.m a.keeps a.kept c.requires.2 a.start a.end (entry (goal.at.returns-else-keeps-start c).Start) c.if-keeps-start.false
