-- `line_span::shift_span` meets its contract: by whether the move is idle. Assumes nothing.
use mathlib.Core.Path.{sym, ◌∙◌}
use Rattle.line_steps.specs.Loop.{points}
use Rattle.line_span.proofs.Walk.{idle_is}
use Rattle.line_span.proofs.shift_span.Goals as goal

pub shift_busy_span-requires : goal.shift_busy_span-requires
shift_busy_span-requires c = let p = c.requires in (p.0, p.1, sym c.is_idle.ensures ∙ c.if-is_idle.false)

pub returns-then-is_idle : goal.returns-then-is_idle
returns-then-is_idle c = let a = c.args in
    idle_is a.m a.keeps a.kept a.start a.end (points a.xs.now a.ys.now a.flags.now) (sym c.is_idle.ensures ∙ c.if-is_idle.true)

pub returns-else-is_idle : goal.returns-else-is_idle
returns-else-is_idle c = c.shift_busy_span.ensures
