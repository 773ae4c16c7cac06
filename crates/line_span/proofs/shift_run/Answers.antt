-- `line_span::shift_run` meets its contract: by where the row ends, and where the zone does. Assumes nothing.
use Rattle.std.specs.Prelude.{Ok, Err}
use mathlib.Core.Path.{ap, ◌∙◌}
use native.Mathlib.Nat.{le_refl}
use native.Mathlib.Omega.{arith}
use lib.ListN.{length}
use Rattle.answer.specs.declared.Refusal.TheVariants.{Point}
use Rattle.line_steps.specs.Loop.{Points, ended, points}
use Rattle.line_span.proofs.Walk.{no_points, out_at_once, out_later, there_all}
use Rattle.line_span.proofs.shift_run.Goals as goal
use Rattle.line_span.proofs.shift_run.Goals.{Start}

-- the lists as they are lent
abbrev entry : Start → Points
entry b = let a = b.args in points a.xs.now a.ys.now a.flags.now

pub returns-then-end-start : goal.returns-then-end-start
returns-then-end-start c = let a = c.args in no_points a.m a.start a.end (entry (goal.at.returns-then-end-start c).Start) c.if-end-start.true

pub shift_there-requires : goal.shift_there-requires
shift_there-requires c = let p = c.requires in (p.0, p.1, omega (arith, c.if-end-start.false), c.if-end-size.true)

pub returns-then-end-size : goal.returns-then-end-size
returns-then-end-size c = let a = c.args in
    ap (ended (Ok tt)) c.shift_there.ensures ∙ there_all a.m a.start a.end (entry (goal.at.returns-then-end-size c).Start) c.if-end-start.false c.if-end-size.true

pub returns-then-size-start : goal.returns-then-size-start
returns-then-size-start c = let a = c.args in out_at_once a.m a.start a.end (entry (goal.at.returns-then-size-start c).Start) c.if-end-start.false c.if-size-start.true

pub shift_there-requires-2 : goal.shift_there-requires-2
shift_there-requires-2 c = (c.requires.0, c.requires.1, omega (arith, c.if-size-start.false), le_refl (length c.args.xs.now))

pub returns : goal.returns
returns c = let a = c.args in
    ap (ended (Err (Point (length a.xs.now)))) c.shift_there-2.ensures ∙ out_later a.m a.start a.end (entry (goal.at.returns c).Start) c.if-size-start.false c.if-end-size.false
