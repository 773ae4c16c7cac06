-- `line_measure::settle_measured` meets its contract: by what was found, in any world. Assumes nothing.
use mathlib.Core.Path.{ap, sym, ◌∙◌}
use native.Mathlib.Omega.{arith}
use Rattle.line.specs.Line.{done_with}
use Rattle.line_steps.specs.Steps.{in_state, into}
use Rattle.int.proofs.Words.{back32}
use Rattle.line_measure.specs.Steps.{by_measured}
use Rattle.line_measure.proofs.Cases.{pushed_read}
use Rattle.line_measure.proofs.settle_measured.Goals as goal

pub returns-in-Ok : goal.returns-in-Ok
returns-in-Ok c = let a = c.args in
    λ w. pushed_read (in_state w a.s) c.in-Ok.is (back32 _ (omega (arith, c.in-Ok.known_told-1-own.given))) (ap (into w) (c.done.ensures ∙ ap done_with c.with_push.ensures))

pub returns-in-Err : goal.returns-in-Err
returns-in-Err c = let a = c.args in
    λ w. c.zero_or.ensures w ∙ sym (ap (by_measured (in_state w a.s)) c.in-Err.is)
