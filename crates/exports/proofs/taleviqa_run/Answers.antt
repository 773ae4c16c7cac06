-- `exports::taleviqa_run` meets its contract: a call that is taken is a run between reading and writing the state, by the rules that its number names; any other is refused. Assumes
-- nothing.
use mathlib.Core.Path.{◌∙◌, sym}
use borrow.Author.Tests.{not-false, not-true}
use Rattle.line.specs.World.{Fixed, fixed}
use Rattle.rules.specs.declared.Rules.{Rules}
use Rattle.exports.proofs.Cases.{refused, taken, unnamed}
use Rattle.exports.proofs.taleviqa_run.Goals as goal
use Rattle.exports.proofs.taleviqa_run.Goals.{Start}

-- what lines only read, by any rules
abbrev lent : Start → Rules → Fixed
lent s by = let a = s.args in fixed by a.controls.now a.gux.now a.guy.now a.gox.now a.goy.now a.contours.now

pub returns-then-not-is_call : goal.returns-then-not-is_call
returns-then-not-is_call c = let a = c.args in
    refused (lent (goal.at.returns-then-not-is_call c).Start) a.sheet.now a.budget a.start a.state.now a.answer.now
    a.gx.now a.gy.now a.gflags.now a.tox.now a.toy.now a.tx.now a.ty.now a.tflags.now _ _ _
    _ (sym c.by_number-named.ensures ∙ c.in-Some.is) (sym c.is_call.ensures ∙ not-true _ c.if-not-is_call.true-raw) c.refuse-then-not-is_call.ensures.value c.refuse-then-not-is_call.ensures.answer_after

pub returns-in-None : goal.returns-in-None
returns-in-None c = let a = c.args in
    unnamed (lent (goal.at.returns-in-None c).Start) a.sheet.now a.budget a.start a.state.now a.answer.now
    a.gx.now a.gy.now a.gflags.now a.tox.now a.toy.now a.tx.now a.ty.now a.tflags.now _ _ _
    (sym c.by_number-named.ensures ∙ c.in-None.is) c.refuse.ensures.value c.refuse.ensures.answer_after

pub returns-else-not-is_call : goal.returns-else-not-is_call
returns-else-not-is_call c = let a = c.args in
    taken (lent (goal.at.returns-else-not-is_call c).Start) a.sheet.now a.budget a.start a.state.now a.answer.now
    a.gx.now a.gy.now a.gflags.now a.tox.now a.toy.now a.tx.now a.ty.now a.tflags.now _
    _ c.say.new.answer c.run-out.result _ c.read_state-s.result c.write_state.new.words
    _ _ _ _ _ _ _ _
    (sym c.by_number-named.ensures ∙ c.in-Some.is) (sym c.is_call.ensures ∙ not-false _ c.if-not-is_call.false-raw) c.read_state-s.ensures c.run-out.ensures c.say.ensures.value c.write_state.ensures c.say.ensures.answer_after
