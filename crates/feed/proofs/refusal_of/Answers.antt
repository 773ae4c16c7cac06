-- `feed::refusal_of` meets its contract, by the answer. Assumes nothing.
use mathlib.Core.Path.{◌∙◌, ap, sym}
use Rattle.run_lines.specs.declared.Answer.{Answer}
use Rattle.feed.specs.Steps.{refusal_by}
use Rattle.feed.proofs.Lines.{no_refusal, own_refusal}
use Rattle.feed.proofs.refusal_of.Goals as goal

pub returns-then-whole-gt0 : goal.returns-then-whole-gt0
returns-then-whole-gt0 c = sym (ap (λ (a : Answer). refusal_by a c.args.whole) c.in-Refused.is ∙ own_refusal _ c.args.whole c.if-whole-gt0.true)

pub returns-else-whole-gt0 : goal.returns-else-whole-gt0
returns-else-whole-gt0 c = sym (ap (λ (a : Answer). refusal_by a c.args.whole) c.in-Refused.is ∙ no_refusal _ c.args.whole c.if-whole-gt0.false)

pub returns-in-Finished : goal.returns-in-Finished
unfolding refusal_by
returns-in-Finished c = sym (ap (λ (a : Answer). refusal_by a c.args.whole) c.in-Finished.is)

pub returns-in-OutOfBudget : goal.returns-in-OutOfBudget
unfolding refusal_by
returns-in-OutOfBudget c = sym (ap (λ (a : Answer). refusal_by a c.args.whole) c.in-OutOfBudget.is)
