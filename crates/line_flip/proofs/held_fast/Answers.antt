-- `line_flip::held_fast` meets its contract: by whether high is -1, and by the marks. Assumes nothing.
use Rattle.line_flip.proofs.Cases.{up_to_last, before_last}
use Rattle.line_flip.proofs.held_fast.Goals as goal

pub returns-then-high-eq-LAST_INDEX : goal.returns-then-high-eq-LAST_INDEX
returns-then-high-eq-LAST_INDEX c = let a = c.args in up_to_last a.facts a.high c.if-high-eq-LAST_INDEX.true

pub returns : goal.returns
returns c = let a = c.args in before_last a.facts a.high c.if-high-eq-LAST_INDEX.false c.past_both_iups.ensures
