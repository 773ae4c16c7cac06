-- `outline_steps::next` meets its contract: by what the walk came to. Assumes nothing.
use mathlib.Core.Path.{sym, ap, ◌∙◌}
use Rattle.outline_steps.specs.Pen.{handed, next_of}
use Rattle.outline_steps.proofs.next.Goals as goal

-- src/lib.rt:305:1
pub returns-in-Some : goal.returns-in-Some
unfolding next_of
returns-in-Some c = let s = c in let a = s.args in
    let w = c in
    c.hand_over.ensures ∙ sym (ap (handed a.pen) (sym w.walk_on-walked.ensures ∙ c.in-Some.is))

-- src/lib.rt:305:1
pub returns-in-None : goal.returns-in-None
unfolding next_of
returns-in-None c = let s = c in let a = s.args in
    let w = c in
    sym (ap (handed a.pen) (sym w.walk_on-walked.ensures ∙ c.in-None.is))
