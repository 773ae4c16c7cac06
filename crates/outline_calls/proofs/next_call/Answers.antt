-- `outline_calls::next_call` meets its contract: by whether the slots are a call's. Assumes nothing.
use mathlib.Core.Path.{sym, ◌∙◌}
use Rattle.outline_steps.specs.Outline.{glyph}
use Rattle.outline_calls.proofs.Cases.{nine_words, four_edges, called, not_called}
use Rattle.outline_calls.proofs.next_call.Goals as goal

-- src/lib.rt:259:13
pub pen_in-pen-requires : goal.pen_in-pen-requires
pen_in-pen-requires c = let a = c.args in
    record { words_len = nine_words a.words.now a.edges.now a.step.now a.numbers.now (sym c.is_call.ensures ∙ c.if-is_call.true); edges_len = four_edges a.words.now a.edges.now a.step.now a.numbers.now (sym c.is_call.ensures ∙ c.if-is_call.true) }

-- src/lib.rt:261:9
pub leave-requires : goal.leave-requires
leave-requires c = sym c.is_call.ensures ∙ c.if-is_call.true

-- src/lib.rt:246:1
pub returns-then-is_call : goal.returns-then-is_call
returns-then-is_call c = let a = c.args in
    called a.words.now a.edges.now a.step.now a.numbers.now (glyph a.xs.now a.ys.now a.flags.now a.contours.now) (sym c.is_call.ensures ∙ c.if-is_call.true) c.pen_in-pen.ensures c.next-asked.ensures c.leave.ensures

-- src/lib.rt:246:1
pub returns-else-is_call : goal.returns-else-is_call
returns-else-is_call c = let a = c.args in
    not_called a.words.now a.edges.now a.step.now a.numbers.now (glyph a.xs.now a.ys.now a.flags.now a.contours.now) (sym c.is_call.ensures ∙ c.if-is_call.false)
