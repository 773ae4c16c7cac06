-- `outline_calls::write_edges` meets its contract: by whether there is a box. Assumes nothing.
use mathlib.Core.Path.{sym, ap, ◌∙◌}
use Rattle.outline_calls.specs.Slots.{edges_left}
use Rattle.outline_calls.proofs.write_edges.Goals as goal

-- src/lib.rt:185:1
pub returns-in-Some : goal.returns-in-Some
returns-in-Some c = let a = c.args in
    c.write_four.ensures ∙ sym (ap (edges_left a.edges.now) c.in-Some.is)
