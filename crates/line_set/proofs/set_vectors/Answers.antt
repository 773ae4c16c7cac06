-- `line_set::set_vectors` meets its contract: by the tests that led there. Assumes nothing.
use mathlib.Core.Path.{ap, ◌∙◌}
use borrow.Author.Tests.{lt-ltb, le-ltb}
use Rattle.graphics.specs.State.{all_along, measured_along, moved_along, with_vectors}
use Rattle.graphics.specs.declared.Vector.{Vector}
use Rattle.line_set.specs.Setters.{vectors_by}
use Rattle.line_set.proofs.set_vectors.Goals as goal

pub returns-then-opcode-lt2 : goal.returns-then-opcode-lt2
unfolding vectors_by
returns-then-opcode-lt2 c = rw (lt-ltb c.args.opcode 0x02 c.if-opcode-lt2.true) (c.with_all_vectors.ensures ∙ ap (λ (v : Vector). with_vectors c.args.s (all_along v)) c.axis_by-axis.ensures)

pub returns-then-opcode-lt4 : goal.returns-then-opcode-lt4
unfolding vectors_by
returns-then-opcode-lt4 c = rw (le-ltb c.args.opcode 0x02 c.if-opcode-lt2.false, lt-ltb c.args.opcode 0x04 c.if-opcode-lt4.true) (c.with_projection_vectors.ensures ∙ ap (λ (v : Vector). with_vectors c.args.s (measured_along c.args.s.vectors v)) c.axis_by-axis.ensures)

pub returns-else-opcode-lt4 : goal.returns-else-opcode-lt4
unfolding vectors_by
returns-else-opcode-lt4 c = rw (le-ltb c.args.opcode 0x02 c.if-opcode-lt2.false, le-ltb c.args.opcode 0x04 c.if-opcode-lt4.false) (c.with_freedom_vector.ensures ∙ ap (λ (v : Vector). with_vectors c.args.s (moved_along c.args.s.vectors v)) c.axis_by-axis.ensures)
