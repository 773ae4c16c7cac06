-- `line_set::set_by_operand` meets its contract: by the opcode it is what the call ensures. Assumes nothing.
use mathlib.Core.Path.{ap, ◌∙◌}
use borrow.Author.Tests.{lt-ltb, le-ltb}
use mir.Facts.{to_z-of_z}
use lib.Dec.{eqb}
use Rattle.graphics.specs.State.{with_round}
use Rattle.int.specs.Word.{index_of}
use Rattle.super_round.specs.Selector.{super_of}
use Rattle.line.specs.Line.{done_with}
use Rattle.line_set.specs.Setters.{reference_by, zone_by, loop_by, operand_by}
use Rattle.line_set.proofs.set_by_operand.Goals as goal

pub returns-then-opcode-lt19 : goal.returns-then-opcode-lt19
unfolding operand_by
returns-then-opcode-lt19 c = rw (lt-ltb c.args.opcode 0x13 c.if-opcode-lt19.true) (c.done.ensures ∙ ap done_with (c.set_reference.ensures ∙ ap (reference_by c.args.s c.args.opcode) (c.as_index.ensures ∙ ap index_of (to_z-of_z c.ranges.word))))

pub returns-then-opcode-lt23 : goal.returns-then-opcode-lt23
unfolding operand_by
returns-then-opcode-lt23 c = rw (le-ltb c.args.opcode 0x13 c.if-opcode-lt19.false, lt-ltb c.args.opcode 0x17 c.if-opcode-lt23.true) (c.set_zone.ensures ∙ ap (zone_by c.args.s c.args.opcode) (to_z-of_z c.ranges.word))

pub returns-then-opcode-lt24 : goal.returns-then-opcode-lt24
unfolding operand_by
returns-then-opcode-lt24 c = rw (le-ltb c.args.opcode 0x13 c.if-opcode-lt19.false, le-ltb c.args.opcode 0x17 c.if-opcode-lt23.false, lt-ltb c.args.opcode 0x18 c.if-opcode-lt24.true) (c.set_loop.ensures ∙ ap (loop_by c.args.s) (to_z-of_z c.ranges.word))

pub returns-else-opcode-lt24 : goal.returns-else-opcode-lt24
unfolding operand_by
returns-else-opcode-lt24 c = let word-is = ap (super_of (eqb c.args.opcode 0x77)) (to_z-of_z c.ranges.word) in
    rw (le-ltb c.args.opcode 0x13 c.if-opcode-lt19.false, le-ltb c.args.opcode 0x17 c.if-opcode-lt23.false, le-ltb c.args.opcode 0x18 c.if-opcode-lt24.false) (c.done-else-opcode-lt24.ensures ∙ ap done_with (c.with_round.ensures ∙ ap (with_round c.args.s) (c.super_round.ensures ∙ word-is)))
