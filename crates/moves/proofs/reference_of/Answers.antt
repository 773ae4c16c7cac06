-- `moves::reference_of` meets its contract: by the opcode's lowest bit, and by the pointer that is read. Assumes nothing.
use mathlib.Core.Path.{ap}
use borrow.Author.Tests.{eq-eqb, ne_eqb}
use Rattle.graphics.specs.declared.ZonePointer.{ZonePointer}
use Rattle.moves.specs.Displacement.{reference_of}
use Rattle.moves.proofs.reference_of.Goals as goal

pub returns-then-opcode-eq0 : goal.returns-then-opcode-eq0
unfolding reference_of
returns-then-opcode-eq0 c = let i = c in let s = c in
    rw (eq-eqb _ 0 i.if-opcode-eq0.true) (ap (λ (zone : ZonePointer). record { zone = zone; at = s.args.s.references.rp2 }) c.zp1.ensures)

pub returns-else-opcode-eq0 : goal.returns-else-opcode-eq0
unfolding reference_of
returns-else-opcode-eq0 c = let i = c in let s = c in
    rw (ne_eqb _ 0 i.if-opcode-eq0.false) (ap (λ (zone : ZonePointer). record { zone = zone; at = s.args.s.references.rp1 }) c.zp0.ensures)
