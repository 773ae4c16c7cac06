-- `line_vectors::set_along` meets its contract: by the opcode it is what the call ensures. Assumes nothing.
use borrow.Author.Tests.{le-ltb, lt-ltb}
use Rattle.line_vectors.specs.Vectors.{along_at}
use Rattle.line_vectors.proofs.set_along.Goals as goal

pub returns-then-opcode-lt8 : goal.returns-then-opcode-lt8
unfolding along_at
returns-then-opcode-lt8 c = rw (lt-ltb c.args.opcode 0x08 c.if-opcode-lt8.true) c.with_projection_vectors.ensures

pub returns-else-opcode-lt8 : goal.returns-else-opcode-lt8
unfolding along_at
returns-else-opcode-lt8 c = rw (le-ltb c.args.opcode 0x08 c.if-opcode-lt8.false) c.with_freedom_vector.ensures
