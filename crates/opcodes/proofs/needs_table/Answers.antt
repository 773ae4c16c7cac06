-- `opcodes::needs_table` meets its contract: antt computes the rows' entry at each of the 256 opcodes. Assumes nothing.
use mathlib.Core.Path.{refl}
use Rattle.opcodes.specs.Table.{need_of, needs_table, row_of}
use Rattle.opcodes.proofs.needs_table.Goals as goal

pub returns : goal.returns
unfolding needs_table need_of row_of
returns c = refl
