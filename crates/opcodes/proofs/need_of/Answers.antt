-- `opcodes::need_of` meets its contract: the table is the rows' entries, one for each opcode. Assumes nothing.
use mathlib.Core.Path.{refl}
use native.Mathlib.Omega.{arith}
use Rattle.opcodes.specs.Table.{need_of, needs_table, row_of}
use Rattle.opcodes.proofs.Entries.{entry_in}
use Rattle.opcodes.proofs.need_of.Goals as goal

pub returns : goal.returns
unfolding needs_table need_of row_of
returns c = entry_in c.args.opcode (omega (arith, c.requires)) refl
