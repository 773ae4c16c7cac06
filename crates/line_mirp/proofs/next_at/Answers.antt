-- `line_mirp::next_at` meets its contract: it is what its calls ensure, put together. Assumes nothing.
use lib.IntN.{pos}
use lib.ListN.{get_or}
use Rattle.int.proofs.Words.{back32}
use Rattle.line_mirp.proofs.Cases.{next_by}
use Rattle.line_mirp.proofs.next_at.Goals as goal

pub returns : goal.returns
returns c = next_by (get_or c.args.operands.now 0 (pos 0))
    (back32 c.coordinate_or_0.result c.coordinate_or_0.type_inv)
    c.coordinate_or_0.ensures
    c.wrapping_add.ensures
    (back32 c.wrapping_add.result c.wrapping_add.type_inv)
    c.as_index.ensures
