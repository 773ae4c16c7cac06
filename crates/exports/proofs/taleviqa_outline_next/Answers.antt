-- `exports::taleviqa_outline_next` meets its contract: it is the call of outline_calls under its name for C. Assumes nothing.
use Rattle.exports.proofs.taleviqa_outline_next.Goals as goal

pub returns : goal.returns
returns c = c.next_call.ensures
