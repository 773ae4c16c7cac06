-- `exports::taleviqa_outline_begin` meets its contract: it is the call of outline_calls under its name for C. Assumes nothing.
use Rattle.exports.proofs.taleviqa_outline_begin.Goals as goal

pub returns : goal.returns
returns c = c.begin_call.ensures
