-- `exports::is_call` meets its contract. Assumes nothing.
use Rattle.exports.specs.Call.{is_call}
use Rattle.exports.proofs.is_call.Goals as goal

pub returns : goal.returns
unfolding is_call
returns c = cc
