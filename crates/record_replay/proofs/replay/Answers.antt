-- `record_replay::replay` meets its contract. Assumes nothing.
use Rattle.record_replay.proofs.replay.Goals as goal

pub returns : goal.returns
returns c = c.replay_within.ensures
