-- `record_run::say` meets its contract: the answer by number and detail. Assumes nothing.
use Rattle.record_run.proofs.Cases.{said}
use Rattle.record_run.proofs.say.Goals as goal

pub returns : goal.returns
returns c =
    said c.args.l c.args.outcome c.args.size c.number.ensures c.detail.ensures
