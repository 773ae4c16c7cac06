-- `line_ip::any_twilight` meets its contract: it is what its calls ensure, put together. Assumes nothing.
use Rattle.line_ip.proofs.Cases.{any_is}
use Rattle.line_ip.proofs.any_twilight.Goals as goal

pub returns : goal.returns
returns c = any_is c.args.p c.is_twilight.ensures c.is_twilight-2.ensures c.is_twilight-3.ensures
