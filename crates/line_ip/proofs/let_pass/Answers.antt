-- `line_ip::let_pass` meets its contract: by the test. Assumes nothing.
use Rattle.line_ip.proofs.Cases.{let_by, refused_by}
use Rattle.line_ip.proofs.let_pass.Goals as goal

pub returns-then-pedantic : goal.returns-then-pedantic
returns-then-pedantic c = let a = c.args in refused_by a.pedantic a.why c.if-pedantic.true

pub returns-else-pedantic : goal.returns-else-pedantic
returns-else-pedantic c = let a = c.args in let_by a.pedantic a.why c.if-pedantic.false
