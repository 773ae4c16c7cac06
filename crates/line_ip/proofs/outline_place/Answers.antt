-- `line_ip::outline_place` meets its contract: by the test. Assumes nothing.
use Rattle.line_ip.proofs.Cases.{of_original, of_unscaled}
use Rattle.line_ip.proofs.outline_place.Goals as goal

pub returns-then-twilight : goal.returns-then-twilight
returns-then-twilight c = let a = c.args in
    of_original a.gux.now a.guy.now a.gox.now a.goy.now a.tox.now a.toy.now a.zone a.at c.if-twilight.true c.place_in.ensures

pub returns-else-twilight : goal.returns-else-twilight
returns-else-twilight c = let a = c.args in
    of_unscaled a.gux.now a.guy.now a.gox.now a.goy.now a.tox.now a.toy.now a.zone a.at c.if-twilight.false c.place_at.ensures
