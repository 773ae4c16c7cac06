-- `zone::fetch` meets its contract: by the test of the index; each coordinate is read back as it was. Assumes nothing.
use mathlib.Core.Path.{refl}
use lib.IntN.{pos}
use lib.ListN.{get_or}
use Rattle.int.proofs.Words.{back32}
use Rattle.zone.proofs.Cases.{fetched, not_fetched, read_as}
use Rattle.zone.proofs.fetch.Goals as goal

pub returns-then-i-xs : goal.returns-then-i-xs
returns-then-i-xs c = let a = c.args in
    fetched a.xs.now a.ys.now a.at c.if-i-xs.true (read_as (back32 (get_or a.xs.now a.at (pos 0)) c.result-1.given) refl (back32 (get_or a.ys.now a.at (pos 0)) c.result-then-i-xs-1.given) refl)

pub returns-else-i-xs : goal.returns-else-i-xs
returns-else-i-xs c = let a = c.args in not_fetched a.xs.now a.ys.now a.at c.if-i-xs.false
