-- `direct_zone::try_touch` meets its contract: by what `flags_fit` says. Assumes nothing.
use Rattle.zone.proofs.Tried.{within, outside}
use Rattle.direct_zone.proofs.try_touch.Goals as goal

pub returns-then-flags_fit : goal.returns-then-flags_fit
returns-then-flags_fit c = let t = c in let i = t in within _ i.flags_fit.ensures i.if-flags_fit.true t.touch.ensures

pub returns-else-flags_fit : goal.returns-else-flags_fit
returns-else-flags_fit c = outside _ _ c.flags_fit.ensures c.if-flags_fit.false
