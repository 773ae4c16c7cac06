-- `direct_moves::entry` meets its contract: by the two tests. Assumes nothing.
use mathlib.Core.Path.{refl}
use borrow.Author.Tests.{not-true, not-false}
use Rattle.direct_moves.proofs.Cases.{entry_is}
use Rattle.direct_moves.proofs.entry.Goals as goal

pub returns-then-not-fits : goal.returns-then-not-fits
returns-then-not-fits c = let a = c.args in entry_is (not-true a.fits c.if-not-fits.true-raw) refl refl

pub returns-then-is_usable : goal.returns-then-is_usable
returns-then-is_usable c = entry_is (not-false c.args.fits c.if-not-fits.false-raw) c.is_usable.ensures c.if-is_usable.true

pub returns-else-is_usable : goal.returns-else-is_usable
returns-else-is_usable c = entry_is (not-false c.args.fits c.if-not-fits.false-raw) c.is_usable.ensures c.if-is_usable.false
