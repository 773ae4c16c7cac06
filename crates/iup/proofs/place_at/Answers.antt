-- `iup::place_at` meets its contract: by whether there is such a point. Assumes nothing.
use borrow.Author.Tests.{lt-ltb, le-ltb}
use lib.IntN.{pos}
use lib.ListN.{length, get_or}
use Rattle.int.proofs.Words.{back32}
use Rattle.iup.proofs.Turn.{same_place}
use Rattle.iup.specs.Parts.{place_at}
use Rattle.iup.proofs.place_at.Goals as goal

pub returns-then-at-current : goal.returns-then-at-current
unfolding place_at
returns-then-at-current c = let a = c.args in
    rw (lt-ltb a.at (length a.current.now) c.if-at-current.true)
    (same_place (record { unscaled = get_or a.unscaled.now a.at (pos 0); original = get_or a.original.now a.at (pos 0); current = get_or a.current.now a.at (pos 0) })
    (back32 (get_or a.unscaled.now a.at (pos 0)) c.result-1.given)
    (back32 (get_or a.original.now a.at (pos 0)) c.result-then-at-current-1.given)
    (back32 (get_or a.current.now a.at (pos 0)) c.result-then-at-current-2-1.given))

pub returns-else-at-current : goal.returns-else-at-current
unfolding place_at
returns-else-at-current c = let s = c in rw (le-ltb s.args.at (length s.args.current.now) c.if-at-current.false)
