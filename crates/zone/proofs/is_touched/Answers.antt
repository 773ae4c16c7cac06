-- `zone::is_touched` meets its contract: by the test of the index, and by what `has_any` ensures. Assumes nothing.
use mathlib.Core.Path.{ap, ◌∙◌}
use lib.ListN.{get_or}
use Rattle.flags.specs.Flag.{has_any}
use Rattle.zone.proofs.Cases.{touched_in, touched_out}
use Rattle.zone.proofs.is_touched.Goals as goal

pub returns-then-i-flags : goal.returns-then-i-flags
returns-then-i-flags c = let t = c in let a = t.args in
    touched_in a.flags.now a.at a.axis t.if-i-flags.true (c.has_any.ensures ∙ ap (has_any (get_or a.flags.now a.at 0)) t.touch_bits.ensures)

pub returns-else-i-flags : goal.returns-else-i-flags
returns-else-i-flags c = let a = c.args in touched_out a.flags.now a.at a.axis c.if-i-flags.false
