-- `record_layout::place` meets its contract. The invariant: the counts so far are summed (`Summed`). Assumes nothing.
use Rattle.record_layout.proofs.Places.{Summed}
use Rattle.record_layout.proofs.place.Given as goal

abbrev pub invariant-loop-i : goal.invariant-loop-i
invariant-loop-i l = Summed l.l l.end l.at l.i
