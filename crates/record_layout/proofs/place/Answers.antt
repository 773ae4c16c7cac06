-- `record_layout::place` meets its contract. The invariant: the counts so far are summed (`Summed`). Assumes nothing.
use Rattle.record_layout.proofs.Places.{last_place}
use Rattle.record_layout.proofs.place.Goals as goal

pub returns : goal.returns
returns c =
    let turn = c in
    last_place turn.args.k turn.loop-i.invariant c.loop-i-test.false turn.lists_before-end.ensures
