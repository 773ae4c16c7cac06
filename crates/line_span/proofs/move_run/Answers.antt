-- `line_span::move_run` meets its contract: by whether the axis moves. Assumes nothing.
use mir.Facts.{to_z-of_z}
use Rattle.line_span.proofs.Walk.{all_moved, not_moved}
use Rattle.line_span.proofs.move_run.Goals as goal

pub add_run-requires : goal.add_run-requires
add_run-requires c = c.requires

pub returns-then-moves : goal.returns-then-moves
returns-then-moves c = let a = c.args in
    all_moved a.by a.start a.end a.list.now c.if-moves.true (to_z-of_z c.ranges.by) c.add_run.ensures

pub returns-else-moves : goal.returns-else-moves
returns-else-moves c = let a = c.args in not_moved a.by a.start a.end a.list.now c.if-moves.false
