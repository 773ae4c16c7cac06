-- `outline_print::print_outline` meets its contract: the answer's line, then the outline, in room enough. Assumes nothing.
use mathlib.Core.Path.{◌≡◌}
use Prim.Native.Nat.{◌<◌, ◌≤◌, ◌^◌}
use native.Mathlib.Omega.{arith}
use lib.ListN.{length}
use Rattle.record_print.proofs.Room.{answer_most}
use Rattle.record_print.specs.Print.{answer_line, blank, room}
use Rattle.record_run.specs.After.{shelved}
use Rattle.record_replay.specs.Shelf.{shelf_within}
use Rattle.outline_print.proofs.Printed.{few_contours, few_points, printed, printed_refused, short_outline}
use Rattle.outline_print.proofs.print_outline.Goals as goal
use Rattle.outline_print.proofs.print_outline.Goals.{After-replay_within-said}

-- ---- what the replay says
said : (c : After-replay_within-said) → shelved c.replay_within-said.result c.replay_within-said.new.out ≡ shelf_within c.args.rules room c.args.bytes.now blank
unfolding blank
said c = c.replay_within-said.ensures

fits : (c : After-replay_within-said) → let r = c.replay_within-said.result in (r.number < 2 ^ 32) × (r.place < 2 ^ 64) × (r.lines < 2 ^ 64) × (r.detail < 2 ^ 64)
fits c = omega arith

short : (c : After-replay_within-said) → length (answer_line c.replay_within-said.result) ≤ 74
short c = let f = fits c in answer_most c.replay_within-said.result f.0 f.1 f.2 f.3

pub put_answer-next-requires : goal.put_answer-next-requires
put_answer-next-requires c = omega (arith, short (goal.at.put_answer-next-requires c).After-replay_within-said)

pub put_record-requires : goal.put_record-requires
put_record-requires c = let a = c.args in
    let p = c.put_answer-next in
    let points = few_points a.rules a.bytes.now (said (goal.at.put_record-requires c).After-replay_within-said) in record { points_bound = points; contours_bound = few_contours a.rules a.bytes.now (said (goal.at.put_record-requires c).After-replay_within-said); l_in_bounds = omega (arith, p.ensures.behind, p.auto.text, short (goal.at.put_record-requires c).After-replay_within-said, short_outline a.rules a.bytes.now (said (goal.at.put_record-requires c).After-replay_within-said)) }

pub returns-then-said-le1 : goal.returns-then-said-le1
returns-then-said-le1 c = let a = c.args in let all = printed a.rules a.bytes.now (said (goal.at.returns-then-said-le1 c).After-replay_within-said) c.if-said-le1.true c.put_answer-next.ensures c.put_record.ensures (short (goal.at.returns-then-said-le1 c).After-replay_within-said) (omega arith) in
    record { value = all.0; front = all.1.0; text_after = all.1.1 }

pub returns-else-said-le1 : goal.returns-else-said-le1
returns-else-said-le1 c = let a = c.args in let all = printed_refused a.rules a.bytes.now (said (goal.at.returns-else-said-le1 c).After-replay_within-said) c.if-said-le1.false c.put_answer-next.ensures (short (goal.at.returns-else-said-le1 c).After-replay_within-said) (omega arith) in
    record { value = all.0; front = all.1.0; text_after = all.1.1 }
