-- `record_print::print` meets its contract: the answer's line, then the points', in room enough. Assumes nothing.
use mathlib.Core.Path.{◌≡◌}
use Prim.Native.Nat.{◌<◌, ◌≤◌, ◌^◌}
use native.Mathlib.Omega.{arith}
use lib.ListN.{length}
use Rattle.record_run.specs.After.{shelved}
use Rattle.record_replay.specs.Shelf.{shelf_within}
use Rattle.record_print.specs.Print.{answer_line, blank, room}
use Rattle.record_print.proofs.Room.{answer_most, lines_few, printed}
use Rattle.record_print.proofs.print.Goals as goal
use Rattle.record_print.proofs.print.Goals.{After-replay_within-said}

-- ---- what the replay says
said : (c : After-replay_within-said) → shelved c.replay_within-said.result c.replay_within-said.new.out ≡ shelf_within c.args.rules room c.args.bytes.now blank
unfolding blank
said c = c.replay_within-said.ensures

fits : (c : After-replay_within-said) → let r = c.replay_within-said.result in (r.number < 2 ^ 32) × (r.place < 2 ^ 64) × (r.lines < 2 ^ 64) × (r.detail < 2 ^ 64)
fits c = omega arith

short : (c : After-replay_within-said) → length (answer_line c.replay_within-said.result) ≤ 74
short c = let f = fits c in answer_most c.replay_within-said.result f.0 f.1 f.2 f.3

pub put_answer-next-requires : goal.put_answer-next-requires
put_answer-next-requires c = omega (arith, short (goal.at.put_answer-next-requires c).After-replay_within-said)

pub put_points-requires : goal.put_points-requires
put_points-requires c =
    omega (arith, c.put_answer-next.ensures.behind, c.put_answer-next.auto.text, short (goal.at.put_points-requires c).After-replay_within-said, lines_few c.args.rules c.args.bytes.now (said (goal.at.put_points-requires c).After-replay_within-said))

pub returns : goal.returns
returns c =
    let all = printed c.args.rules c.args.bytes.now (said (goal.at.returns c).After-replay_within-said) c.put_answer-next.ensures c.put_points.ensures (short (goal.at.returns c).After-replay_within-said) (omega arith) in
    record { value = all.0; front = all.1.0; text_after = all.1.1 }
