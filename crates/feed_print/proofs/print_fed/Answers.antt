-- `feed_print::print_fed` meets its contract: the answer's line, then the points', in room enough. Assumes nothing.
use mathlib.Core.Bool.{false, true≢false}
use mathlib.Core.Path.{◌≡◌, refl}
use Prim.Native.Nat.{◌<◌, ◌≤◌, ◌^◌}
use native.Mathlib.Omega.{arith}
use lib.ListN.{length}
use Rattle.record_run.specs.After.{shelved}
use Rattle.record_print.specs.Print.{answer_line, blank, room}
use Rattle.record_print.proofs.Room.{answer_most, glyph_most}
use Rattle.feed_record.specs.Fed.{FedRecord}
use Rattle.feed_print.proofs.Room.{points_few, printed}
use Rattle.feed_print.proofs.print_fed.Goals as goal
use Rattle.feed_print.proofs.print_fed.Goals.{After-feed_within-told}

-- ---- what the feed says
fed : (c : After-feed_within-told) → c.feed_within-told.result.failed ≡ false
    → FedRecord c.args.rules room c.args.bytes.now blank (shelved c.feed_within-told.result.said c.feed_within-told.new.out)
unfolding blank
fed c e = c.feed_within-told.ensures e

fits : (c : After-feed_within-told) → let r = c.feed_within-told.result.said in (r.number < 2 ^ 32) × (r.place < 2 ^ 64) × (r.lines < 2 ^ 64) × (r.detail < 2 ^ 64)
fits c = omega arith

short : (c : After-feed_within-told) → length (answer_line c.feed_within-told.result.said) ≤ 74
short c = let f = fits c in answer_most c.feed_within-told.result.said f.0 f.1 f.2 f.3

pub returns-then-told : goal.returns-then-told
returns-then-told c = record { front = (omega arith, refl); fed_print = λ e. absurd (true≢false e) }

pub put_answer-next-requires : goal.put_answer-next-requires
put_answer-next-requires c = omega (arith, short (goal.at.put_answer-next-requires c).After-feed_within-told)

pub put_points-size-requires : goal.put_points-size-requires
put_points-size-requires c =
    omega (arith, c.put_answer-next.ensures.behind, c.put_answer-next.auto.text, short (goal.at.put_points-size-requires c).After-feed_within-told, points_few (fed (goal.at.put_points-size-requires c).After-feed_within-told c.if-told.false), glyph_most c.feed_within-told.new.out c.feed_within-told.result.said.layout)

pub returns-clause-front : goal.returns-clause-front
returns-clause-front c = let x = printed (fed (goal.at.returns-clause-front c).After-feed_within-told c.if-told.false) c.put_answer-next.ensures c.put_points-size.ensures (short (goal.at.returns-clause-front c).After-feed_within-told) (omega arith) in x.0

pub returns-clause-fed_print : goal.returns-clause-fed_print
returns-clause-fed_print c = let x = printed (fed (goal.at.returns-clause-fed_print c).After-feed_within-told c.if-told.false) c.put_answer-next.ensures c.put_points-size.ensures (short (goal.at.returns-clause-fed_print c).After-feed_within-told) (omega arith) in λ e. x.1
