-- `feed::after_run` meets its contract, by the refusal that the run came to. Assumes nothing.
use Prim.Native.Nat.{◌-◌}
use lib.ListN.{drop, length, take}
use Rattle.feed_look.proofs.Counts.{all_of}
use Rattle.feed.proofs.Calls.{ran_on, ran_refused, room_for}
use Rattle.feed.proofs.after_run.Goals as goal

pub rest-requires : goal.rest-requires
rest-requires c = let a = c.args in
    room_for (take (length a.sheet.now - a.out.place) (drop a.out.place a.sheet.now)) a.carry.now c.requires.most_line_in_bounds c.look-seen.ensures

pub returns-in-Err : goal.returns-in-Err
returns-in-Err c = let a = c.args in
    ran_refused a.origin a.out.place a.lines a.out.lines a.out.state a.sheet.now a.carry.now a.out.answer
    c.look-seen.ensures (all_of a.sheet.now a.out.place) c.words_of.ensures c.refusal_of-call.ensures c.in-Err.is c.stopped.ensures

pub returns-in-Ok : goal.returns-in-Ok
returns-in-Ok c = let a = c.args in
    ran_on a.origin a.out.place a.lines a.out.lines a.out.state a.sheet.now a.carry.now a.out.answer
    c.look-seen.ensures (all_of a.sheet.now a.out.place) c.words_of.ensures c.refusal_of-call.ensures c.in-Ok.is c.rest.ensures
