-- `words::store` meets its contract: what is written so far and what is left make the whole. Assumes nothing.
use Rattle.words.proofs.Storing.{mapped_none, mapped_start, mapped_turn}
use Rattle.words.proofs.store.Goals as goal

pub loop-i-init : goal.loop-i-init
loop-i-init g c = mapped_start g.T.Kept.to_word c.args.first c.args.items.now c.args.out.now c.has_room.ensures c.if-has_room.true

pub loop-i-preserved : goal.loop-i-preserved
loop-i-preserved g c =
    mapped_turn g.T.Kept.to_word c.args.first c.args.items.now c.args.out.now c.loop-i.invariant c.loop-i-test.true c.index-items-i.is c.to_word.ensures c.put_word.ensures

pub returns-else-has_room : goal.returns-else-has_room
returns-else-has_room g c = mapped_none g.T.Kept.to_word c.args.first c.args.items.now c.args.out.now c.has_room.ensures c.if-has_room.false
