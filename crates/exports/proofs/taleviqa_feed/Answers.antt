-- `exports::taleviqa_feed` meets its contract: it is `feed_from` of feed_reader, from the piece's first word on, under its name for C. Assumes nothing.
use Rattle.exports.proofs.taleviqa_feed.Goals as goal

pub returns : goal.returns
returns c = c.feed_from.ensures
