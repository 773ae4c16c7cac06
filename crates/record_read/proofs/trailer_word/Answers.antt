-- `record_read::trailer_word` meets its contract. Assumes nothing.
use Rattle.record_read.proofs.Seen.{trailer_read}
use Rattle.record_read.proofs.trailer_word.Goals as goal

pub returns : goal.returns
returns c =
    trailer_read c.args.bytes.now c.args.k c.word_count.ensures c.less.ensures c.word.ensures
