-- `record_read::sum_fits` meets its contract. Assumes nothing.
use Rattle.record_read.proofs.Seen.{total_seen}
use Rattle.record_read.proofs.sum_fits.Goals as goal

pub returns : goal.returns
returns c =
    total_seen c.args.bytes.now c.word_count.ensures c.less.ensures c.sum.ensures c.trailer_word.ensures
