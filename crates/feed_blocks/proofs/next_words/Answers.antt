-- A block came behind the bytes of a word that was begun.
use Rattle.std.proofs.Common.{take, sym, ◌∙◌, take-take}
use Rattle.feed_blocks.proofs.Bytes.{came}
use Rattle.feed_blocks.proofs.next_words.Goals as goal

pub returns-clause-came : goal.returns-clause-came
returns-clause-came c _ =
    let r = c.read_behind-filled in
    let t = c.take_words-count in
    came c.args.begun (take r.result.size r.new.block) (sym r.ensures.block_unchanged ∙ sym (take-take _ _ _ r.ensures.begun_le_size)) t.ensures.words_after t.ensures.block_after
