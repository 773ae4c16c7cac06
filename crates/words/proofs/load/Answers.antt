-- `words::load` meets its contract: the elements below i are the list's, and the others as they were. Assumes nothing.
use Rattle.std.proofs.Common.{length, refl, ap, ◌∙◌, arith}
use Rattle.words.proofs.Filling.{turn}
use Rattle.words.proofs.Parts.{mapped_at, mapped_length}
use Rattle.words.proofs.load.Goals as goal

pub loop-i-init : goal.loop-i-init
loop-i-init g c = record { so_far = refl; whole = mapped_length g.T.Kept.of_word c.args.bytes.now c.args.first (length c.args.out.now); size = refl }

pub loop-i-preserved : goal.loop-i-preserved
loop-i-preserved g c =
    turn (g.T.Kept.of_word 0) c.loop-i.invariant (omega arith)
    (c.of_word.ensures ∙ ap g.T.Kept.of_word c.word.ensures ∙ mapped_at g.T.Kept.of_word c.args.bytes.now c.args.first (length c.args.out.now) c.loop-i.i (omega arith))
