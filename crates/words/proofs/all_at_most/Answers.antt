-- `words::all_at_most` meets its contract: the answer for all is that for what is left. Assumes nothing.
use Rattle.std.proofs.Common.{◌∙◌, arith}
use Rattle.words.proofs.Parts.{next_within}
use Rattle.words.proofs.all_at_most.Goals as goal

pub loop-i-preserved : goal.loop-i-preserved
loop-i-preserved c = let a = c.args in
    let v = c.loop-i in
    v.invariant ∙ next_within a.bytes.now a.first a.count v.i c.loop-i-test.true a.most (omega (arith, c.if-word-most.false, c.word.ensures))
