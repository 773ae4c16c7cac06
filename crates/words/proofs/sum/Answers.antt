-- `words::sum` meets its contract: what is summed so far and what is left make the whole. Assumes nothing.
use Rattle.std.proofs.Common.{ℕ, ◌+◌, ◌%◌, ◌^◌, ap}
use Rattle.words.specs.Lists.{sum_of, word}
use Rattle.words.proofs.Parts.{left, next_sum, sum_turn}
use Rattle.words.proofs.sum.Goals as goal

pub loop-i-preserved : goal.loop-i-preserved
loop-i-preserved c = let a = c.args in
    let v = c.loop-i in
    sum_turn (word a.bytes.now (0 + v.i)) (sum_of (left a.bytes.now 0 a.count (v.i + 1))) v.invariant (next_sum a.bytes.now 0 a.count v.i c.loop-i-test.true)
    (ap (λ (w : ℕ). (v.sum + w) % 2 ^ 32) c.word-sum.ensures)
