-- `outline_calls::write_four` meets its contract: four slots, one after the other. Assumes nothing.
use Rattle.outline_calls.proofs.Cases.{four_set}
use Rattle.outline_calls.proofs.write_four.Goals as goal

-- src/lib.rt:174:1
pub returns : goal.returns
returns c = let a = c.args in four_set a.numbers.now a.a a.b a.c a.d c.requires
