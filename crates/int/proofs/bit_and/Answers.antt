-- `int::bit_and` meets its contract: the machine's `&` is that of the definition. Assumes nothing.
use mathlib.Core.Path.{refl}
use Rattle.int.specs.Word.{and32}
use Rattle.int.proofs.bit_and.Goals as goal

pub returns : goal.returns
unfolding and32
returns c = refl
