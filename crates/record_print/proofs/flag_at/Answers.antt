-- `record_print::flag_at` meets its contract: the low byte of the flag's word. Assumes nothing.
use mathlib.Core.Path.{◌∙◌, ap}
use Prim.Native.Nat.{◌%◌, ◌+◌, ℕ}
use Rattle.words.specs.Lists.{word}
use Rattle.record_print.proofs.flag_at.Goals as goal

pub returns : goal.returns
returns c =
    let a = c.args in
    ap (λ (w : ℕ). w % 256) (c.word.ensures ∙ ap (λ (k : ℕ). word a.out.now (k + a.i)) c.place.ensures)
