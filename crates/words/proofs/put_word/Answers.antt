-- `words::put_word` meets its contract: there is no room, or four bytes are set. Assumes nothing.
use Rattle.std.proofs.Common.{ℕ, ◌+◌, ◌*◌, List, [], ◌∷◌, get_or, sym, ap, ◌∙◌, arith}
use Rattle.words.proofs.Storing.{as_sets, four_bytes, four_set, no_room}
use Rattle.words.proofs.put_word.Goals as goal

pub returns-then-whole-first : goal.returns-then-whole-first
returns-then-whole-first c = let a = c.args in no_room (a.first + a.i) (a.w ∷ []) a.out.now (omega arith)

pub returns : goal.returns
returns c = let a = c.args in
    let at = (a.first + a.i) * 4 in
    let l = a.out.now in
    let byte = λ (k : ℕ). ap (λ (bytes : List ℕ). get_or bytes k 0) c.to_le_bytes.ensures in
    four_set l at (byte 0) (byte 1) (byte 2) (byte 3)
    ∙ four_bytes l at a.w
    ∙ sym (as_sets (a.first + a.i) (a.w ∷ []) l (omega arith))
