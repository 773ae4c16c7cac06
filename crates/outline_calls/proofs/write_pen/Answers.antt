-- `outline_calls::write_pen` meets its contract: nine words, one after the other. Assumes nothing.
use mathlib.Core.Path.{◌∙◌}
use mathlib.Core.List.{[], ◌∷◌}
use native.Mathlib.Omega.{arith}
use lib.ListN.{length-set}
use Rattle.outline_calls.proofs.Cases.{nine_set}
use Rattle.outline_calls.proofs.write_pen.Goals as goal

-- src/lib.rt:145:5
pub bounds-words-4 : goal.bounds-words-4
bounds-words-4 c = simp length-set (omega arith)

-- src/lib.rt:146:5
pub bounds-words-5 : goal.bounds-words-5
bounds-words-5 c = simp length-set (omega arith)

-- src/lib.rt:147:5
pub bounds-words-6 : goal.bounds-words-6
bounds-words-6 c = simp length-set (omega arith)

-- src/lib.rt:148:5
pub bounds-words-7 : goal.bounds-words-7
bounds-words-7 c = simp length-set (omega arith)

-- src/lib.rt:149:5
pub bounds-words-8 : goal.bounds-words-8
bounds-words-8 c = simp length-set (omega arith)

-- src/lib.rt:131:1
pub returns : goal.returns
returns c = let a = c.args in
    let k = a.pen.walk in
    nine_set a.words.now k.contour k.past k.at k.stop k.from k.to c.stage_number-stage_word.result c.waiting_number-waiting_word.result c.boxed_number-boxed_word.result c.requires
    ∙ (λ i. k.contour ∷ k.past ∷ k.at ∷ k.stop ∷ k.from ∷ k.to ∷ c.stage_number-stage_word.ensures i ∷ c.waiting_number-waiting_word.ensures i ∷ c.boxed_number-boxed_word.ensures i ∷ [])
