-- `exports::say` meets its contract: by what the three calls ensure. Assumes nothing.
use mathlib.Core.Path.{◌∙◌, ap₂}
use Prim.Native.Nat.{ℕ}
use Rattle.exports.specs.Call.{answered}
use Rattle.exports.proofs.say.Goals as goal

pub returns : goal.returns
returns c = let a = c.args in record { value = c.number-number.ensures; answer_after = ◌∙◌ {b = answered c.number-number.result a.out.place a.out.lines c.detail.result a.answer.now} c.write_answer.ensures (ap₂ (λ (k l : ℕ). answered k a.out.place a.out.lines l a.answer.now) c.number-number.ensures c.detail.ensures) }
