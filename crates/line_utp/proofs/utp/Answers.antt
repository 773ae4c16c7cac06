-- `line_utp::utp` meets its contract: by whether the operand is there, in any world that holds the flags lent. Assumes nothing.
use mathlib.Core.Path.{ap, ◌∙◌}
use native.Mathlib.Omega.{arith}
use lib.IntN.{ℤ, pos}
use Rattle.int.proofs.Words.{back32}
use Rattle.int.specs.Word.{eq_z}
use Rattle.line_steps.proofs.Laws.{in_words}
use Rattle.line_steps.specs.Steps.{into}
use Rattle.line.specs.World.{world}
use Rattle.line_utp.specs.Steps.{untouched_in}
use Rattle.line_utp.proofs.Cases.{utp_done, utp_missing}
use Rattle.line_utp.proofs.utp.Goals as goal

pub returns-then-operands-lt1 : goal.returns-then-operands-lt1
returns-then-operands-lt1 c = let a = c.args in
    λ f opcode gx gy tox toy tx ty. let w = world a.s gx gy a.gflags.now tox toy tx ty a.tflags.now in
    utp_missing f opcode a.operands.now w c.if-operands-lt1.true (ap (into w) c.refused.ensures)

pub returns : goal.returns
returns c = let a = c.args in let f = a.s.vectors.freedom in
    λ fixed opcode gx gy tox toy tx ty. in_words c.by_words.ensures (utp_done fixed opcode a.operands.now (world a.s gx gy a.gflags.now tox toy tx ty a.tflags.now)
    c.if-operands-lt1.false c.index_at-at.ensures
    (c.equal-x.ensures ∙ ap (λ (z : ℤ). eq_z z (pos 0)) (back32 f.x (omega (arith, c.struct_told-1.given))))
    (c.equal-y.ensures ∙ ap (λ (z : ℤ). eq_z z (pos 0)) (back32 f.y (omega (arith, c.struct_told-2-1.given))))
    (c.untouch_in-call.ensures ∙ ap (untouched_in _ _ _ _ _) c.zp0-zp0.ensures))
