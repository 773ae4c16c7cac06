-- `line_alignrp::alignrp` meets its contract: the loop is what `align_each` ensures, and then the counter is put back. Assumes nothing.
use mathlib.Core.Path.{ap, ◌∙◌}
use Rattle.graphics.specs.declared.GraphicsState.{GraphicsState}
use Rattle.line.specs.World.{world}
use Rattle.line_alignrp.proofs.Bridge.{alignrp_is}
use Rattle.line_alignrp.proofs.alignrp.Goals as goal

pub align_each-call-requires : goal.align_each-call-requires
align_each-call-requires c = c.requires

pub returns : goal.returns
returns c = let a = c.args in
    λ f opcode tox toy. alignrp_is f opcode a.operands.now (world a.s a.gx.now a.gy.now a.gflags.now tox toy a.tx.now a.ty.now a.tflags.now)
    (ap (λ (s : GraphicsState). record { call = c.align_each-call.result; state = s }) (c.by_words.ensures ∙ c.reset_loop_counter.ensures))
    c.align_each-call.ensures
