-- `line_ip::ip` meets its contract: the points are what `interpolate_all` ensures, and the counter is put back. Assumes nothing.
use mathlib.Core.Path.{ap, ◌∙◌}
use Rattle.graphics.specs.declared.GraphicsState.{GraphicsState}
use Rattle.line.specs.World.{fixed, world}
use Rattle.line_ip.proofs.Bridge.{ip_is}
use Rattle.line_ip.proofs.ip.Goals as goal

pub interpolate_all-call-requires : goal.interpolate_all-call-requires
interpolate_all-call-requires c = c.requires

pub returns : goal.returns
returns c = let a = c.args in
    λ rules controls contours opcode. ip_is (fixed rules controls a.gux.now a.guy.now a.gox.now a.goy.now contours) opcode a.operands.now
    (world a.s a.gx.now a.gy.now a.gflags.now a.tox.now a.toy.now a.tx.now a.ty.now a.tflags.now)
    (ap (λ (s : GraphicsState). record { call = c.interpolate_all-call.result; state = s }) (c.by_words.ensures ∙ c.reset_loop_counter.ensures))
    c.interpolate_all-call.ensures
