-- `line_shift::shift_one_in` meets its contract: by whether there is an operand and whether the move does anything. Assumes nothing.
use mathlib.Core.Path.{sym, ◌∙◌}
use lib.IntN.{pos}
use lib.ListN.{get_or}
use Rattle.line_steps.proofs.Walk.{read}
use Rattle.line_steps.specs.Loop.{zones}
use Rattle.line_shift.proofs.One.{one_idle, one_missing, one_moved}
use Rattle.line_shift.proofs.shift_one_in.Goals as goal

pub returns-then-operands-eq0 : goal.returns-then-operands-eq0
returns-then-operands-eq0 c = let a = c.args in
    one_missing a.m a.operands.now (zones a.gx.now a.gy.now a.gflags.now a.tx.now a.ty.now a.tflags.now) a.zone c.if-operands-eq0.true

pub returns-then-is_idle : goal.returns-then-is_idle
returns-then-is_idle c = let a = c.args in
    one_idle a.m a.operands.now c.if-operands-eq0.false (zones a.gx.now a.gy.now a.gflags.now a.tx.now a.ty.now a.tflags.now) a.zone (sym c.is_idle.ensures ∙ c.if-is_idle.true)

pub apply_in-requires : goal.apply_in-requires
apply_in-requires c = c.requires

pub returns : goal.returns
returns c = let a = c.args in
    one_moved a.m a.operands.now c.if-operands-eq0.false a.gx.now a.gy.now a.gflags.now a.tx.now a.ty.now a.tflags.now (sym c.is_idle.ensures ∙ c.if-is_idle.false) a.zone
    (read (get_or a.operands.now 0 (pos 0)) c.as_index-arg-1.given c.as_index.ensures) c.apply_in.ensures
