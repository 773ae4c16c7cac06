-- `line_flip::fliprg` meets its contract: by the number of operands and by whether points are held fast; else it is what `set_through` ensures.
-- Assumes nothing.
use mathlib.Core.Path.{ap, refl}
use Rattle.line_steps.proofs.Laws.{in_words}
use Rattle.line_steps.specs.Steps.{into}
use Rattle.line.specs.World.{world}
use Rattle.line_flip.proofs.Cases.{too_few, none_set, range_set}
use Rattle.line_flip.proofs.fliprg.Goals as goal

pub returns-then-operands-lt2 : goal.returns-then-operands-lt2
returns-then-operands-lt2 c = let a = c.args in
    λ f gx gy tox toy tx ty tflags. let w = world a.s gx gy a.gflags.now tox toy tx ty tflags in
    too_few f a.opcode a.operands.now w c.if-operands-lt2.true (ap (into w) c.refused.ensures)

pub returns-then-held_fast : goal.returns-then-held_fast
returns-then-held_fast c = let a = c.args in
    λ f gx gy tox toy tx ty tflags. let w = world a.s gx gy a.gflags.now tox toy tx ty tflags in
    none_set f a.opcode a.operands.now w c.if-operands-lt2.false c.index_at-high.ensures c.held_fast.ensures c.if-held_fast.true (ap (into w) c.done.ensures)

pub returns : goal.returns
returns c = let a = c.args in
    λ f gx gy tox toy tx ty tflags. in_words c.by_words.ensures (range_set f a.opcode a.operands.now (world a.s gx gy a.gflags.now tox toy tx ty tflags) c.if-operands-lt2.false c.index_at-high.ensures c.held_fast.ensures c.if-held_fast.false
    c.index_at-low.ensures c.is_odd.ensures c.set_through-call.ensures refl)
