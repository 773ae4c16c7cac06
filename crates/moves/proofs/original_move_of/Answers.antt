-- `moves::original_move_of` meets its contract: the step is what `step_of` ensures. Assumes nothing.
use mathlib.Core.Path.{ap, ◌∙◌}
use native.Mathlib.Omega.{arith}
use mir.Facts.{to_z-of_z}
use Rattle.int.proofs.Words.{back32}
use Rattle.moves.proofs.Cases.{original_from}
use Rattle.moves.specs.Move.{step_along}
use Rattle.moves.proofs.original_move_of.Goals as goal

pub returns : goal.returns
returns c = let d = c in let s = d in let m = d.step_of-step.result in
    original_from s.args.v s.args.distance (d.step_of-step.ensures ∙ ap (step_along s.args.v) (to_z-of_z s.ranges.distance))
    (back32 m.dx (omega (arith, c.struct_told-1.given.1.0))) (back32 m.dy (omega (arith, c.struct_told-1.given.1.1.1.0)))
