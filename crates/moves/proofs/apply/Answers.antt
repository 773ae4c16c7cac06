-- `moves::apply` meets its contract: by the test of the index, and by what `move_at` and `touch_at` ensure of each list. Assumes nothing.
use mathlib.Core.Path.{ap, ◌∙◌}
use Prim.Native.Nat.{◌^◌, ◌<◌}
use native.Mathlib.Omega.{arith}
use lib.IntN.{ℤ}
use lib.Signed.{mag}
use Rattle.int.proofs.Words.{back32}
use Rattle.moves.proofs.Cases.{apply_out, apply_in}
use Rattle.moves.specs.Move.{moved_at}
use Rattle.moves.proofs.apply.Goals as goal

pub returns-then-xs-i : goal.returns-then-xs-i
returns-then-xs-i c = let a = c.args in apply_out a.m a.at a.xs.now a.ys.now a.flags.now c.if-xs-i.true

pub returns : goal.returns
returns c = let f = c in let y = f in let x = y in let i = x in let a = i.args in let m = a.m in
    let k : (mag m.dx < 2 ^ 31) × (mag m.dy < 2 ^ 31) = omega (arith, x.struct_told-1.given.1.0, y.struct_told-2-1.given.1.1.1.0) in
    apply_in m a.at a.xs.now a.ys.now a.flags.now i.if-xs-i.false
    (x.move_at.ensures ∙ ap (λ (z : ℤ). moved_at a.xs.now a.at z m.moves_x) (back32 m.dx k.0))
    (y.move_at-2.ensures ∙ ap (λ (z : ℤ). moved_at a.ys.now a.at z m.moves_y) (back32 m.dy k.1))
    f.touch_at.ensures
