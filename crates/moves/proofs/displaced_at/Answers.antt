-- `moves::displaced_at` meets its contract: by what the two reads give. Assumes nothing.
use Rattle.std.specs.Prelude.{Ok}
use mathlib.Core.Path.{ap, ◌∙◌}
use Prim.Native.Nat.{◌^◌, ◌<◌}
use native.Mathlib.Omega.{arith}
use lib.Signed.{mag}
use Rattle.answer.proofs.Passed.{passed_on}
use Rattle.int.proofs.Words.{back32}
use Rattle.moves.proofs.Cases.{current_is, both_are, displaced_by, displacement_is}
use Rattle.moves.proofs.displaced_at.Goals as goal
use Rattle.moves.proofs.displaced_at.Goals.{Start}

small : (s : Start) → (mag s.args.v.projection.x < 2 ^ 31) × (mag s.args.v.projection.y < 2 ^ 31) × (mag s.args.v.freedom.x < 2 ^ 31) × (mag s.args.v.freedom.y < 2 ^ 31)
small s = omega arith

pub returns-in_err-current : goal.returns-in_err-current
returns-in_err-current c = let a = c.args in
    passed_on _ c.from_residual.ensures.1 ∙ current_is a.v a.p a.ox.now a.oy.now a.cx.now a.cy.now c.fetch.ensures c.in_err-current.was

pub returns-in_err-original : goal.returns-in_err-original
returns-in_err-original c = let a = c.args in
    passed_on _ c.from_residual-in_err-original.ensures.1
    ∙ both_are a.v a.p a.ox.now a.oy.now a.cx.now a.cy.now c.fetch.ensures c.in_ok-current.was c.fetch-2.ensures c.in_err-original.was

pub returns : goal.returns
returns c = let a = c.args in let m = c.displacement_by-d.result in let k = small (goal.at.returns c).Start in let v = a.v in
    ap Ok (displaced_by a.p (displacement_is v _ _ (back32 v.projection.x k.0) (back32 v.projection.y k.1) (back32 v.freedom.x k.2) (back32 v.freedom.y k.3)
    (back32 _ (omega (arith, c.in_ok-current.ensures))) (back32 _ (omega arith)) (back32 _ (omega arith)) (back32 _ (omega arith)) c.displacement_by-d.ensures)
    (back32 m.x (omega arith)) (back32 m.y (omega arith)))
    ∙ both_are a.v a.p a.ox.now a.oy.now a.cx.now a.cy.now c.fetch.ensures c.in_ok-current.was c.fetch-2.ensures c.in_ok-original.was
