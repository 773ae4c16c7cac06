-- `line_shift::displaced` meets its contract: by what the two reads give. Assumes nothing.
use Rattle.std.specs.Prelude.{Ok}
use mathlib.Core.Path.{ap, ◌∙◌}
use Prim.Native.Nat.{◌^◌, ◌<◌}
use native.Mathlib.Omega.{arith}
use lib.Signed.{mag}
use Rattle.answer.proofs.Passed.{passed_on}
use Rattle.int.proofs.Words.{back32}
use Rattle.moves.proofs.Cases.{displaced_by, displacement_is}
use Rattle.line_shift.proofs.Cases.{both_read, current_read}
use Rattle.line_shift.proofs.displaced.Goals as goal
use Rattle.line_shift.proofs.displaced.Goals.{Start}

small : (s : Start) → (mag s.args.v.projection.x < 2 ^ 31) × (mag s.args.v.projection.y < 2 ^ 31) × (mag s.args.v.freedom.x < 2 ^ 31) × (mag s.args.v.freedom.y < 2 ^ 31)
small s = omega arith

pub fetch_in-requires : goal.fetch_in-requires
fetch_in-requires c = (c.requires.1, c.requires.3)

pub fetch_in-requires-2 : goal.fetch_in-requires-2
fetch_in-requires-2 c = let p = c.requires in (p.0, p.2)

pub returns-in_err-current : goal.returns-in_err-current
returns-in_err-current c = let a = c.args in
    passed_on _ c.from_residual.ensures.1
    ∙ current_read a.v a.p a.gox.now a.goy.now a.gx.now a.gy.now a.tox.now a.toy.now a.tx.now a.ty.now c.fetch_in.ensures c.in_err-current.was

pub returns-in_err-original : goal.returns-in_err-original
returns-in_err-original c = let a = c.args in
    passed_on _ c.from_residual-in_err-original.ensures.1
    ∙ both_read a.v a.p a.gox.now a.goy.now a.gx.now a.gy.now a.tox.now a.toy.now a.tx.now a.ty.now c.fetch_in.ensures c.in_ok-current.was c.fetch_in-2.ensures c.in_err-original.was

pub returns : goal.returns
returns c = let a = c.args in let m = c.displacement_by-d.result in let k = small (goal.at.returns c).Start in let v = a.v in
    ap Ok (displaced_by a.p (displacement_is v _ _ (back32 v.projection.x k.0) (back32 v.projection.y k.1) (back32 v.freedom.x k.2) (back32 v.freedom.y k.3)
    (back32 _ (omega arith)) (back32 _ (omega arith)) (back32 _ (omega arith)) (back32 _ (omega arith)) c.displacement_by-d.ensures)
    (back32 m.x (omega arith)) (back32 m.y (omega arith)))
    ∙ both_read a.v a.p a.gox.now a.goy.now a.gx.now a.gy.now a.tox.now a.toy.now a.tx.now a.ty.now c.fetch_in.ensures c.in_ok-current.was c.fetch_in-2.ensures c.in_ok-original.was
