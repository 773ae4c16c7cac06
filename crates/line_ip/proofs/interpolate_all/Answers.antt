-- `line_ip::interpolate_all` meets its contract: by whether rp1 and rp2 are there. Assumes nothing.
use Prim.Native.Nat.{ℕ}
use mathlib.Core.Bool.{Bool}
use mathlib.Core.Path.{ap, ◌∙◌}
use Rattle.graphics.specs.declared.Vector.{Vector}
use Rattle.graphics.specs.declared.ZonePointer.{ZonePointer}
use Rattle.line_ip.specs.Ip.{any_twilight, outline_place}
use Rattle.line_ip.specs.Loop.{interpolate_all}
use Rattle.line_ip.proofs.Cases.{both_there, far_out, near_out}
use Rattle.line_steps.specs.Loop.{Zones, zones}
use Rattle.line_ip.proofs.interpolate_all.Goals as goal
use Rattle.line_ip.proofs.interpolate_all.Goals.{Start}

-- ---- what is lent
abbrev outline_of : Start → Bool → ZonePointer → ℕ → Vector
outline_of s twilight = let a = s.args in outline_place twilight a.gux.now a.guy.now a.gox.now a.goy.now a.tox.now a.toy.now

abbrev lent : Start → Zones
lent s = let a = s.args in zones a.gx.now a.gy.now a.gflags.now a.tx.now a.ty.now a.tflags.now

pub fetch_in-near-requires : goal.fetch_in-near-requires
fetch_in-near-requires c = (c.requires.0, c.requires.2)

pub fetch_in-far-requires : goal.fetch_in-far-requires
fetch_in-far-requires c = (c.requires.0, c.requires.2)

pub returns-in-Err : goal.returns-in-Err
returns-in-Err c = near_out c.args.s (outline_of (goal.at.returns-in-Err c).Start (any_twilight c.args.s.pointers)) c.args.operands.now (lent (goal.at.returns-in-Err c).Start) c.fetch_in-near.ensures c.in-Err.is c.let_pass.ensures

pub returns-in-Err-far : goal.returns-in-Err-far
returns-in-Err-far c = far_out c.args.s (outline_of (goal.at.returns-in-Err-far c).Start (any_twilight c.args.s.pointers)) c.args.operands.now (lent (goal.at.returns-in-Err-far c).Start) c.fetch_in-near.ensures c.in-Ok.is c.fetch_in-far.ensures c.in-Err-far.is c.let_pass-in-Err-far.ensures

pub returns-in-Ok-far : goal.returns-in-Ok-far
returns-in-Ok-far c = both_there c.args.s (outline_of (goal.at.returns-in-Ok-far c).Start c.any_twilight-twilight.result) c.args.operands.now (lent (goal.at.returns-in-Ok-far c).Start) c.fetch_in-near.ensures c.in-Ok.is c.fetch_in-far.ensures c.in-Ok-far.is
    c.outline_place-original.ensures c.outline_place-far_original.ensures c.stretch_of-t.ensures c.interpolate_each.ensures
    ∙ ap (λ (twilight : Bool). interpolate_all c.args.s (outline_of (goal.at.returns-in-Ok-far c).Start twilight) c.args.operands.now (lent (goal.at.returns-in-Ok-far c).Start)) c.any_twilight-twilight.ensures
