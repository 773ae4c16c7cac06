-- `line_isect::meeting` meets its contract: by the first end that is outside, in any world that holds the lists lent. Assumes nothing.
use Prim.Native.Nat.{ℕ}
use mathlib.Core.List.{List}
use lib.IntN.{ℤ}
use Rattle.graphics.specs.declared.GraphicsState.{GraphicsState}
use Rattle.line.specs.World.{World, world}
use Rattle.line_isect.proofs.Cases.{a0_out, a1_out, b0_out, b1_out, lines_meet}
use Rattle.line_isect.proofs.meeting.Goals as goal
use Rattle.line_isect.proofs.meeting.Goals.{Start}

-- ---- places of the walk
abbrev entry : Start → GraphicsState → List ℕ → List ℤ → List ℤ → List ℕ → World
entry k s gflags tox toy tflags = world s k.args.gx.now k.args.gy.now gflags tox toy k.args.tx.now k.args.ty.now tflags

pub returns-in_default : goal.returns-in_default
returns-in_default c = let a = c.args in
    λ s gflags tox toy tflags rest. a0_out a.zone_a a.a0 a.a1 a.zone_b a.b0 a.b1 (entry (goal.at.returns-in_default c).Start s gflags tox toy tflags) rest c.fetch_in-one.ensures c.in_default.is

pub returns-in_default-two : goal.returns-in_default-two
returns-in_default-two c = let a = c.args in
    λ s gflags tox toy tflags rest. a1_out a.zone_a a.a0 a.a1 a.zone_b a.b0 a.b1 (entry (goal.at.returns-in_default-two c).Start s gflags tox toy tflags) rest c.fetch_in-one.ensures c.in-Ok.is c.fetch_in-two.ensures c.in_default-two.is

pub returns-in_default-three : goal.returns-in_default-three
returns-in_default-three c = let a = c.args in
    λ s gflags tox toy tflags rest. b0_out a.zone_a a.a0 a.a1 a.zone_b a.b0 a.b1 (entry (goal.at.returns-in_default-three c).Start s gflags tox toy tflags) rest c.fetch_in-one.ensures c.in-Ok.is c.fetch_in-two.ensures c.in-Ok-two.is c.fetch_in-three.ensures c.in_default-three.is

pub returns-in_default-four : goal.returns-in_default-four
returns-in_default-four c = let a = c.args in
    λ s gflags tox toy tflags rest. b1_out a.zone_a a.a0 a.a1 a.zone_b a.b0 a.b1 (entry (goal.at.returns-in_default-four c).Start s gflags tox toy tflags) rest c.fetch_in-one.ensures c.in-Ok.is c.fetch_in-two.ensures c.in-Ok-two.is c.fetch_in-three.ensures c.in-Ok-three.is c.fetch_in-four.ensures c.in_default-four.is

pub returns : goal.returns
returns c = let a = c.args in
    λ s gflags tox toy tflags rest. lines_meet a.zone_a a.a0 a.a1 a.zone_b a.b0 a.b1 (entry (goal.at.returns c).Start s gflags tox toy tflags) rest c.fetch_in-one.ensures c.in-Ok.is c.fetch_in-two.ensures c.in-Ok-two.is c.fetch_in-three.ensures c.in-Ok-three.is c.fetch_in-four.ensures c.in-Ok-four.is c.crossing.ensures
