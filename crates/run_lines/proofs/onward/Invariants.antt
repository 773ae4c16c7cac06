-- `run_lines::onward` meets its contract. The invariant: the rest of the run, from here with the lines so far, is the whole run, and no list has changed
-- its length. Assumes nothing.
use mathlib.Core.List.{List}
use Prim.Native.Nat.{◌-◌, ℕ}
use mathlib.Core.Path.{◌≡◌}
use lib.IntN.{ℤ}
use Rattle.line.specs.World.{Fixed, World, fixed, world}
use Rattle.run_lines.specs.Onward.{replay_of}
use Rattle.run_lines.proofs.Loop.{sizes}
use Rattle.run_lines.proofs.onward.Given as goal

pub record Inv (f : Fixed) (sheet : List ℤ) (budget start : ℕ) (w₀ : World) (lines at : ℕ) (w : World) : Type 0 where
  pub run : replay_of f sheet (budget - lines) lines at w ≡ replay_of f sheet budget 0 start w₀
  pub same : sizes w ≡ sizes w₀

abbrev pub invariant-loop-lines : goal.invariant-loop-lines
invariant-loop-lines l = Inv (fixed l.rules l.controls l.gux l.guy l.gox l.goy l.contours) l.sheet l.budget l.start (world l.initial.state l.initial.gx l.initial.gy l.initial.gflags l.initial.tox l.initial.toy l.initial.tx l.initial.ty l.initial.tflags) l.lines l.at (world l.state l.gx l.gy l.gflags l.tox l.toy l.tx l.ty l.tflags)
