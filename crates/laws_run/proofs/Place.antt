-- A run that begins within the sheet ends within it. Assumes nothing.
use mathlib.Core.List.{List}
use Prim.Native.Nat.{◌≤◌, ℕ}
use lib.ListN.{length}
use lib.IntN.{ℤ}
use Rattle.line.specs.World.{Fixed, World}
use Rattle.replay.specs.Run.{entered, run_of}
use Rattle.laws_run.proofs.Keeps.{entry_place}

pub run_place : (f : Fixed) (sheet : List ℤ) (budget start : ℕ) (w : World) → start ≤ length sheet → (run_of f sheet budget start w).place ≤ length sheet
unfolding run_of
run_place f sheet budget start w h =
    entry_place f sheet budget start w (entered f sheet start w) h
