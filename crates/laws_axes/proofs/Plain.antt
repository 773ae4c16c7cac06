-- Demand 3, the first half, in plain words: starts that differ in the coordinates of one axis alone, the vectors along the other, no line reached an
-- intersection or a vector turned across. It is `axes_apart` of Apart.antt, with what is seen along the axis written out. Assumes nothing.
use mathlib.Core.Bool.{true}
use mathlib.Core.List.{List}
use mathlib.Core.Path.{◌≡◌, ap}
use Prim.Native.Nat.{ℕ}
use lib.IntN.{ℤ}
use Rattle.line.specs.World.{Fixed, World}
use Rattle.replay.specs.Run.{run_of}
use Rattle.graphics.specs.State.{all_along, x_axis, y_axis}
use Rattle.laws_axes.specs.Axes.{fixed_seen, mixes, world_seen}
use Rattle.flags.specs.declared.Axis.TheVariants.{X, Y}
use Rattle.laws_axes.specs.Plain.{OnlyXDiffers, OnlyYDiffers, SameHorizontally, SameVertically}
use Rattle.laws_axes.specs.Reached.{lines_reached, none}
use Rattle.laws_axes.proofs.Apart.{horizontal_runs_apart, vertical_runs_apart}

-- ---- what is seen of the starts
fixed_alike_vertical : {f g : Fixed} {w v : World} → OnlyXDiffers f g w v → fixed_seen Y f ≡ fixed_seen Y g
fixed_alike_vertical d = cc

worlds_alike_vertical : {f g : Fixed} {w v : World} → OnlyXDiffers f g w v → world_seen Y w ≡ world_seen Y v
worlds_alike_vertical d = cc

fixed_alike_horizontal : {f g : Fixed} {w v : World} → OnlyYDiffers f g w v → fixed_seen X f ≡ fixed_seen X g
fixed_alike_horizontal d = cc

worlds_alike_horizontal : {f g : Fixed} {w v : World} → OnlyYDiffers f g w v → world_seen X w ≡ world_seen X v
worlds_alike_horizontal d = cc

-- ---- the promise
-- vectors straight up
pub vertical_runs_agree : (f g : Fixed) (sheet : List ℤ) (budget start : ℕ) (w v : World) → OnlyXDiffers f g w v → w.state.vectors ≡ all_along y_axis
    → none (mixes Y) (lines_reached f sheet budget start w) ≡ true
    → SameVertically (run_of f sheet budget start w) (run_of g sheet budget start v)
vertical_runs_agree f g sheet budget start w v d straight free =
    let both = vertical_runs_apart f g sheet budget start w v (fixed_alike_vertical d) (worlds_alike_vertical d) straight free in
    record {
      answer = both.answer;
      place = both.place;
      lines = both.lines;
      state = ap (λ (x : World). x.state) both.worlds;
      gy = ap (λ (x : World). x.gy) both.worlds;
      gflags = ap (λ (x : World). x.gflags) both.worlds;
      toy = ap (λ (x : World). x.toy) both.worlds;
      ty = ap (λ (x : World). x.ty) both.worlds;
      tflags = ap (λ (x : World). x.tflags) both.worlds;
    }

-- vectors level: the same with the axes exchanged
pub horizontal_runs_agree : (f g : Fixed) (sheet : List ℤ) (budget start : ℕ) (w v : World) → OnlyYDiffers f g w v → w.state.vectors ≡ all_along x_axis
    → none (mixes X) (lines_reached f sheet budget start w) ≡ true
    → SameHorizontally (run_of f sheet budget start w) (run_of g sheet budget start v)
horizontal_runs_agree f g sheet budget start w v d straight free =
    let both = horizontal_runs_apart f g sheet budget start w v (fixed_alike_horizontal d) (worlds_alike_horizontal d) straight free in
    record {
      answer = both.answer;
      place = both.place;
      lines = both.lines;
      state = ap (λ (x : World). x.state) both.worlds;
      gx = ap (λ (x : World). x.gx) both.worlds;
      gflags = ap (λ (x : World). x.gflags) both.worlds;
      tox = ap (λ (x : World). x.tox) both.worlds;
      tx = ap (λ (x : World). x.tx) both.worlds;
      tflags = ap (λ (x : World). x.tflags) both.worlds;
    }
