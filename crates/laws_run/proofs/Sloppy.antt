-- Contour ends that don't rise are answered 14 before any line, whatever the state, and nothing is changed. Assumes nothing.
use Prim.Native.Nat.{ℕ}
use mathlib.Core.Bool.{false, true}
use mathlib.Core.List.{List}
use mathlib.Core.Path.{◌≡◌, refl}
use lib.IntN.{ℤ}
use lib.ListN.{length}
use Rattle.answer.specs.declared.Refusal.TheVariants.{Ends}
use Rattle.contour_ends.specs.Ends.{ends_rise}
use Rattle.line.specs.Sizes.{world_fits}
use Rattle.line.specs.World.{Fixed, World}
use Rattle.replay.specs.Run.{entry_of, on_entry, run_of}
use Rattle.run_lines.specs.Onward.{ends}
use Rattle.run_lines.specs.declared.Answer.TheVariants.{Refused}

pub sloppy_refused : (f : Fixed) (sheet : List ℤ) (budget start : ℕ) (w : World) → world_fits f sheet w ≡ true → ends_rise (length w.gx) f.contours ≡ false
    → run_of f sheet budget start w ≡ ends (Refused Ends) 0 start w
unfolding run_of on_entry entry_of
sloppy_refused f sheet budget start w sized sloppy = rw (sized, sloppy)
