-- What a feed is between calls, and before the first. Assumes nothing.
use mathlib.Core.List.{List}
use mathlib.Core.Path.{refl}
use Prim.Native.Nat.{ℕ, ◌≤◌}
use native.Mathlib.Omega.{arith}
use lib.IntN.{ℤ}
use lib.ListN.{length}
use Rattle.feed.specs.Feed.{Left}
use Rattle.feed_carry.specs.declared.Said.TheVariants.{Open}
use Rattle.feed_look.specs.Look.{most_line}
use Rattle.laws_run.proofs.Keeps.{all_left}
use Rattle.line.specs.World.{World}
use Rattle.laws_feed.specs.Cutting.{started}
use Rattle.laws_feed.proofs.Calls.{held_in, open_said}
use Rattle.laws_feed.proofs.Kept.{Sane, is_open, nothing_waits}

-- between calls
pub record Fine (w : World) (n : ℕ) (l : Left) : Type 0 where
  pub sane : Sane w n (held_in l)
  pub long : most_line ≤ length l.carry
  pub inside : l.held ≤ length l.carry

pub at_start : (carry : List ℤ) (w : World) → most_line ≤ length carry → Fine w 0 (started carry w)
at_start carry w h =
    record { sane = record { waiting = nothing_waits; kept = all_left w; place = λ _. refl; most = omega arith; idle = is_open Open open_said }; long = h; inside = omega arith }
