-- What is held between calls. Assumes nothing.
use mathlib.Core.List.{List}
use mathlib.Core.Path.{◌≡◌}
use Prim.Native.Nat.{◌<◌, ◌≤◌}
use lib.IntN.{ℤ}
use lib.ListN.{length}
use Rattle.feed.specs.Feed.{Left}
use Rattle.feed_look.specs.Look.{most_line}

-- less than a line is held, in a carry that is as long as it was
pub record Held (carry : List ℤ) (l : Left) : Type 0 where
  pub few : l.held < most_line
  pub inside : l.held ≤ length l.carry
  pub same : length l.carry ≡ length carry
