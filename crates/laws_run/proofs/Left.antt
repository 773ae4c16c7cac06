-- What a line and a run leave as it was. Assumes nothing.
use mathlib.Core.Bool.{true}
use mathlib.Core.Path.{◌≡◌}
use Rattle.line.specs.World.{World}
use Rattle.run_lines.proofs.Loop.{sizes}
use Rattle.graphics.specs.State.{usable_state}

-- what is left of a world: as long lists, and a usable state where there was one
pub record Left (w v : World) : Type 0 where
  pub lengths : sizes v ≡ sizes w
  pub usable : usable_state w.state ≡ true → usable_state v.state ≡ true
