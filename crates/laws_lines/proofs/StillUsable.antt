-- What a line keeps of the state test. Assumes nothing.
use mathlib.Core.Bool.{true}
use mathlib.Core.Path.{◌≡◌}
use Rattle.graphics.specs.State.{usable_state}
use Rattle.line.specs.World.{World}

-- usable where it was
abbrev pub StillUsable : World → World → Type 0
StillUsable u w = usable_state u.state ≡ true → usable_state w.state ≡ true
