-- What the loop over the input holds on to: nobody need believe it. Assumes nothing.
use Rattle.std.specs.Prelude.{ℕ, Bool, false, true, List, ℤ}
use Rattle.line.specs.World.{Fixed}
use Rattle.feed.specs.Feed.{Left}
use Rattle.feed_carry.specs.Carry.{detail_of_said, number_of_said}
use Rattle.feed_carry.specs.declared.Fed.{Fed}
use Rattle.record_layout.specs.declared.Layout.{Layout}
use Rattle.record_run.specs.declared.Replayed.{Replayed}
use Rattle.feed_arriving.specs.Arriving.{Arrived, fed_with}

abbrev pub arrived_by : List ℕ → ℕ → Left → Arrived
arrived_by begun lines l = record { begun = begun; lines = lines; left = l }

-- the answer, of what `end` hands back
abbrev pub said_by : Layout → ℕ → Fed → ℕ → Replayed
said_by l lines e size =
    record { number = number_of_said e.said; place = e.base; lines = lines; detail = detail_of_said e.said; size = size; layout = l }

-- with a piece that is still to be fed, or without
unfoldable pub pending_by : Fixed → List ℕ → ℕ → Left → List ℤ → Bool → Arrived
pending_by f begun lines l piece true = fed_with f begun lines l piece
pending_by f begun lines l piece false = arrived_by begun lines l
