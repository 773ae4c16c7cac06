-- FLIPPT as its private functions say it, over the flags lent. Nobody need believe this: Flip.antt is what the line is held to. Assumes nothing.
use Rattle.std.specs.Prelude.{ℕ, Bool, cond, List}
use Rattle.line_steps.specs.Loop.{Ended, ended, pass}
use Rattle.zone.specs.Zone.{Marked, flip_of}

abbrev pub flags_left : Marked → Ended (List ℕ)
flags_left m = ended m.call m.flags

abbrev pub flip_at : ℕ → List ℕ → Ended (List ℕ)
flip_at at flags = flags_left (flip_of flags at)

-- where points are held fast, each operand is taken and nothing is flipped
abbrev pub flip_unless : Bool → ℕ → List ℕ → Ended (List ℕ)
flip_unless held = cond held pass flip_at
