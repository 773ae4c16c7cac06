-- Where a reader stands in the block of input. Assumes nothing.
use Rattle.std.specs.Prelude.{◌≤◌}
use Rattle.replay_records.specs.declared.Reader.{Reader}

-- what was read and not yet used lies within the block
abbrev pub Within : Reader → Type 0
Within r = (r.at ≤ r.end) × (r.end ≤ 65536)
