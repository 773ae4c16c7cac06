-- What is known of the input's next words from read to read: nobody need believe it. Assumes nothing.
use Rattle.std.specs.Prelude.{◌≤◌}
use Rattle.feed_blocks.specs.declared.Next.{Next}

-- a word that is begun has three bytes at most, and the words have room
abbrev pub Kept : Next → Type 0
Kept r = (r.begun ≤ 3) × (r.count ≤ 16384)
