-- What a feed says, and what it keeps between its calls: document 02, K11. Assumes nothing.
use Rattle.std.specs.Prelude.{ℕ, ◌+◌, Bool, false, true, ◌&&◌, List, leb, ℤ, length, take}
use Rattle.answer.specs.Answer.{number_of, detail_of}
use Rattle.graphics.specs.declared.GraphicsState.{GraphicsState}
use Rattle.limits.specs.Limits.{most_words}
use Rattle.feed_look.specs.Look.{look_of, most_line}
use Rattle.feed_look.specs.declared.Seen.{Seen}
use Rattle.feed_look.specs.declared.Seen.TheVariants.{Bad, Waits, Whole}
use Rattle.feed_look.specs.declared.Seen.TheVariants.{Long as LongLine}
use Rattle.feed_carry.specs.declared.Fed.{Fed}
use Rattle.feed_carry.specs.declared.Said.{Said}
use Rattle.feed_carry.specs.declared.Said.TheVariants.{Ended, Long, Open, Refused}

-- ---- what a call says, by number: it can go on, the end was called, a line too long to wait for, or a run's refusal
abbrev pub number_of_said : Said → ℕ
number_of_said Open = 1
number_of_said Ended = 0
number_of_said Long = 18
number_of_said (Refused why) = number_of why

abbrev pub detail_of_said : Said → ℕ
detail_of_said Open = 0
detail_of_said Ended = 0
detail_of_said Long = 0
detail_of_said (Refused why) = detail_of why

-- whether it can go on
unfoldable pub said_is_open : Said → Bool
said_is_open Open = true
said_is_open Ended = false
said_is_open Long = false
said_is_open (Refused why) = false

-- a feed of which nothing has arrived
abbrev pub fresh : GraphicsState → Fed
fresh s = record { said = Open; base = 0; held = 0; lines = 0; state = s }

-- ---- what every call asks of the carry
-- words that are the beginning of a line, or none
unfoldable pub waits : Seen → Bool
waits Waits = true
waits Bad = false
waits LongLine = false
waits (Whole n) = false

-- the carry has room for the longest line that may wait, what is kept in it is the beginning of a line, and the words so far with these are no longer
-- than a sheet may be
unfoldable pub carry_has_room : ℕ → ℕ → ℕ → List ℤ → Bool
carry_has_room base held words carry =
    leb most_line (length carry) && leb held (length carry) && waits (look_of (take held carry)) && leb (base + held + words) most_words
