-- How much a record can have, and the layout that is handed on: only the private functions are held to these, and nobody need believe them. Assumes
-- nothing.
use Rattle.std.specs.Prelude.{ℕ}
use Rattle.state_words.specs.Words.{state_size}
use Rattle.record_layout.specs.declared.Layout.{Layout}
use Rattle.record_read.specs.Format.{layout}

-- words between the state and the trailer of the longest record: no list has more
abbrev pub list_room : ℕ
list_room = 6110

-- a glyph point takes seven of these words, a twilight point five
abbrev pub point_room : ℕ
point_room = 872

abbrev pub twilight_room : ℕ
twilight_room = 1222

-- the layout of the newest edition, with the counts of another's
abbrev pub newest : Layout → Layout
newest l = layout state_size l.points l.contours l.twilight l.controls l.words
