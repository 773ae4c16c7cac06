-- The record on the shelf: document 02, K4, K5 and K7. `record_of` is the byte string that is written for what is held. Assumes nothing.
use Rattle.std.specs.Prelude.{ℕ, ◌*◌, ◌%◌, ◌^◌, List, [], ◌∷◌, ◌++◌, ℤ, length}
use Rattle.state_words.specs.Words.{state_size, state_words}
use Rattle.words.specs.Lists.{wrapping_sum, bytes_of, words_of_numbers}
use Rattle.line.specs.World.{Fixed, World}
use Rattle.record_layout.specs.declared.Layout.{Layout}
use Rattle.record_layout.specs.Order.{edition, at_trailer}

-- ---- what is held
-- what lines only read, the sheet, and what lines change
pub record Held : Type 0 where
  pub fixed : Fixed
  pub sheet : List ℤ
  pub world : World

abbrev pub held : Fixed → List ℤ → World → Held
held f sheet w = record { fixed = f; sheet = sheet; world = w }

-- ---- writing
-- the layout of an edition that keeps so many words of the state, with these counts
abbrev pub layout : ℕ → ℕ → ℕ → ℕ → ℕ → ℕ → Layout
layout s n c m k w = record { state = s; points = n; contours = c; twilight = m; controls = k; words = w }

-- the counts of what is held, as its current lists give them, in the newest edition
abbrev pub layout_for : Held → Layout
layout_for h = layout state_size (length h.world.gx) (length h.fixed.contours) (length h.world.tx) (length h.fixed.controls) (length h.sheet)

abbrev pub glyph_words : Held → List ℕ
glyph_words h =
    words_of_numbers h.fixed.gux ++ (words_of_numbers h.fixed.guy ++ (words_of_numbers h.fixed.gox ++ (words_of_numbers h.fixed.goy
    ++ (words_of_numbers h.world.gx ++ (words_of_numbers h.world.gy ++ (h.world.gflags ++ h.fixed.contours))))))

abbrev pub twilight_words : Held → List ℕ
twilight_words h =
    words_of_numbers h.world.tox ++ (words_of_numbers h.world.toy ++ (words_of_numbers h.world.tx ++ (words_of_numbers h.world.ty ++ h.world.tflags)))

-- "n, contours, m, control values, sheet words, edition, the bytes back from the trailer's first byte to the record's"
abbrev pub trailer_words : Layout → List ℕ
trailer_words l = l.points ∷ l.contours ∷ l.twilight ∷ l.controls ∷ l.words ∷ edition ∷ at_trailer l * 4 % 2 ^ 32 ∷ []

-- "and the wrapping sum of every word before it"
abbrev pub summed : List ℕ → List ℕ
summed ws = ws ++ (wrapping_sum ws ∷ [])

abbrev pub body_words : Held → List ℕ
body_words h = state_words h.world.state ++ (glyph_words h ++ (twilight_words h ++ (words_of_numbers h.fixed.controls ++ words_of_numbers h.sheet)))

abbrev pub words_of : Held → List ℕ
words_of h = summed (body_words h ++ trailer_words (layout_for h))

unfoldable pub record_of : Held → List ℕ
record_of h = bytes_of (words_of h)
