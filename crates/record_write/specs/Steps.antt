-- A record stored part by part over bytes, each part at its place of the layout: the writer's steps, that only private functions are held to. Nobody
-- need believe them: proofs/Joined.antt proves that they come to `record_of` of the crate record_read. Assumes nothing.
use Rattle.std.specs.Prelude.{ℕ, ◌+◌, List, [], ◌∷◌, ℤ}
use Rattle.graphics.specs.declared.GraphicsState.{GraphicsState}
use Rattle.state_words.specs.Words.{state_words}
use Rattle.words.specs.Lists.{part, wrapping_sum, placed, words_of_numbers}
use Rattle.record_layout.specs.declared.Layout.{Layout}
use Rattle.record_layout.specs.Order.{at_trailer, list_place}
use Rattle.record_read.specs.Format.{Held, trailer_words}

-- the state's words over the first words of a byte string
abbrev pub with_state : GraphicsState → List ℕ → List ℕ
with_state s bytes = placed 0 (state_words s) bytes

-- the trailer's words over a byte string, the sum last, of what then stands before it
abbrev pub with_counts : Layout → List ℕ → List ℕ
with_counts l bytes = placed (at_trailer l) (trailer_words l) bytes

-- the trailer's last word
abbrev pub sum_place : Layout → ℕ
sum_place l = at_trailer l + 7

abbrev pub with_sum : Layout → List ℕ → List ℕ
with_sum l bytes = placed (sum_place l) (wrapping_sum (part bytes 0 (sum_place l)) ∷ []) bytes

abbrev pub with_trailer : Layout → List ℕ → List ℕ
with_trailer l bytes = with_sum l (with_counts l bytes)

-- control values, then the sheet
unfoldable pub with_sources : Layout → List ℤ → List ℤ → List ℕ → List ℕ
with_sources l controls sheet bytes = placed (list_place l 14) (words_of_numbers sheet) (placed (list_place l 13) (words_of_numbers controls) bytes)

-- twilight original x and y, current x and y, flags
unfoldable pub with_twilight : Layout → List ℤ → List ℤ → List ℤ → List ℤ → List ℕ → List ℕ → List ℕ
with_twilight l ox oy x y flags bytes =
    placed (list_place l 12) flags
    (placed (list_place l 11) (words_of_numbers y)
    (placed (list_place l 10) (words_of_numbers x)
    (placed (list_place l 9) (words_of_numbers oy) (placed (list_place l 8) (words_of_numbers ox) bytes))))

-- glyph unscaled and original x and y
unfoldable pub with_originals : Layout → List ℤ → List ℤ → List ℤ → List ℤ → List ℕ → List ℕ
with_originals l ux uy ox oy bytes =
    placed (list_place l 3) (words_of_numbers oy)
    (placed (list_place l 2) (words_of_numbers ox) (placed (list_place l 1) (words_of_numbers uy) (placed (list_place l 0) (words_of_numbers ux) bytes)))

-- glyph current x and y, flags, contours
unfoldable pub with_currents : Layout → List ℤ → List ℤ → List ℕ → List ℕ → List ℕ → List ℕ
with_currents l x y flags ends bytes =
    placed (list_place l 7) ends (placed (list_place l 6) flags (placed (list_place l 5) (words_of_numbers y) (placed (list_place l 4) (words_of_numbers x) bytes)))

-- the whole record, its trailer last
unfoldable pub with_record : Layout → Held → List ℕ → List ℕ
with_record l h bytes =
    with_trailer l
    (with_sources l h.fixed.controls h.sheet
    (with_twilight l h.world.tox h.world.toy h.world.tx h.world.ty h.world.tflags
    (with_currents l h.world.gx h.world.gy h.world.gflags h.fixed.contours
    (with_originals l h.fixed.gux h.fixed.guy h.fixed.gox h.fixed.goy (with_state h.world.state bytes)))))
