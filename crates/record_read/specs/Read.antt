-- What a byte string holds, or why it is refused: document 02, K4, K5 and K7. `read_of` answers for every byte string. Assumes nothing.
use Rattle.std.specs.Prelude.{ℕ, ◌+◌, ◌-◌, ◌*◌, ◌/◌, ◌%◌, Bool, cond, ◌&&◌, List, [], ◌∷◌, ◌++◌, eqb, leb, ltb, ℤ, drop, get_or, length, Result, Ok, Err}
use Rattle.limits.specs.Limits.{most_points, most_contours, most_control_values, most_words}
use Rattle.state_words.specs.Words.{state_of, state_words, is_state}
use Rattle.graphics.specs.State.{fresh_state}
use Rattle.words.specs.Lists.{word, part, numbers_of, flags_of, ends_of, all_at_most, wrapping_sum}
use Rattle.rules.specs.declared.Rules.TheVariants.{FreeType}
use Rattle.line.specs.World.{Fixed, fixed, World, world}
use Rattle.record_layout.specs.declared.Layout.{Layout}
use Rattle.record_layout.specs.Order.{at_trailer, list_in, most_bytes, trailer_size}
use Rattle.record_read.specs.declared.Damage.{Damage}
use Rattle.record_read.specs.declared.Damage.TheVariants.{TooLong, Form, Sum}
use Rattle.record_read.specs.Format.{Held, held, layout}

-- ---- the trailer, read from the end
-- whole words of a byte string
abbrev pub word_count : List ℕ → ℕ
word_count bytes = length bytes / 4

abbrev pub trailer_word : List ℕ → ℕ → ℕ
trailer_word bytes k = word bytes ((word_count bytes - trailer_size) + k)

-- how many words of the state an edition keeps, by its number; none of one that there isn't: K4's 26, "one more" since K5, and seven more
-- since K7
abbrev pub kept_by : ℕ → ℕ
kept_by e = get_or (0 ∷ 26 ∷ 27 ∷ 34 ∷ []) e 0

abbrev pub kept_in : List ℕ → ℕ
kept_in bytes = kept_by (trailer_word bytes 5)

abbrev pub layout_of : List ℕ → Layout
layout_of bytes = layout (kept_in bytes) (trailer_word bytes 0) (trailer_word bytes 1) (trailer_word bytes 2) (trailer_word bytes 3) (trailer_word bytes 4)

-- ---- what is refused with 16
-- a length that is no whole number of words, or too short
abbrev pub length_fits : List ℕ → Bool
length_fits bytes = eqb (length bytes % 4) 0 && leb trailer_size (word_count bytes)

-- counts that pass document 01's sizes
abbrev pub counts_fit : Layout → Bool
counts_fit l =
    leb l.points most_points && leb l.contours most_contours && leb l.twilight most_points
    && leb l.controls most_control_values && leb l.words most_words

-- counts that do not add up, an edition that there isn't, or a wrong way back
abbrev pub trailer_fits : List ℕ → Layout → Bool
trailer_fits bytes l =
    eqb (at_trailer l + trailer_size) (word_count bytes) && ltb 0 l.state && eqb (trailer_word bytes 6) (at_trailer l * 4)

abbrev pub framed : List ℕ → Bool
framed bytes = length_fits bytes && counts_fit (layout_of bytes) && trailer_fits bytes (layout_of bytes)

-- the words of the state: "the new reader takes edition 1 with the count 0", and older ones than 3 "read as 64, 0, 0, yes, 0, 0, 0": the fresh state's,
-- as is whatever a later edition adds
abbrev pub state_in : List ℕ → List ℕ
state_in bytes = part bytes 0 (kept_in bytes) ++ drop (kept_in bytes) (state_words fresh_state)

-- words out of their range: the state's, a flag that is no byte, a contour's end above 16 bits
abbrev pub words_fit : List ℕ → Layout → Bool
words_fit bytes l =
    is_state (state_in bytes) && all_at_most 255 (list_in bytes l 6) && all_at_most 65535 (list_in bytes l 7)
    && all_at_most 255 (list_in bytes l 12)

-- ---- what is refused with 15
abbrev pub sum_fits : List ℕ → Bool
sum_fits bytes = eqb (wrapping_sum (part bytes 0 (word_count bytes - 1))) (trailer_word bytes 7)

-- ---- reading
-- the refusals, in order: too long, then form, then sum
unfoldable pub open_of : List ℕ → Result Layout Damage
open_of bytes =
    cond (leb (length bytes) most_bytes)
    (cond (framed bytes && words_fit bytes (layout_of bytes)) (cond (sum_fits bytes) (Ok (layout_of bytes)) (Err Sum)) (Err Form))
    (Err TooLong)

abbrev pub damage_number : Damage → ℕ
damage_number TooLong = 17
damage_number Form = 16
damage_number Sum = 15

-- what the lists of a layout hold, each by its number in the record's order
abbrev pub numbers_in : List ℕ → Layout → ℕ → List ℤ
numbers_in bytes l k = numbers_of (list_in bytes l k)

abbrev pub fixed_in : List ℕ → Layout → Fixed
fixed_in bytes l =
    fixed FreeType (numbers_in bytes l 13) (numbers_in bytes l 0) (numbers_in bytes l 1) (numbers_in bytes l 2) (numbers_in bytes l 3) (ends_of (list_in bytes l 7))

abbrev pub world_in : List ℕ → Layout → World
world_in bytes l =
    world (state_of (state_in bytes)) (numbers_in bytes l 4) (numbers_in bytes l 5) (flags_of (list_in bytes l 6))
    (numbers_in bytes l 8) (numbers_in bytes l 9) (numbers_in bytes l 10) (numbers_in bytes l 11) (flags_of (list_in bytes l 12))

abbrev pub held_in : List ℕ → Layout → Held
held_in bytes l = held (fixed_in bytes l) (numbers_in bytes l 14) (world_in bytes l)

-- what a byte string holds, or the number that refuses it
pub data Read : Type 0 where
  Kept : Held → Read
  Refused : ℕ → Read

abbrev pub read_as : List ℕ → Result Layout Damage → Read
read_as bytes (Ok l) = Kept (held_in bytes l)
read_as bytes (Err why) = Refused (damage_number why)

abbrev pub read_of : List ℕ → Read
read_of bytes = read_as bytes (open_of bytes)
