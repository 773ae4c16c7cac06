-- What is printed of a record, for every byte string: document 02, K4 and K5: "number, place, lines, detail on one line, then x, y and flag of each glyph
-- point", "each on its own line". Assumes nothing.
use Rattle.std.specs.Prelude.{ℕ, ◌+◌, ◌-◌, ◌*◌, ◌≤◌, List, [], ◌∷◌, ◌++◌, ◌≡◌, ℤ, length, replicate, take}
use Rattle.state_words.specs.Words.{state_size}
use Rattle.record_layout.specs.Order.{most_bytes}
use Rattle.record_layout.specs.declared.Layout.{Layout}
use Rattle.record_read.specs.Read.{world_in}
use Rattle.record_run.specs.After.{Shelved}
use Rattle.record_run.specs.declared.Replayed.{Replayed}
use Rattle.rules.specs.declared.Rules.{Rules}
use Rattle.record_replay.specs.Shelf.{shelf_within}
use Rattle.record_print.specs.Text.{decimal, line, signed_decimal}

-- ---- lines
abbrev pub answer_line : Replayed → List ℕ
answer_line r = line (decimal r.number ∷ decimal r.place ∷ decimal r.lines ∷ decimal r.detail ∷ [])

abbrev pub point_line : ℤ → ℤ → ℕ → List ℕ
point_line x y flag = line (signed_decimal x ∷ signed_decimal y ∷ decimal flag ∷ [])

abbrev pub point_lines : List ℤ → List ℤ → List ℕ → List ℕ
point_lines [] ys flags = []
point_lines (x ∷ xs) [] flags = []
point_lines (x ∷ xs) (y ∷ ys) [] = []
point_lines (x ∷ xs) (y ∷ ys) (flag ∷ flags) = point_line x y flag ++ point_lines xs ys flags

-- the glyph's points, as a record has them whose lists lie so
abbrev pub glyph_lines : List ℕ → Layout → List ℕ
glyph_lines out l = point_lines (world_in out l).gx (world_in out l).gy (world_in out l).gflags

-- ---- what is printed
-- the answer, and the points of the record as it stands after the replay; a refused one has none
unfoldable pub text_of : Shelved → List ℕ
text_of s = answer_line s.said ++ glyph_lines s.out s.said.layout

-- the bytes of any record that is read, in the newest edition: an older one, of 26 words of the state at least, gains those that it hasn't. So points are
-- printed of a record that can't be written any more
abbrev pub room : ℕ
room = most_bytes + (state_size - 26) * 4

-- bytes for it to be written over
unfoldable pub blank : List ℕ
blank = replicate room 0

unfoldable pub print_of : Rules → List ℕ → List ℕ
print_of rules bytes = text_of (shelf_within rules room bytes blank)

-- so many bytes stand at the front of a text; the second part follows from the first, and a caller that lends the front finds both
abbrev pub Front : ℕ → List ℕ → Type 0
Front n text = (n ≤ length text) × (n ≡ length (take n text))
