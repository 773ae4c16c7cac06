-- A record: its edition, its limits, and where each list lies, counted in words from its first: document 02, K4, K5 and K7. Assumes nothing.
use Rattle.std.specs.Prelude.{ℕ, zero, suc, ◌+◌, ◌*◌, List, [], ◌∷◌, get_or}
use Rattle.words.specs.Lists.{part}
use Rattle.record_layout.specs.declared.Layout.{Layout}

-- ---- the numbers of a record
-- the newest edition, which is written
abbrev pub edition : ℕ
edition = 3

-- 24 KiB
abbrev pub most_bytes : ℕ
most_bytes = 24576

-- words of the trailer
abbrev pub trailer_size : ℕ
trailer_size = 8

-- ---- the lists, by their number
-- how many words each has: "glyph unscaled, original and current x and y, flags, contours; twilight original and current x and y, flags; control values;
-- sheet"
abbrev pub counts : Layout → List ℕ
counts l =
    l.points ∷ l.points ∷ l.points ∷ l.points ∷ l.points ∷ l.points ∷ l.points ∷ l.contours
    ∷ l.twilight ∷ l.twilight ∷ l.twilight ∷ l.twilight ∷ l.twilight ∷ l.controls ∷ l.words ∷ []

abbrev pub count_of : Layout → ℕ → ℕ
count_of l k = get_or (counts l) k 0

-- the first word of list k: "First the state", then the lists before it
abbrev pub list_place : Layout → ℕ → ℕ
list_place l zero = l.state
list_place l (suc k) = list_place l k + count_of l k

-- the words of list k in the bytes of a record
abbrev pub list_in : List ℕ → Layout → ℕ → List ℕ
list_in bytes l k = part bytes (list_place l k) (count_of l k)

-- "Last a trailer of eight words", behind the fifteen lists
abbrev pub at_trailer : Layout → ℕ
at_trailer l = list_place l 15

-- the bytes of a record
abbrev pub record_size : Layout → ℕ
record_size l = (at_trailer l + trailer_size) * 4
