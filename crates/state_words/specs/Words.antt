-- The graphics state as words: document 02, K4: "First the state, 26 words: projection, dual and freedom x, y; mode 0 to 7 in round.rs order;
-- threshold, phase, period; rp0, rp1, rp2, low word first; loop; zp0 to zp2 (0 twilight, 1 glyph); the five facts in 01's order; cut-in."; K5:
-- "one more state word, the last", the count of wrapped roundings; and K7: "the minimum distance, single width and its cut-in, auto flip and the
-- scale", "the last pushed value and a count of pushes", "these seven words last in this order". A signed number is its 32 bits. Assumes nothing.
use Rattle.std.specs.Prelude.{ℕ, ◌+◌, ◌*◌, ◌/◌, ◌%◌, ◌^◌, Bool, true, false, cond, ◌&&◌, List, [], ◌∷◌, ◌++◌, eqb, leb, ℤ, drop, get_or, length, take}
use Rattle.int.specs.Word.{bits_of, of_bits}
use Rattle.words.specs.Lists.{all_at_most}
use Rattle.round.specs.declared.RoundMode.{RoundMode}
use Rattle.round.specs.declared.RoundMode.TheVariants.{Grid, HalfGrid, DoubleGrid, DownToGrid, UpToGrid, Off, Super, Super45}
use Rattle.round.specs.declared.RoundState.{RoundState}
use Rattle.graphics.specs.declared.Facts.{Facts}
use Rattle.graphics.specs.declared.GraphicsState.{GraphicsState}
use Rattle.graphics.specs.declared.Measures.{Measures}
use Rattle.graphics.specs.declared.References.{References}
use Rattle.graphics.specs.declared.Tallies.{Tallies}
use Rattle.graphics.specs.declared.Vector.{Vector}
use Rattle.graphics.specs.declared.Vectors.{Vectors}
use Rattle.graphics.specs.declared.ZonePointer.{ZonePointer}
use Rattle.graphics.specs.declared.ZonePointer.TheVariants.{Twilight, Glyph}
use Rattle.graphics.specs.declared.ZonePointers.{ZonePointers}

-- how many words a state is
abbrev pub state_size : ℕ
state_size = 34

-- ---- the words of a state
abbrev pub mode_word : RoundMode → ℕ
mode_word Grid = 0
mode_word HalfGrid = 1
mode_word DoubleGrid = 2
mode_word DownToGrid = 3
mode_word UpToGrid = 4
mode_word Off = 5
mode_word Super = 6
mode_word Super45 = 7

abbrev pub zone_word : ZonePointer → ℕ
zone_word Twilight = 0
zone_word Glyph = 1

abbrev pub fact_word : Bool → ℕ
fact_word b = cond b 1 0

abbrev pub vectors_words : Vectors → List ℕ
vectors_words v =
    bits_of v.projection.x ∷ bits_of v.projection.y ∷ bits_of v.dual.x ∷ bits_of v.dual.y ∷ bits_of v.freedom.x ∷ bits_of v.freedom.y ∷ []

abbrev pub round_words : RoundState → List ℕ
round_words r = mode_word r.mode ∷ bits_of r.threshold ∷ bits_of r.phase ∷ bits_of r.period ∷ []

-- the low word first
abbrev pub long_words : ℕ → List ℕ → List ℕ
long_words n rest = n % 2 ^ 32 ∷ n / 2 ^ 32 ∷ rest

abbrev pub references_words : References → List ℕ
references_words p = long_words p.rp0 (long_words p.rp1 (long_words p.rp2 []))

abbrev pub pointers_words : ZonePointers → List ℕ
pointers_words p = zone_word p.zp0 ∷ zone_word p.zp1 ∷ zone_word p.zp2 ∷ []

abbrev pub facts_words : Facts → List ℕ
facts_words f =
    fact_word f.backward_compatibility ∷ fact_word f.pedantic ∷ fact_word f.native_clear_type_x
    ∷ fact_word f.did_iup_x ∷ fact_word f.did_iup_y ∷ []

-- but the cut-in, which stands before them
abbrev pub distance_words : Measures → List ℕ
distance_words m =
    bits_of m.minimum_distance ∷ bits_of m.single_width ∷ bits_of m.single_width_cut_in ∷ fact_word m.auto_flip ∷ bits_of m.scale ∷ []

abbrev pub push_words : Tallies → List ℕ
push_words t = bits_of t.last_pushed ∷ t.pushes ∷ []

unfoldable pub state_words : GraphicsState → List ℕ
state_words s =
    vectors_words s.vectors ++ (round_words s.round ++ (references_words s.references ++ (s.loop_counter
    ∷ (pointers_words s.pointers ++ (facts_words s.facts ++ (bits_of s.measures.cut_in ∷ s.tallies.wrapped_roundings
    ∷ (distance_words s.measures ++ push_words s.tallies)))))))

abbrev pub word_of : GraphicsState → ℕ → ℕ
word_of s k = get_or (state_words s) k 0

-- what is left where a state is written over words: its own words, where these are as many, else what was there
unfoldable pub written : GraphicsState → List ℕ → List ℕ
written s ws = cond (eqb (length ws) state_size) (state_words s) ws

-- ---- the state that words stand for
-- word k; a word that is missing counts as 0
abbrev pub state_word : List ℕ → ℕ → ℕ
state_word ws k = get_or ws k 0

abbrev pub number_at : List ℕ → ℕ → ℤ
number_at ws k = of_bits (state_word ws k)

abbrev pub long_at : List ℕ → ℕ → ℕ → ℕ
long_at ws low high = state_word ws low + state_word ws high * 2 ^ 32

abbrev pub vector_at : List ℕ → ℕ → ℕ → Vector
vector_at ws x y = record { x = number_at ws x; y = number_at ws y }

-- a number beyond the last is taken for the last
abbrev pub mode_of : ℕ → RoundMode
mode_of n = get_or (Grid ∷ HalfGrid ∷ DoubleGrid ∷ DownToGrid ∷ UpToGrid ∷ Off ∷ Super ∷ []) n Super45

abbrev pub zone_of : ℕ → ZonePointer
zone_of n = get_or (Twilight ∷ []) n Glyph

abbrev pub fact_of : ℕ → Bool
fact_of n = get_or (false ∷ []) n true

abbrev pub fact_at : List ℕ → ℕ → Bool
fact_at ws k = fact_of (state_word ws k)

unfoldable pub state_of : List ℕ → GraphicsState
state_of ws = record {
  vectors = record { projection = vector_at ws 0 1; dual = vector_at ws 2 3; freedom = vector_at ws 4 5 };
  round = record { mode = mode_of (state_word ws 6); threshold = number_at ws 7; phase = number_at ws 8; period = number_at ws 9 };
  references = record { rp0 = long_at ws 10 11; rp1 = long_at ws 12 13; rp2 = long_at ws 14 15 };
  loop_counter = state_word ws 16;
  pointers = record { zp0 = zone_of (state_word ws 17); zp1 = zone_of (state_word ws 18); zp2 = zone_of (state_word ws 19) };
  facts = record { backward_compatibility = fact_at ws 20; pedantic = fact_at ws 21; native_clear_type_x = fact_at ws 22; did_iup_x = fact_at ws 23; did_iup_y = fact_at ws 24 };
  measures = record { cut_in = number_at ws 25; minimum_distance = number_at ws 27; single_width = number_at ws 28; single_width_cut_in = number_at ws 29; auto_flip = fact_at ws 30; scale = number_at ws 31 };
  tallies = record { wrapped_roundings = state_word ws 26; last_pushed = number_at ws 32; pushes = state_word ws 33 };
}

-- ---- which words are a state: refused with 16 where not. Vectors and period are left to the run's answer 3
-- the mode at most 7, zone pointers, facts and auto flip at most 1
unfoldable pub is_state : List ℕ → Bool
is_state ws = eqb (length ws) state_size && leb (state_word ws 6) 7 && all_at_most 1 (take 8 (drop 17 ws)) && leb (state_word ws 30) 1
