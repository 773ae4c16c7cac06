-- Reading undoes writing, and writing undoes reading: `read_written` holds of every state whose signed fields are words, as those of a running
-- program always are, and `written_read` of every list of words that `is_state` takes. Assumes nothing.
use mathlib.Core.Bool.{Bool, ◌&&◌, false, true}
use mathlib.Core.List.{List, [], ◌∷◌}
use mir.Val.{SFits}
use Prim.Native.Nat.{◌%◌, ◌*◌, ◌+◌, ◌/◌, ◌<◌, ◌^◌, ◌≤◌, suc, zero, ℕ}
use mathlib.Core.Path.{◌∙◌, ◌≡◌, ap, ap₂, refl, sym}
use native.Mathlib.Omega.{arith}
use lib.Dec.{eqb, leb}
use borrow.Author.Tests.{eqb-true, leb-true}
use lib.ListN.{drop, length, take}
use mir.Facts.{of_z-to_z, to_z-of_z}
use mir.Syntax.{w32}
use lib.IntN.{ℤ}
use Rattle.round.specs.declared.RoundMode.TheVariants.{DoubleGrid, DownToGrid, Grid, HalfGrid, Off, Super, Super45, UpToGrid}
use Rattle.graphics.specs.declared.ZonePointer.TheVariants.{Glyph, Twilight}
use Rattle.graphics.specs.declared.GraphicsState.{GraphicsState}
use Rattle.graphics.specs.declared.Measures.{Measures}
use Rattle.round.specs.declared.RoundMode.{RoundMode}
use Rattle.round.specs.declared.RoundState.{RoundState}
use Rattle.graphics.specs.declared.Vector.{Vector}
use Rattle.graphics.specs.declared.Vectors.{Vectors}
use Rattle.graphics.specs.declared.ZonePointer.{ZonePointer}
use Rattle.graphics.proofs.Laws.{and_left, and_right}
use Rattle.int.specs.Word.{bits_of, of_bits}
use Rattle.words.specs.Lists.{all_at_most}
use Rattle.state_words.specs.Words.{fact_of, fact_word, is_state, mode_of, mode_word, state_of, state_size, state_words, state_word, zone_of, zone_word}
use Rattle.state_words.proofs.Parts.{at_most_nth, part_nth}
use Rattle.state_words.proofs.Same.{same_facts, same_measures, same_pointers, same_references, same_round, same_state, same_tallies, same_vector, same_vectors}

-- ---- one word, written and read
word_read : {z : ℤ} → SFits w32 z → of_bits (bits_of z) ≡ z
word_read f = to_z-of_z f

long_read : (n : ℕ) → n % 2 ^ 32 + n / 2 ^ 32 * 2 ^ 32 ≡ n
long_read n = omega arith

mode_read : (m : RoundMode) → mode_of (mode_word m) ≡ m
mode_read Grid = refl
mode_read HalfGrid = refl
mode_read DoubleGrid = refl
mode_read DownToGrid = refl
mode_read UpToGrid = refl
mode_read Off = refl
mode_read Super = refl
mode_read Super45 = refl

zone_read : (z : ZonePointer) → zone_of (zone_word z) ≡ z
zone_read Twilight = refl
zone_read Glyph = refl

fact_read : (b : Bool) → fact_of (fact_word b) ≡ b
fact_read true = refl
fact_read false = refl

-- ---- a state, written and read
abbrev pub VectorFits : Vector → Type 0
VectorFits v = SFits w32 v.x × SFits w32 v.y

abbrev pub VectorsFit : Vectors → Type 0
VectorsFit v = VectorFits v.projection × VectorFits v.dual × VectorFits v.freedom

abbrev pub RoundFits : RoundState → Type 0
RoundFits r = SFits w32 r.threshold × SFits w32 r.phase × SFits w32 r.period

pub record MeasuresFit (m : Measures) : Type 0 where
  pub cut_in : SFits w32 m.cut_in
  pub minimum_distance : SFits w32 m.minimum_distance
  pub single_width : SFits w32 m.single_width
  pub single_width_cut_in : SFits w32 m.single_width_cut_in
  pub scale : SFits w32 m.scale

-- each signed field is a word: from -2 ^ 31 up to 2 ^ 31 - 1
pub record StateFits (s : GraphicsState) : Type 0 where
  pub vectors : VectorsFit s.vectors
  pub round : RoundFits s.round
  pub measures : MeasuresFit s.measures
  pub last_pushed : SFits w32 s.tallies.last_pushed

vector_read : (v : Vector) → VectorFits v → record { x = of_bits (bits_of v.x); y = of_bits (bits_of v.y) } ≡ v
vector_read v f = same_vector (word_read f.0) (word_read f.1)

vectors_read : (s : GraphicsState) → VectorsFit s.vectors → (state_of (state_words s)).vectors ≡ s.vectors
unfolding state_of state_words
vectors_read s f =
    same_vectors (vector_read s.vectors.projection f.0) (vector_read s.vectors.dual f.1) (vector_read s.vectors.freedom f.2)

round_read : (s : GraphicsState) → RoundFits s.round → (state_of (state_words s)).round ≡ s.round
unfolding state_of state_words
round_read s f = same_round (mode_read s.round.mode) (word_read f.0) (word_read f.1) (word_read f.2)

references_read : (s : GraphicsState) → (state_of (state_words s)).references ≡ s.references
unfolding state_of state_words
references_read s = same_references (long_read s.references.rp0) (long_read s.references.rp1) (long_read s.references.rp2)

pointers_read : (s : GraphicsState) → (state_of (state_words s)).pointers ≡ s.pointers
unfolding state_of state_words
pointers_read s = same_pointers (zone_read s.pointers.zp0) (zone_read s.pointers.zp1) (zone_read s.pointers.zp2)

facts_read : (s : GraphicsState) → (state_of (state_words s)).facts ≡ s.facts
unfolding state_of state_words
facts_read s =
    let f = s.facts in
    same_facts (fact_read f.backward_compatibility) (fact_read f.pedantic) (fact_read f.native_clear_type_x) (fact_read f.did_iup_x) (fact_read f.did_iup_y)

measures_read : (s : GraphicsState) → MeasuresFit s.measures → (state_of (state_words s)).measures ≡ s.measures
unfolding state_of state_words
measures_read s f =
    same_measures (word_read f.cut_in) (word_read f.minimum_distance) (word_read f.single_width) (word_read f.single_width_cut_in)
    (fact_read s.measures.auto_flip) (word_read f.scale)

tallies_read : (s : GraphicsState) → SFits w32 s.tallies.last_pushed → (state_of (state_words s)).tallies ≡ s.tallies
unfolding state_of state_words
tallies_read s f = same_tallies refl (word_read f) refl

pub read_written : (s : GraphicsState) → StateFits s → state_of (state_words s) ≡ s
unfolding state_of state_words
read_written s f =
    same_state (vectors_read s f.vectors) (round_read s f.round) (references_read s) refl (pointers_read s) (measures_read s f.measures) (facts_read s)
    (tallies_read s f.last_pushed)

-- ---- one word, read and written
word_written : (n : ℕ) → n < 2 ^ 32 → bits_of (of_bits n) ≡ n
word_written n h = of_z-to_z {w = w32} (record { fits = h })

low_written : (l h : ℕ) → l < 2 ^ 32 → (l + h * 2 ^ 32) % 2 ^ 32 ≡ l
low_written l h f = omega arith

high_written : (l h : ℕ) → l < 2 ^ 32 → (l + h * 2 ^ 32) / 2 ^ 32 ≡ h
high_written l h f = omega arith

mode_written : (n : ℕ) → n ≤ 7 → mode_word (mode_of n) ≡ n
mode_written zero h = refl
mode_written (suc zero) h = refl
mode_written (suc (suc zero)) h = refl
mode_written (suc (suc (suc zero))) h = refl
mode_written (suc (suc (suc (suc zero)))) h = refl
mode_written (suc (suc (suc (suc (suc zero))))) h = refl
mode_written (suc (suc (suc (suc (suc (suc zero)))))) h = refl
mode_written (suc (suc (suc (suc (suc (suc (suc zero))))))) h = refl
mode_written (suc (suc (suc (suc (suc (suc (suc (suc n)))))))) h = absurd (omega arith)

zone_written : (n : ℕ) → n ≤ 1 → zone_word (zone_of n) ≡ n
zone_written zero h = refl
zone_written (suc zero) h = refl
zone_written (suc (suc n)) h = absurd (omega arith)

fact_written : (n : ℕ) → n ≤ 1 → fact_word (fact_of n) ≡ n
fact_written zero h = refl
fact_written (suc zero) h = refl
fact_written (suc (suc n)) h = absurd (omega arith)

-- ---- a list, word by word
-- n words of ws, the first of them word k
abbrev listed : ℕ → ℕ → List ℕ → List ℕ
listed k zero ws = []
listed k (suc n) ws = state_word ws k ∷ listed (suc k) n ws

listed_tail : (k n x : ℕ) (ws : List ℕ) → listed (suc k) n (x ∷ ws) ≡ listed k n ws
listed_tail k zero x ws = refl
listed_tail k (suc n) x ws = ap (λ (t : List ℕ). state_word ws k ∷ t) (listed_tail (suc k) n x ws)

listed_all : (ws : List ℕ) → listed 0 (length ws) ws ≡ ws
listed_all [] = refl
listed_all (x ∷ ws) = ap (λ (t : List ℕ). x ∷ t) (listed_tail 0 (length ws) x ws ∙ listed_all ws)

pub cons : {a b : ℕ} {l m : List ℕ} → a ≡ b → l ≡ m → a ∷ l ≡ b ∷ m
cons e es = ap₂ (λ (x : ℕ) (xs : List ℕ). x ∷ xs) e es

-- ---- words, read and written
-- what `is_state` says of each word
module _ (ws : List ℕ) (e : is_state ws ≡ true) where
  all_in : eqb (length ws) state_size && leb (state_word ws 6) 7 && all_at_most 1 (take 8 (drop 17 ws)) && leb (state_word ws 30) 1 ≡ true
  unfolding is_state
  all_in = e

  first_three : eqb (length ws) state_size && leb (state_word ws 6) 7 && all_at_most 1 (take 8 (drop 17 ws)) ≡ true
  first_three = and_left _ (leb (state_word ws 30) 1) all_in

  first_two : eqb (length ws) state_size && leb (state_word ws 6) 7 ≡ true
  first_two = and_left _ (all_at_most 1 (take 8 (drop 17 ws))) first_three

  pub size_is : length ws ≡ state_size
  size_is = eqb-true (length ws) state_size (and_left _ (leb (state_word ws 6) 7) first_two)

  mode_in : state_word ws 6 ≤ 7
  mode_in = leb-true (state_word ws 6) 7 (and_right (eqb (length ws) state_size) _ first_two)

  small : (j : ℕ) → j < 8 → state_word ws (17 + j) ≤ 1
  small j h =
      let within = at_most_nth 1 (take 8 (drop 17 ws)) j (and_right (eqb (length ws) state_size && leb (state_word ws 6) 7) _ first_three) in
      omega (arith, within, part_nth ws 17 8 j h)

  flip_in : state_word ws 30 ≤ 1
  flip_in = leb-true (state_word ws 30) 1 (and_right (eqb (length ws) state_size && leb (state_word ws 6) 7 && all_at_most 1 (take 8 (drop 17 ws))) _ all_in)

module _ (ws : List ℕ) (in-range : is_state ws ≡ true) where
  zone_at : (j : ℕ) → j < 8 → zone_word (zone_of (state_word ws (17 + j))) ≡ state_word ws (17 + j)
  zone_at j h = zone_written (state_word ws (17 + j)) (small ws in-range j h)

  fact_at : (j : ℕ) → j < 8 → fact_word (fact_of (state_word ws (17 + j))) ≡ state_word ws (17 + j)
  fact_at j h = fact_written (state_word ws (17 + j)) (small ws in-range j h)

  module _ (fit : (k : ℕ) → state_word ws k < 2 ^ 32) where
    num : (k : ℕ) → bits_of (of_bits (state_word ws k)) ≡ state_word ws k
    num k = word_written (state_word ws k) (fit k)

    low : (k j : ℕ) → (state_word ws k + state_word ws j * 2 ^ 32) % 2 ^ 32 ≡ state_word ws k
    low k j = low_written (state_word ws k) (state_word ws j) (fit k)

    high : (k j : ℕ) → (state_word ws k + state_word ws j * 2 ^ 32) / 2 ^ 32 ≡ state_word ws j
    high k j = high_written (state_word ws k) (state_word ws j) (fit k)

    each : state_words (state_of ws) ≡ listed 0 state_size ws
    unfolding state_words state_of
    each =
        cons (num 0) (cons (num 1) (cons (num 2) (cons (num 3) (cons (num 4) (cons (num 5)
        (cons (mode_written (state_word ws 6) (mode_in ws in-range)) (cons (num 7) (cons (num 8) (cons (num 9)
        (cons (low 10 11) (cons (high 10 11) (cons (low 12 13) (cons (high 12 13) (cons (low 14 15) (cons (high 14 15)
        (cons refl
        (cons (zone_at 0 (omega arith)) (cons (zone_at 1 (omega arith)) (cons (zone_at 2 (omega arith))
        (cons (fact_at 3 (omega arith)) (cons (fact_at 4 (omega arith)) (cons (fact_at 5 (omega arith)) (cons (fact_at 6 (omega arith)) (cons (fact_at 7 (omega arith))
        (cons (num 25) (cons refl
        (cons (num 27) (cons (num 28) (cons (num 29) (cons (fact_written (state_word ws 30) (flip_in ws in-range)) (cons (num 31) (cons (num 32) (cons refl refl)))))))))))))))))))))))))))))))))

    pub written_read : state_words (state_of ws) ≡ ws
    written_read = each ∙ ap (λ (n : ℕ). listed 0 n ws) (sym (size_is ws in-range)) ∙ listed_all ws
