-- What a call returns and leaves that feeds a piece, or ends a feed: document 02, K11, on what the words stand for that are kept between the calls.
-- Assumes nothing.
use Rattle.std.specs.Prelude.{ℕ, Bool, cond, ◌&&◌, List, [], ◌∷◌, eqb, leb, ℤ, get_or, length, Option, Some, None}
use Rattle.graphics.specs.declared.GraphicsState.{GraphicsState}
use Rattle.line.specs.World.{Fixed, World, world}
use Rattle.rules.specs.declared.Rules.{Rules}
use Rattle.state_words.specs.Words.{is_state, state_of, state_words}
use Rattle.feed_carry.specs.Carry.{detail_of_said, number_of_said}
use Rattle.feed_carry.specs.declared.Fed.{Fed}
use Rattle.feed_carry.specs.declared.Said.TheVariants.{Open}
use Rattle.feed.specs.Feed.{end_of, feed_of}
use Rattle.feed.specs.Feed.{Left as FeedLeft}
use Rattle.feed_calls.specs.Left.{Left, bad_word, left, refused_call}

-- ---- what is kept between calls, beside the state and the carry: number, place, lines, detail, and how many words of the carry wait
abbrev pub feed_size : ℕ
feed_size = 5

abbrev pub kept : List ℕ → ℕ → ℕ
kept feed k = get_or feed k 0

unfoldable pub fed_words : ℕ → ℕ → ℕ → ℕ → ℕ → List ℕ → List ℕ
fed_words number place lines detail held old = cond (eqb (length old) feed_size) (number ∷ place ∷ lines ∷ detail ∷ held ∷ []) old

-- a feed that can go on, and what it stands for
unfoldable pub is_open_feed : List ℕ → Bool
is_open_feed feed = eqb (length feed) feed_size && eqb (kept feed 0) 1

abbrev pub fed_of : GraphicsState → List ℕ → Fed
fed_of s feed = record { said = Open; base = kept feed 1; held = kept feed 4; lines = kept feed 2; state = s }

-- any other says what it said; what no call leaves is a word out of its range
unfoldable pub said_before : List ℕ → ℕ
said_before feed = cond (eqb (length feed) feed_size && leb (kept feed 0) 18) (kept feed 0) bad_word

-- a feed that is refused ends where it stood
abbrev pub refused_feed : List ℕ → List ℕ
refused_feed feed = fed_words bad_word (kept feed 1) 0 0 0 feed

abbrev pub numbers_of : FeedLeft → List ℕ
numbers_of d = number_of_said d.said ∷ d.base ∷ d.lines ∷ detail_of_said d.said ∷ d.held ∷ []

-- ---- a piece
-- what a call leaves, with the feed's numbers in the answer's place, and the carry
pub record Carried : Type 0 where
  pub call : Left
  pub carry : List ℤ

abbrev pub carried : List ℤ → Left → Carried
carried carry call = record { call = call; carry = carry }

abbrev pub handed_on : FeedLeft → Carried
handed_on d =
    let w = d.world in
    carried d.carry (left (number_of_said d.said) (state_words w.state) (numbers_of d) w.gx w.gy w.gflags w.tox w.toy w.tx w.ty w.tflags)

-- a feed that can go on: a number that names no rules, or words that are no state, are refused
unfoldable pub open_call_of : (Rules → Fixed) → List ℤ → List ℕ → List ℕ → List ℤ → List ℤ → List ℤ → List ℕ → List ℤ → List ℤ → List ℤ → List ℤ → List ℕ → Option Rules → Carried
open_call_of f piece words feed carry gx gy gflags tox toy tx ty tflags None = carried carry (refused_call words (refused_feed feed) gx gy gflags tox toy tx ty tflags)
open_call_of f piece words feed carry gx gy gflags tox toy tx ty tflags (Some rules) =
    cond (is_state words)
    (handed_on (feed_of (f rules) (fed_of (state_of words) feed) carry piece (world (state_of words) gx gy gflags tox toy tx ty tflags)))
    (carried carry (refused_call words (refused_feed feed) gx gy gflags tox toy tx ty tflags))

-- on any other nothing changes
unfoldable pub feed_call_of : (Rules → Fixed) → List ℤ → List ℕ → List ℕ → List ℤ → List ℤ → List ℤ → List ℕ → List ℤ → List ℤ → List ℤ → List ℤ → List ℕ → Option Rules → Carried
feed_call_of f piece words feed carry gx gy gflags tox toy tx ty tflags named =
    cond (is_open_feed feed)
    (open_call_of f piece words feed carry gx gy gflags tox toy tx ty tflags named)
    (carried carry (left (said_before feed) words feed gx gy gflags tox toy tx ty tflags))

-- ---- the end: nothing changes but the feed's numbers
pub record Told : Type 0 where
  pub number : ℕ
  pub feed : List ℕ

abbrev pub told : ℕ → List ℕ → Told
told number feed = record { number = number; feed = feed }

unfoldable pub feed_end_call_of : Fixed → List ℕ → List ℕ → List ℤ → (GraphicsState → World) → Told
feed_end_call_of f words feed carry w =
    cond (is_open_feed feed)
    (cond (is_state words)
    (let d = end_of f (fed_of (state_of words) feed) carry (w (state_of words)) in told (number_of_said d.said) (numbers_of d))
    (told bad_word (refused_feed feed)))
    (told (said_before feed) feed)
