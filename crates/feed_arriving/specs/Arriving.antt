-- A sheet that arrives by the block, fed to what a record holds, and what is said and left at its end: document 02, K11, with K4's words and record.
-- Assumes nothing.
use Rattle.std.specs.Prelude.{ℕ, ◌+◌, cond, ◌&&◌, List, [], ◌++◌, ◌∷◌, ◌≡◌, ltb, ℤ, length}
use Rattle.rules.specs.declared.Rules.{Rules}
use Rattle.line.specs.World.{Fixed, World, under}
use Rattle.feed_carry.specs.Carry.{detail_of_said, said_is_open, number_of_said}
use Rattle.feed_carry.specs.Steps.{fed}
use Rattle.feed_carry.specs.declared.Fed.{Fed}
use Rattle.feed_carry.specs.declared.Said.TheVariants.{Open}
use Rattle.feed.specs.Feed.{Left, end_of, feed_of}
use Rattle.feed_blocks.specs.Blocks.{begun_in, words_in}
use Rattle.record_layout.specs.declared.Layout.{Layout}
use Rattle.record_read.specs.Format.{Held, held}
use Rattle.record_write.specs.Written.{Wrote, write_of}
use Rattle.record_run.specs.After.{Shelved, shelved}
use Rattle.record_run.specs.declared.Replayed.{Replayed}
use Rattle.record_replay.specs.Shelf.{refused_as}

-- ---- what has arrived
-- the bytes of a word that is begun, the lines finished so far, and what the last call of the feed left
pub record Arrived : Type 0 where
  pub begun : List ℕ
  pub lines : ℕ
  pub left : Left

-- what a call left, as the next is given it
abbrev pub given : Left → Fed
given l = fed l.said l.base l.held l.lines l.world.state

-- a piece of words
abbrev pub fed_with : Fixed → List ℕ → ℕ → Left → List ℤ → Arrived
fed_with f begun lines l piece =
    let after = feed_of f (given l) l.carry piece l.world in
    record { begun = begun; lines = lines + after.lines; left = after }

-- a block of bytes behind those of the word that was begun; after a refusal none is taken
unfoldable pub arrive : Fixed → Arrived → List ℕ → Arrived
arrive f a block =
    let bytes = a.begun ++ block in
    cond (said_is_open a.left.said) (fed_with f (begun_in bytes) a.lines a.left (words_in bytes)) a

abbrev pub arrive_all : Fixed → Arrived → List (List ℕ) → Arrived
arrive_all f a [] = a
arrive_all f a (block ∷ blocks) = arrive_all f (arrive f a block) blocks

-- nothing has arrived yet; a record's own sheet is the first piece
abbrev pub unfed : List ℤ → World → Left
unfed carry w = record { said = Open; base = 0; held = 0; lines = 0; carry = carry; world = w }

abbrev pub at_first : Fixed → List ℤ → Held → Arrived
at_first f carry h = fed_with f [] 0 (unfed carry h.world) h.sheet

-- ---- the end
-- the answer as a replay of a record has it, with all lines of the feed
abbrev pub fed_said : Layout → ℕ → Left → ℕ → Replayed
fed_said l lines e size =
    record { number = number_of_said e.said; place = e.base; lines = lines; detail = detail_of_said e.said; size = size; layout = l }

-- and the record as it then stands, without a sheet
abbrev pub ended_as : Layout → Fixed → ℕ → ℕ → Left → List ℕ → Shelved
ended_as l g most lines e out = let w = write_of most (held g [] e.world) out in shelved (fed_said l lines e w.size) w.bytes

-- "16" for input that ends within a word, as for a record that is no whole number of words
unfoldable pub end_arrived : Rules → ℕ → Layout → Fixed → List ℕ → Arrived → Shelved
end_arrived rules most l g out a =
    cond (said_is_open a.left.said && ltb 0 (length a.begun))
    (shelved (refused_as 16) out)
    (ended_as l g most a.lines (end_of (under rules g) (given a.left) a.left.carry a.left.world) out)

-- by these rules, with a record of at most so many bytes
unfoldable pub fed_shelf : Rules → ℕ → Layout → Held → List ℤ → List (List ℕ) → List ℕ → Shelved
fed_shelf rules most l h carry blocks out =
    let f = under rules h.fixed in
    end_arrived rules most l h.fixed out (arrive_all f (at_first f carry h) blocks)

-- so it is said and left, for some blocks: those that were read
pub record FedShelf (rules : Rules) (most : ℕ) (l : Layout) (h : Held) (carry : List ℤ) (out : List ℕ) (s : Shelved) : Type 0 where
  pub blocks : List (List ℕ)
  pub is : s ≡ fed_shelf rules most l h carry blocks out
