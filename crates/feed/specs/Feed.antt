-- A sheet that is fed in pieces: document 02, K11. Words are taken one by one; what isn't yet a line waits, and a line is done once it is whole, as a run
-- does it (document 01, "A sheet and its lines"). Assumes nothing.
use Rattle.answer.specs.declared.Refusal.{Refusal}
use Rattle.std.specs.Prelude.{ℕ, suc, ◌+◌, cond, true, ◌&&◌, List, [], ◌++◌, ◌∷◌, eqb, ℤ, drop, length, take, ⊤, Result, Ok, Err}
use Rattle.answer.specs.declared.Refusal.TheVariants.{Line}
use Rattle.contour_ends.specs.Ends.{ends_rise}
use Rattle.graphics.specs.State.{usable_state}
use Rattle.line.specs.Sizes.{world_fits}
use Rattle.line.specs.World.{Fixed, World, world}
use Rattle.feed_look.specs.Look.{look_of}
use Rattle.feed_look.specs.declared.Seen.{Seen}
use Rattle.feed_look.specs.declared.Seen.TheVariants.{Bad, Waits, Whole}
use Rattle.feed_look.specs.declared.Seen.TheVariants.{Long as LongLine}
use Rattle.run_step.specs.Step.{Went, step_of}
use Rattle.replay.specs.Run.{entry_of}
use Rattle.feed_carry.specs.Carry.{carry_has_room, said_is_open}
use Rattle.feed_carry.specs.declared.Fed.{Fed}
use Rattle.feed_carry.specs.declared.Said.{Said}
use Rattle.feed_carry.specs.declared.Said.TheVariants.{Ended, Long, Open, Refused}

-- ---- word by word
-- what was last said; the place of the unfinished line, counted from the feed's first word; the lines finished in this call; the words of the
-- unfinished line; and the world
pub record Feeding : Type 0 where
  pub said : Said
  pub base : ℕ
  pub lines : ℕ
  pub pending : List ℤ
  pub world : World

abbrev pub going : ℕ → ℕ → List ℤ → World → Feeding
going base lines pending w = record { said = Open; base = base; lines = lines; pending = pending; world = w }

-- it ends at the unfinished line, of which nothing was done, and nothing waits any more
abbrev pub stops : Said → Feeding → Feeding
stops said g = record { said = said; base = g.base; lines = g.lines; pending = []; world = g.world }

-- after a line: the next begins behind it, or the feed ends at it
unfoldable pub after_call : Feeding → World → Result ⊤ Refusal → Feeding
after_call g w (Ok tt) = going (g.base + length g.pending) (suc g.lines) [] w
after_call g w (Err why) = record { said = Refused why; base = g.base; lines = g.lines; pending = []; world = w }

abbrev pub after_line : Feeding → Went → Feeding
after_line g r = after_call g r.world r.call

-- the words that wait: more are needed, they are no line, too long a line, or a line to do
unfoldable pub on_seen : Fixed → Feeding → Seen → Feeding
on_seen f g Waits = g
on_seen f g Bad = stops (Refused Line) g
on_seen f g LongLine = stops Long g
on_seen f g (Whole n) = after_line g (step_of f g.pending 0 g.world)

-- one word more; a feed that has ended takes none
unfoldable pub push_by : Fixed → Feeding → ℤ → Said → Feeding
push_by f g x Open = let words = g.pending ++ (x ∷ []) in on_seen f (going g.base g.lines words g.world) (look_of words)
push_by f g x Ended = g
push_by f g x Long = g
push_by f g x (Refused why) = g

abbrev pub fed_all : Fixed → Feeding → List ℤ → Feeding
fed_all f g [] = g
fed_all f g (x ∷ words) = fed_all f (push_by f g x g.said) words

-- ---- a call
-- what each call tests, in the order of a run's entry: sizes (2), contour ends (14), state (3)
abbrev pub entered_feed : Fixed → Fed → List ℤ → List ℤ → World → Result ⊤ Refusal
entered_feed f c carry words w =
    entry_of (world_fits f words w && carry_has_room c.base c.held (length words) carry) (ends_rise (length w.gx) f.contours) (usable_state w.state) true

-- a call begins with what was kept, and no line finished
abbrev pub begun : Fed → List ℤ → World → Feeding
begun c carry w = going c.base 0 (take c.held carry) w

unfoldable pub fed_on_entry : Fixed → Feeding → List ℤ → Result ⊤ Refusal → Feeding
fed_on_entry f g words (Ok tt) = fed_all f g words
fed_on_entry f g words (Err why) = stops (Refused why) g

-- what a call leaves: what it says, what is kept for the next, and what every list holds
pub record Left : Type 0 where
  pub said : Said
  pub base : ℕ
  pub held : ℕ
  pub lines : ℕ
  pub carry : List ℤ
  pub world : World

abbrev pub left : Fed → List ℤ → List ℤ → List ℤ → List ℕ → List ℤ → List ℤ → List ℤ → List ℤ → List ℕ → Left
left c carry gx gy gflags tox toy tx ty tflags =
    record { said = c.said; base = c.base; held = c.held; lines = c.lines; carry = carry; world = world c.state gx gy gflags tox toy tx ty tflags }

-- the words that wait stand at the front of the carry, and nothing else of it changes
abbrev pub handed : List ℤ → Feeding → Left
handed carry g =
    record { said = g.said; base = g.base; held = length g.pending; lines = g.lines; carry = g.pending ++ drop (length g.pending) carry; world = g.world }

-- after the end or a refusal every call says the same, and changes nothing
abbrev pub unchanged : Fed → List ℤ → World → Left
unchanged c carry w = record { said = c.said; base = c.base; held = c.held; lines = c.lines; carry = carry; world = w }

-- a piece
unfoldable pub feed_of : Fixed → Fed → List ℤ → List ℤ → World → Left
feed_of f c carry words w =
    cond (said_is_open c.said) (handed carry (fed_on_entry f (begun c carry w) words (entered_feed f c carry words w))) (unchanged c carry w)

-- the last call, which has no words: an unfinished line is refused
unfoldable pub ended_on_entry : Feeding → ℕ → Result ⊤ Refusal → Feeding
ended_on_entry g held (Ok tt) = stops (cond (eqb held 0) Ended (Refused Line)) g
ended_on_entry g held (Err why) = stops (Refused why) g

unfoldable pub end_of : Fixed → Fed → List ℤ → World → Left
end_of f c carry w =
    cond (said_is_open c.said) (handed carry (ended_on_entry (begun c carry w) c.held (entered_feed f c carry [] w))) (unchanged c carry w)
