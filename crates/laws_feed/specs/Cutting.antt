-- A feed as a caller holds it from call to call, how it ends, and what is asked of a sheet whose feed is compared with one run: document 02, K11.
-- Assumes nothing.
use Rattle.answer.specs.declared.Refusal.{Refusal}
use Rattle.std.specs.Prelude.{ℕ, suc, zero, ◌+◌, ◌^◌, Bool, not, true, ◌&&◌, List, [], ◌++◌, ◌∷◌, eqb, leb, ltb, pos, ℤ, drop, get_or, length, ⊤, Result, Ok, Err}
use Rattle.int.specs.Word.{index_of}
use Rattle.line.specs.World.{Fixed, World}
use Rattle.opcodes.specs.Table.{need_of, unknown}
use Rattle.feed_look.specs.Look.{most_operands}
use Rattle.feed.specs.Feed.{Left, end_of, feed_of}
use Rattle.feed_carry.specs.Steps.{fed}
use Rattle.feed_carry.specs.declared.Fed.{Fed}
use Rattle.feed_carry.specs.declared.Said.{Said}
use Rattle.feed_carry.specs.declared.Said.TheVariants.{Ended, Open, Refused}
use Rattle.run_lines.specs.Onward.{Ran}
use Rattle.run_lines.specs.declared.Answer.{Answer}
use Rattle.run_lines.specs.declared.Answer.TheVariants.{Finished, OutOfBudget}
use Rattle.run_lines.specs.declared.Answer.TheVariants.{Refused as RefusedRun}
use Rattle.run_step.specs.Step.{Went, step_of}
use Rattle.replay.specs.Run.{entered}

-- ---- from call to call
-- nothing has arrived: the feed of `begin`, the carry and the world
abbrev pub started : List ℤ → World → Left
started carry w = record { said = Open; base = 0; held = 0; lines = 0; carry = carry; world = w }

-- what a call handed back, as the next is given it
abbrev pub given : Left → Fed
given l = fed l.said l.base l.held l.lines l.world.state

abbrev pub fed_piece : Fixed → Left → List ℤ → Left
fed_piece f l piece = feed_of f (given l) l.carry piece l.world

abbrev pub fed_end : Fixed → Left → Left
fed_end f l = end_of f (given l) l.carry l.world

-- pieces one after the other
abbrev pub fed_through : Fixed → Left → List (List ℤ) → Left
fed_through f l [] = l
fed_through f l (piece ∷ pieces) = fed_through f (fed_piece f l piece) pieces

-- and the end
abbrev pub fed_pieces : Fixed → Left → List (List ℤ) → Left
fed_pieces f l pieces = fed_end f (fed_through f l pieces)

abbrev pub joined : List (List ℤ) → List ℤ
joined [] = []
joined (piece ∷ pieces) = piece ++ joined pieces

-- ---- how it ends
-- what is said, the place, and the world: points, flags and state
pub record Ending : Type 0 where
  pub said : Said
  pub place : ℕ
  pub world : World

abbrev pub ending : Said → ℕ → World → Ending
ending said place w = record { said = said; place = place; world = w }

abbrev pub ending_of : Left → Ending
ending_of l = ending l.said l.base l.world

-- a run's answer, as a feed says it: 0, 1, or the refusal
abbrev pub said_of : Answer → Said
said_of Finished = Ended
said_of OutOfBudget = Open
said_of (RefusedRun why) = Refused why

abbrev pub ending_of_run : Ran → Ending
ending_of_run r = ending (said_of r.answer) r.place r.world

-- ---- of which sheets
-- a line of a known opcode, from its first word on, whose count word is above 4,096 and not below zero (which is an index of 2 ^ 31 and more)
abbrev pub long_count : List ℤ → Bool
long_count words =
    let op = index_of (get_or words 0 (pos 0)) in
    let count = index_of (get_or words 1 (pos 0)) in
    leb 2 (length words) && leb op 255 && not (eqb (need_of op) unknown) && ltb most_operands count && ltb count (2 ^ 31)

unfoldable pub on_done : (ℕ → World → Bool) → Went → Result ⊤ Refusal → Bool
on_done rest r (Ok tt) = rest r.place r.world
on_done rest r (Err why) = true

-- no count word that a run reads from a place on is above 4,096
unfoldable pub counts_short : Fixed → List ℤ → ℕ → ℕ → World → Bool
counts_short f sheet zero at w = true
counts_short f sheet (suc budget) at w =
    not (long_count (drop at sheet)) && on_done (counts_short f sheet budget) (step_of f sheet at w) (step_of f sheet at w).call

unfoldable pub short_on_entry : Fixed → List ℤ → ℕ → World → Result ⊤ Refusal → Bool
short_on_entry f sheet budget w (Ok tt) = counts_short f sheet budget 0 w
short_on_entry f sheet budget w (Err why) = true

-- of a run from the sheet's first word, which reads none where it is refused at its entry
abbrev pub reads_short : Fixed → List ℤ → ℕ → World → Bool
reads_short f sheet budget w = short_on_entry f sheet budget w (entered f sheet 0 w)
