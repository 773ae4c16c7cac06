-- `feed::take_in` meets its contract: the words that end the unfinished line are run first, then the piece. Assumes nothing.
use mathlib.Core.Path.{◌≡◌, ◌∙◌, refl, sym}
use Prim.Native.Nat.{ℕ}
use native.Mathlib.Omega.{arith}
use borrow.Author.Rules.{rules}
use borrow.Author.Tests.{not-false, not-true}
use lib.IntN.{ℤ}
use lib.ListN.{length, take}
use lib.Seq.{length-take-le}
use mathlib.Core.List.{List}
use Rattle.line.specs.World.{Fixed, World, fixed, world}
use Rattle.run_lines.proofs.Loop.{same_sizes, sizes, still_sound}
use Rattle.feed_carry.proofs.Rooms.{Room, room}
use Rattle.feed.proofs.Pieces.{Runs, begins_run, begins_settled, run_goes, run_stops}
use Rattle.feed.proofs.take_in.Goals as goal
use Rattle.feed.proofs.take_in.Goals.{After-off-d, In-Run, Start}

abbrev held : Start → Fixed
held s = fixed s.args.rules s.args.controls.now s.args.gux.now s.args.guy.now s.args.gox.now s.args.goy.now s.args.contours.now

abbrev entry : Start → World
entry s =
    world s.args.c.state s.args.gx.now s.args.gy.now s.args.gflags.now s.args.tox.now s.args.toy.now s.args.tx.now s.args.ty.now s.args.tflags.now

has : (s : Start) → Room s.args.c.base s.args.c.held (length s.args.words.now) s.args.carry.now
has s = room s.args.c.base s.args.c.held (length s.args.words.now) s.args.carry.now s.requires.carry_value

abbrev words_run : In-Run → ℕ
words_run t = t.in-Run.k

abbrev kept_carry : In-Run → List ℤ
kept_carry t = t.first-begins.new.carry

abbrev kept_line : In-Run → List ℤ
kept_line t = t.first-begins.new.line

runs : (t : In-Run) → Runs t.args.c t.args.words.now t.args.carry.now (kept_carry t) (kept_line t) (words_run t)
runs t = let t = t in
    begins_run t.args.c t.args.words.now t.args.carry.now (kept_carry t) (kept_line t) t.first-begins.result t.first-begins.ensures t.in-Run.is

-- what was run first, and the world that it left
abbrev lists : After-off-d → World
lists o =
    world o.off-d.result.state o.off-d.new.gx o.off-d.new.gy o.off-d.new.gflags o.off-d.new.tox o.off-d.new.toy o.off-d.new.tx o.off-d.new.ty o.off-d.new.tflags

there_inside : (t : In-Run) → length (take (words_run t) (kept_line t)) ≡ words_run t
there_inside t = length-take-le (words_run t) (kept_line t) (omega (arith, (runs t).most, t.first-begins.auto.line))

same_carry : (t : In-Run) → length (kept_carry t) ≡ length t.args.carry.now
same_carry t = t.first-begins.auto.carry

same_lists : (o : After-off-d) → let entry : (World) = (world o.args.c.state o.args.gx.now o.args.gy.now o.args.gflags.now o.args.tox.now o.args.toy.now o.args.tx.now o.args.ty.now o.args.tflags.now) in
    sizes (lists o) ≡ sizes entry
same_lists o =
    let entry : (World) = (world o.args.c.state o.args.gx.now o.args.gy.now o.args.gflags.now o.args.tox.now o.args.toy.now o.args.tx.now o.args.ty.now o.args.tflags.now) in
    same_sizes o.off-d.auto.gx o.off-d.auto.gy o.off-d.auto.gflags o.off-d.auto.tox o.off-d.auto.toy o.off-d.auto.tx o.off-d.auto.ty o.off-d.auto.tflags

pub slice_bounds-first-end : goal.slice_bounds-first-end
slice_bounds-first-end c = refl

pub first-begins-requires : goal.first-begins-requires
first-begins-requires c = let r = has (goal.at.first-begins-requires c).Start in record { held_in_bounds = r.there; carry_value = r.waiting; most_line_in_bounds = r.line; line_len = refl }

pub slice_bounds-line-end : goal.slice_bounds-line-end
slice_bounds-line-end c = omega (arith, (runs (goal.at.slice_bounds-line-end c).In-Run).most, c.first-begins.auto.line)

pub slice_bounds-off-end : goal.slice_bounds-off-end
slice_bounds-off-end c = sym (length-take-le (words_run (goal.at.slice_bounds-off-end c).In-Run) (kept_line (goal.at.slice_bounds-off-end c).In-Run) (omega (arith, (runs (goal.at.slice_bounds-off-end c).In-Run).most, c.first-begins.auto.line)))

pub off-d-requires : goal.off-d-requires
off-d-requires c = let h = has (goal.at.off-d-requires c).Start in let x = runs (goal.at.off-d-requires c).In-Run in record { sound = c.requires.sound; at_in_bounds = omega arith; sheet_bound = omega (arith, there_inside (goal.at.off-d-requires c).In-Run, x.below, h.within); lines_le_most_words = omega arith; most_line_in_bounds = omega (arith, same_carry (goal.at.off-d-requires c).In-Run, h.line) }

pub returns-then-not-is_open : goal.returns-then-not-is_open
returns-then-not-is_open c = run_stops (held (goal.at.returns-then-not-is_open c).Start) c.args.c (entry (goal.at.returns-then-not-is_open c).Start) refl c.args.words.now c.args.carry.now (kept_carry (goal.at.returns-then-not-is_open c).In-Run) (kept_line (goal.at.returns-then-not-is_open c).In-Run) (has (goal.at.returns-then-not-is_open c).Start).there (has (goal.at.returns-then-not-is_open c).Start).waiting (words_run (goal.at.returns-then-not-is_open c).In-Run) (runs (goal.at.returns-then-not-is_open c).In-Run) (lists (goal.at.returns-then-not-is_open c).After-off-d) c.off-d.ensures.tflags_after (sym c.is_open.ensures ∙ not-true _ c.if-not-is_open.true-raw)

pub overflow_sub-k : goal.overflow_sub-k
overflow_sub-k c = omega (arith, (runs (goal.at.overflow_sub-k c).In-Run).above)

pub overflow_add-c : goal.overflow_add-c
overflow_add-c c = let h = has (goal.at.overflow_add-c c).Start in omega (arith, h.within)

pub off-requires : goal.off-requires
off-requires c = let h = has (goal.at.off-requires c).Start in let x = runs (goal.at.off-requires c).In-Run in record { sound = still_sound (held (goal.at.off-requires c).Start) (entry (goal.at.off-requires c).Start) (lists (goal.at.off-requires c).After-off-d) (same_lists (goal.at.off-requires c).After-off-d) c.requires.sound; at_in_bounds = omega (arith, x.above, x.below); sheet_bound = omega (arith, h.within); lines_le_most_words = omega (arith, c.off-d.ensures.lines_bound, there_inside (goal.at.off-requires c).In-Run, x.below, h.within); most_line_in_bounds = omega (arith, c.off-d.auto.carry, same_carry (goal.at.off-requires c).In-Run, h.line) }

pub returns-in-Settled : goal.returns-in-Settled
returns-in-Settled c = begins_settled (held (goal.at.returns-in-Settled c).Start) c.args.c (entry (goal.at.returns-in-Settled c).Start) refl c.args.words.now c.args.carry.now c.first-begins.new.carry c.first-begins.new.line (has (goal.at.returns-in-Settled c).Start).there (has (goal.at.returns-in-Settled c).Start).waiting c.first-begins.result c.first-begins.ensures c.in-Settled.is

pub returns-else-not-is_open : goal.returns-else-not-is_open
returns-else-not-is_open c = run_goes (held (goal.at.returns-else-not-is_open c).Start) c.args.c (entry (goal.at.returns-else-not-is_open c).Start) refl c.args.words.now c.args.carry.now (kept_carry (goal.at.returns-else-not-is_open c).In-Run) (kept_line (goal.at.returns-else-not-is_open c).In-Run) (has (goal.at.returns-else-not-is_open c).Start).there (has (goal.at.returns-else-not-is_open c).Start).waiting (words_run (goal.at.returns-else-not-is_open c).In-Run) (runs (goal.at.returns-else-not-is_open c).In-Run) (lists (goal.at.returns-else-not-is_open c).After-off-d) c.off-d.ensures.tflags_after (sym c.is_open.ensures ∙ not-false _ c.if-not-is_open.false-raw) c.off.ensures.tflags_after
