-- `run_lines::onward` meets its contract. The invariant: the rest of the run, from here with the lines so far, is the whole run, and no list has changed
-- its length. Assumes nothing.
use mathlib.Core.Path.{◌∙◌, ◌≡◌, ap, refl}
use Prim.Native.Nat.{◌+◌, ◌-◌, ◌<◌, ℕ}
use native.Mathlib.Omega.{arith}
use lib.ListN.{length}
use Rattle.graphics.specs.declared.GraphicsState.{GraphicsState}
use Rattle.line.specs.World.{Fixed, World, fixed, world}
use Rattle.run_lines.specs.Onward.{ends, replay_of}
use Rattle.run_lines.specs.declared.Answer.TheVariants.{Finished, OutOfBudget}
use Rattle.run_lines.proofs.Loop.{at_end, goes_on, same_sizes, still_sound, stops, used}
use Rattle.run_lines.proofs.onward.Goals as goal
use Rattle.run_lines.proofs.onward.Goals.{At-loop-lines, Start}

abbrev held : Start → Fixed
held s = fixed s.args.rules s.args.controls.now s.args.gux.now s.args.guy.now s.args.gox.now s.args.goy.now s.args.contours.now

abbrev stated : Start → GraphicsState → World
stated s t =
    world t s.args.gx.now s.args.gy.now s.args.gflags.now s.args.tox.now s.args.toy.now s.args.tx.now s.args.ty.now s.args.tflags.now

abbrev entry : Start → World
entry s = stated s s.args.s

abbrev worded : At-loop-lines → World
worded l =
    let stated : (GraphicsState → World) = (λ t. world t l.args.gx.now l.args.gy.now l.args.gflags.now l.args.tox.now l.args.toy.now l.args.tx.now l.args.ty.now l.args.tflags.now) in
    stated l.by_words-state.result

-- as many lines are left as the budget has above those that are done
some_left : {budget lines : ℕ} → lines < budget → budget - lines ≡ 0 → ⊥
some_left {budget} {lines} h e = omega (arith, h, e)

-- the world at the loop's head
abbrev head : At-loop-lines → World
head l = world l.loop-lines.state l.loop-lines.gx l.loop-lines.gy l.loop-lines.gflags l.loop-lines.tox l.loop-lines.toy l.loop-lines.tx l.loop-lines.ty l.loop-lines.tflags

-- the run from the state put together by its words, which is the same
in_words : (l : At-loop-lines) → let held : (Fixed) = (fixed l.args.rules l.args.controls.now l.args.gux.now l.args.guy.now l.args.gox.now l.args.goy.now l.args.contours.now) in
    let stated : (GraphicsState → World) = (λ t. world t l.args.gx.now l.args.gy.now l.args.gflags.now l.args.tox.now l.args.toy.now l.args.tx.now l.args.ty.now l.args.tflags.now) in
    let entry : (World) = (stated l.args.s) in
    let worded : (World) = (stated l.by_words-state.result) in
    replay_of held l.args.sheet.now l.args.budget 0 l.args.start worded ≡ replay_of held l.args.sheet.now l.args.budget 0 l.args.start entry
in_words l =
    let held : (Fixed) = (fixed l.args.rules l.args.controls.now l.args.gux.now l.args.guy.now l.args.gox.now l.args.goy.now l.args.contours.now) in
    let stated : (GraphicsState → World) = (λ t. world t l.args.gx.now l.args.gy.now l.args.gflags.now l.args.tox.now l.args.toy.now l.args.tx.now l.args.ty.now l.args.tflags.now) in
    let entry : (World) = (stated l.args.s) in
    let worded : (World) = (stated l.by_words-state.result) in
    let l = l in
    ap (λ (t : GraphicsState). replay_of held l.args.sheet.now l.args.budget 0 l.args.start (stated t)) l.by_words-state.ensures

pub loop-lines-init : goal.loop-lines-init
loop-lines-init c = record { run = let none_done : c.args.budget - 0 ≡ c.args.budget = omega arith in rw none_done; same = refl }

pub returns-then-sheet-at : goal.returns-then-sheet-at
returns-then-sheet-at c = at_end (held (goal.at.returns-then-sheet-at c).Start) c.args.sheet.now _ _ _ (head (goal.at.returns-then-sheet-at c).At-loop-lines) c.if-sheet-at.true ∙ c.loop-lines.invariant.run ∙ in_words (goal.at.returns-then-sheet-at c).At-loop-lines

pub step-r-requires : goal.step-r-requires
step-r-requires c = still_sound (held (goal.at.step-r-requires c).Start) (entry (goal.at.step-r-requires c).Start) (head (goal.at.step-r-requires c).At-loop-lines) c.loop-lines.invariant.same c.requires

pub returns-in-Err : goal.returns-in-Err
returns-in-Err c = stops (held (goal.at.returns-in-Err c).Start) c.args.sheet.now _ _ _ (head (goal.at.returns-in-Err c).At-loop-lines) _ c.step-r.ensures c.if-sheet-at.false (some_left c.loop-lines-test.true) c.in-Err.is ∙ c.loop-lines.invariant.run ∙ in_words (goal.at.returns-in-Err c).At-loop-lines

pub loop-lines-preserved : goal.loop-lines-preserved
loop-lines-preserved c =
    record {
      run =
          let one_less : c.args.budget - (c.loop-lines.lines + 1) ≡ c.args.budget - c.loop-lines.lines - 1 = omega arith in
          rw one_less
          (goes_on (held (goal.at.loop-lines-preserved c).Start) c.args.sheet.now _ _ _ (head (goal.at.loop-lines-preserved c).At-loop-lines) _ c.step-r.ensures c.if-sheet-at.false (some_left c.loop-lines-test.true) c.in-Ok.is ∙ c.loop-lines.invariant.run);
      same =
          same_sizes {b0 = length c.loop-lines.gx} {b1 = length c.loop-lines.gy} {b2 = length c.loop-lines.gflags}
          {b3 = length c.loop-lines.tox} {b4 = length c.loop-lines.toy} {b5 = length c.loop-lines.tx}
          {b6 = length c.loop-lines.ty} {b7 = length c.loop-lines.tflags}
          (search c.step-r.auto) (search c.step-r.auto) (search) (search) (search) (search) (search) (search)
          ∙ c.loop-lines.invariant.same;
    }

pub returns-then-sheet-at-2 : goal.returns-then-sheet-at-2
returns-then-sheet-at-2 c =
    let w = head (goal.at.returns-then-sheet-at-2 c).At-loop-lines in
    let all : c.args.budget ≡ c.loop-lines.lines = omega arith in
    ap (λ (n : ℕ). ends Finished n c.loop-lines.at w) all ∙ at_end (held (goal.at.returns-then-sheet-at-2 c).Start) c.args.sheet.now _ _ _ w c.if-sheet-at-2.true ∙ c.loop-lines.invariant.run ∙ in_words (goal.at.returns-then-sheet-at-2 c).At-loop-lines

pub returns-else-sheet-at-2 : goal.returns-else-sheet-at-2
returns-else-sheet-at-2 c =
    let w = head (goal.at.returns-else-sheet-at-2 c).At-loop-lines in
    let all : c.args.budget ≡ c.loop-lines.lines = omega arith in
    ap (λ (n : ℕ). ends OutOfBudget n c.loop-lines.at w) all ∙ used (held (goal.at.returns-else-sheet-at-2 c).Start) c.args.sheet.now (c.args.budget - c.loop-lines.lines) _ _ w (omega arith) c.if-sheet-at-2.false ∙ c.loop-lines.invariant.run ∙ in_words (goal.at.returns-else-sheet-at-2 c).At-loop-lines
