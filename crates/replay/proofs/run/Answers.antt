-- `replay::run` meets its contract: by what the entry tests say; where they are passed, each zone's lists share one length. Assumes nothing.
use mathlib.Core.Path.{◌∙◌, ◌≡◌, ap}
use borrow.Author.Rules.{rules}
use Rattle.line.specs.World.{Fixed, World, fixed, world}
use Rattle.run_lines.specs.declared.Outcome.{Outcome}
use Rattle.run_lines.specs.Onward.{ran}
use Rattle.replay.specs.Run.{entered}
use Rattle.replay.proofs.Entry.{entered_sound, entry_is, not_entered, run_entered}
use Rattle.replay.proofs.run.Goals as goal
use Rattle.replay.proofs.run.Goals.{After-enter-begun, Start}

abbrev entry : Start → World
entry s =
    world s.args.s s.args.gx.now s.args.gy.now s.args.gflags.now s.args.tox.now s.args.toy.now s.args.tx.now s.args.ty.now s.args.tflags.now

abbrev held : Start → Fixed
held s = fixed s.args.rules s.args.controls.now s.args.gux.now s.args.guy.now s.args.gox.now s.args.goy.now s.args.contours.now

-- what the tests say of the world at the start
tests : (k : After-enter-begun) → let entry : (World) = (world k.args.s k.args.gx.now k.args.gy.now k.args.gflags.now k.args.tox.now k.args.toy.now k.args.tx.now k.args.ty.now k.args.tflags.now) in
    let held : (Fixed) = (fixed k.args.rules k.args.controls.now k.args.gux.now k.args.guy.now k.args.gox.now k.args.goy.now k.args.contours.now) in
    k.enter-begun.result ≡ entered held k.args.sheet.now k.args.start entry
tests k =
    let entry : (World) = (world k.args.s k.args.gx.now k.args.gy.now k.args.gflags.now k.args.tox.now k.args.toy.now k.args.tx.now k.args.ty.now k.args.tflags.now) in
    let held : (Fixed) = (fixed k.args.rules k.args.controls.now k.args.gux.now k.args.guy.now k.args.gox.now k.args.goy.now k.args.contours.now) in
    let k = k in
    entry_is held k.args.sheet.now k.args.start entry k.enter-begun.ensures (k.sizes_fit-sized.ensures k.args.rules) k.ends_rise-rising.ensures k.is_usable.ensures

pub onward-requires : goal.onward-requires
onward-requires c = entered_sound (held (goal.at.onward-requires c).Start) c.args.sheet.now c.args.start (entry (goal.at.onward-requires c).Start) (tests (goal.at.onward-requires c).After-enter-begun) c.in-Ok.is

pub returns-in-Err : goal.returns-in-Err
returns-in-Err c = ap (λ (o : Outcome). ran o c.args.gx.now c.args.gy.now c.args.gflags.now c.args.tox.now c.args.toy.now c.args.tx.now c.args.ty.now c.args.tflags.now) c.at_entry.ensures
    ∙ not_entered (held (goal.at.returns-in-Err c).Start) c.args.sheet.now c.args.budget c.args.start (entry (goal.at.returns-in-Err c).Start) (tests (goal.at.returns-in-Err c).After-enter-begun) c.in-Err.is

pub returns-in-Ok : goal.returns-in-Ok
returns-in-Ok c = c.onward.ensures ∙ run_entered (held (goal.at.returns-in-Ok c).Start) c.args.sheet.now c.args.budget c.args.start (entry (goal.at.returns-in-Ok c).Start) (tests (goal.at.returns-in-Ok c).After-enter-begun) c.in-Ok.is
