-- `dispatch::perform` meets its contract: each arm's line says it of the lists lent, for every content of the others. Assumes nothing.
use mathlib.Core.Path.{◌≡◌, ap, subst, sym, ◌∙◌}
use Rattle.line_set.specs.Setters.{set_of}
use Rattle.line_sizes.specs.Sizes.{sizes_of}
use Rattle.line_steps.specs.Steps.{into}
use Rattle.line.specs.World.{Fixed, World, fixed, world}
use Rattle.dispatch.specs.Steps.{Named}
use Rattle.dispatch.specs.declared.Kind.{Kind}
use Rattle.dispatch.proofs.perform.Goals as goal
use Rattle.dispatch.proofs.perform.Goals.{After-kind_of-kind, Start}

abbrev read : Start → Fixed
read s = let a = s.args in fixed a.rules a.controls.now a.gux.now a.guy.now a.gox.now a.goy.now a.contours.now

abbrev entry : Start → World
entry s = let a = s.args in world a.s a.gx.now a.gy.now a.gflags.now a.tox.now a.toy.now a.tx.now a.ty.now a.tflags.now

-- what the kind says of the opcode
named : (k : After-kind_of-kind) {kind : Kind} → k.kind_of-kind.result ≡ kind → Named k.args.opcode kind
named k e = subst (Named k.args.opcode) e k.kind_of-kind.ensures

pub isect-requires : goal.isect-requires
isect-requires c = let p = c.requires.0 in (p.4, p.7)

pub iup-requires : goal.iup-requires
iup-requires c = let sound = c.requires in let p = sound.0 in (p.0, p.1, p.2, p.3, p.4, p.5, sound.1)

pub perform_shift-requires : goal.perform_shift-requires
unfolding Named
perform_shift-requires c = let p = c.requires.0 in let among = named (goal.at.perform_shift-requires c).After-kind_of-kind c.in-Shift.is in
    (among.0, among.1, p.3 ∙ sym p.2, p.4, p.5, p.6, p.7, p.8)

pub perform_distance-requires : goal.perform_distance-requires
unfolding Named
perform_distance-requires c = let p = c.requires.0 in (named (goal.at.perform_distance-requires c).After-kind_of-kind c.in-Distance.is, p.4, p.5, p.7, p.8)

pub perform_measure-requires : goal.perform_measure-requires
unfolding Named
perform_measure-requires c = let p = c.requires.0 in
    (named (goal.at.perform_measure-requires c).After-kind_of-kind c.in-Measure.is, p.3 ∙ sym p.2, p.4, p.5, p.6, p.7, p.8)

pub perform_point-requires : goal.perform_point-requires
unfolding Named
perform_point-requires c = let p = c.requires.0 in (named (goal.at.perform_point-requires c).After-kind_of-kind c.in-Point.is, p.4, p.5, p.7, p.8)

pub turn-requires : goal.turn-requires
turn-requires c = let p = c.requires.0 in (p.3 ∙ sym p.2, p.4, p.6, p.7)

pub returns-in-Isect : goal.returns-in-Isect
unfolding Named
returns-in-Isect c = c.isect.ensures (read (goal.at.returns-in-Isect c).Start) c.args.opcode c.args.tox.now c.args.toy.now ∙ named (goal.at.returns-in-Isect c).After-kind_of-kind c.in-Isect.is (read (goal.at.returns-in-Isect c).Start) c.args.operands.now (entry (goal.at.returns-in-Isect c).Start)

pub returns-in-Iup : goal.returns-in-Iup
unfolding Named
returns-in-Iup c = let w = entry (goal.at.returns-in-Iup c).Start in
    c.iup.ensures c.args.rules c.args.controls.now c.args.operands.now w.tox w.toy w.tx w.ty w.tflags ∙ named (goal.at.returns-in-Iup c).After-kind_of-kind c.in-Iup.is (read (goal.at.returns-in-Iup c).Start) c.args.operands.now (entry (goal.at.returns-in-Iup c).Start)

pub returns-in-Shift : goal.returns-in-Shift
returns-in-Shift c = let s = c.args in c.perform_shift.ensures s.rules s.controls.now s.gux.now s.guy.now

pub returns-in-Distance : goal.returns-in-Distance
returns-in-Distance c = let s = c.args in c.perform_distance.ensures s.gux.now s.guy.now s.contours.now

pub returns-in-Measure : goal.returns-in-Measure
returns-in-Measure c = let s = c.args in c.perform_measure.ensures s.rules s.contours.now

pub returns-in-Point : goal.returns-in-Point
returns-in-Point c = let s = c.args in c.perform_point.ensures s.rules s.controls.now s.contours.now

pub returns-in-Vector : goal.returns-in-Vector
unfolding Named
returns-in-Vector c = let f = read (goal.at.returns-in-Vector c).Start in let w = entry (goal.at.returns-in-Vector c).Start in
    c.turn.ensures f.rules f.controls f.gux f.guy f.contours w.gflags w.tflags ∙ named (goal.at.returns-in-Vector c).After-kind_of-kind c.in-Vector.is f c.args.operands.now (entry (goal.at.returns-in-Vector c).Start)

pub returns-in-Size : goal.returns-in-Size
unfolding Named sizes_of
returns-in-Size c = ap (into (entry (goal.at.returns-in-Size c).Start)) c.set_measure.ensures ∙ named (goal.at.returns-in-Size c).After-kind_of-kind c.in-Size.is (read (goal.at.returns-in-Size c).Start) c.args.operands.now (entry (goal.at.returns-in-Size c).Start)

pub returns-in-Flippt : goal.returns-in-Flippt
unfolding Named
returns-in-Flippt c = let w = entry (goal.at.returns-in-Flippt c).Start in
    c.flippt.ensures (read (goal.at.returns-in-Flippt c).Start) c.args.opcode w.gx w.gy w.tox w.toy w.tx w.ty w.tflags ∙ named (goal.at.returns-in-Flippt c).After-kind_of-kind c.in-Flippt.is (read (goal.at.returns-in-Flippt c).Start) c.args.operands.now (entry (goal.at.returns-in-Flippt c).Start)

pub returns-in-Fliprg : goal.returns-in-Fliprg
unfolding Named
returns-in-Fliprg c = let w = entry (goal.at.returns-in-Fliprg c).Start in
    c.fliprg.ensures (read (goal.at.returns-in-Fliprg c).Start) w.gx w.gy w.tox w.toy w.tx w.ty w.tflags ∙ named (goal.at.returns-in-Fliprg c).After-kind_of-kind c.in-Fliprg.is (read (goal.at.returns-in-Fliprg c).Start) c.args.operands.now (entry (goal.at.returns-in-Fliprg c).Start)

pub returns-in-Set : goal.returns-in-Set
unfolding Named set_of
returns-in-Set c = ap (into (entry (goal.at.returns-in-Set c).Start)) c.set_state.ensures ∙ named (goal.at.returns-in-Set c).After-kind_of-kind c.in-Set.is (read (goal.at.returns-in-Set c).Start) c.args.operands.now (entry (goal.at.returns-in-Set c).Start)
