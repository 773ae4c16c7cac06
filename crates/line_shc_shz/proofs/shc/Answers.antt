-- `line_shc_shz::shc` meets its contract: by whether there is an operand and whether it names a contour; then the span is what `shift_span_of` ensures, in
-- any world that holds the lists lent. Assumes nothing.
use Prim.Native.Nat.{ℕ}
use mathlib.Core.Bool.{true}
use mathlib.Core.List.{List}
use mathlib.Core.Path.{ap, ◌∙◌}
use lib.IntN.{ℤ}
use Rattle.graphics.specs.declared.ZonePointer.{ZonePointer}
use Rattle.line.specs.Places.{size_of}
use Rattle.line_span.proofs.Bridge.{span_is}
use Rattle.line_span.specs.Steps.{span_of}
use Rattle.line_steps.proofs.Bridge.{zones_of}
use Rattle.line_steps.specs.Loop.{Ended, Zones}
use Rattle.moves.specs.declared.Reference.{Reference}
use Rattle.line_steps.proofs.Laws.{in_words}
use Rattle.line_steps.specs.Steps.{into}
use Rattle.rules.specs.declared.Rules.{Rules}
use Rattle.line.specs.World.{Fixed, World, fixed, world}
use Rattle.line_shc_shz.proofs.Cases.{contour_shifted, no_such_contour, shc_missing}
use borrow.Author.Rules.{rules}
use Rattle.line_shc_shz.proofs.shc.Goals as goal
use Rattle.line_shc_shz.proofs.shc.Goals.{Start}

-- ---- the lists lent, in a world
abbrev lent : Start → Rules → List ℤ → List ℤ → List ℤ → Fixed
lent b rules controls gux guy = let a = b.args in fixed rules controls gux guy a.gox.now a.goy.now a.contours.now

abbrev entry : Start → World
entry b = let a = b.args in world a.s a.gx.now a.gy.now a.gflags.now a.tox.now a.toy.now a.tx.now a.ty.now a.tflags.now

-- the span that is shifted, by the zone that it lies in
abbrev span_in : Start → Reference → ℕ → ℕ → ZonePointer → Ended Zones
span_in b p start end zone = let a = b.args in
    span_of a.s.vectors a.s.facts zone p true start end a.gox.now a.goy.now a.tox.now a.toy.now (zones_of (entry b))

pub returns-then-operands-lt1 : goal.returns-then-operands-lt1
returns-then-operands-lt1 c = λ rules controls gux guy. shc_missing (lent (goal.at.returns-then-operands-lt1 c).Start rules controls gux guy) c.args.opcode c.args.operands.now (entry (goal.at.returns-then-operands-lt1 c).Start) c.if-operands-lt1.true (ap (into (entry (goal.at.returns-then-operands-lt1 c).Start)) c.refused.ensures)

pub returns-then-size_of-index : goal.returns-then-size_of-index
returns-then-size_of-index c = λ rules controls gux guy. no_such_contour (lent (goal.at.returns-then-size_of-index c).Start rules controls gux guy) c.args.opcode c.args.operands.now (entry (goal.at.returns-then-size_of-index c).Start) c.if-operands-lt1.false c.index_at-at.ensures (c.size_of.ensures ∙ ap (size_of _ _) c.zp2-zp2.ensures) c.if-size_of-index.true (c.no_contour.ensures (entry (goal.at.returns-then-size_of-index c).Start))

pub shift_span_of-call-requires : goal.shift_span_of-call-requires
shift_span_of-call-requires c = c.requires

pub returns : goal.returns
returns c = λ rules controls gux guy. in_words c.by_words.ensures (contour_shifted (lent (goal.at.returns c).Start rules controls gux guy) c.args.opcode c.args.operands.now (entry (goal.at.returns c).Start) c.if-operands-lt1.false c.index_at-at.ensures (c.size_of.ensures ∙ ap (size_of _ _) c.zp2-zp2.ensures) c.if-size_of-index.false c.point_after-start.ensures c.point_after.ensures (c.size_of-end.ensures ∙ ap (size_of _ _) c.zp2-zp2.ensures)
    (span_is (lent (goal.at.returns c).Start rules controls gux guy) c.args.opcode true c.point_after-start.result c.size_of-end.result (entry (goal.at.returns c).Start) c.reference_of-reference.ensures (c.shift_span_of-call.ensures ∙ ap (span_in (goal.at.returns c).Start c.reference_of-reference.result c.point_after-start.result c.size_of-end.result) c.zp2-zp2.ensures)))
