-- `line_shift::shp` meets its contract: by whether the reference point is refused; else the loop is what `shift_in` ensures. Assumes nothing.
use Prim.Native.Nat.{ℕ}
use mathlib.Core.List.{List}
use mathlib.Core.Path.{ap, ◌∙◌}
use native.Mathlib.Omega.{arith}
use lib.IntN.{ℤ}
use Rattle.graphics.specs.declared.GraphicsState.{GraphicsState}
use Rattle.int.proofs.Words.{back32}
use Rattle.line_steps.proofs.Bridge.{zones_of}
use Rattle.line_steps.specs.Loop.{in_zone}
use Rattle.line_steps.specs.Steps.{into}
use Rattle.rules.specs.declared.Rules.{Rules}
use Rattle.line.specs.World.{Fixed, World, fixed, world}
use Rattle.line_shift.proofs.Cases.{shp_refused, shp_shifted}
use Rattle.line_shift.proofs.One.{counted}
use Rattle.line_shift.proofs.shp.Goals as goal
use Rattle.line_shift.proofs.shp.Goals.{Start}

-- the world that the line starts in, and what it only reads
abbrev entry : Start → World
entry s = let a = s.args in
    world a.s a.gx.now a.gy.now a.gflags.now a.tox.now a.toy.now a.tx.now a.ty.now a.tflags.now

abbrev held : Start → Rules → List ℤ → List ℤ → List ℤ → List ℕ → Fixed
held s rules controls gux guy contours = fixed rules controls gux guy s.args.gox.now s.args.goy.now contours

pub displaced-by-requires : goal.displaced-by-requires
displaced-by-requires c = let p = c.requires in (p.0, p.1, p.3, p.4)

pub shift_one_in-call-requires : goal.shift_one_in-call-requires
shift_one_in-call-requires c = let p = c.requires in (p.1, p.2, p.4, p.5)

-- one point: the counter says so
pub returns-then-count-eq1 : goal.returns-then-count-eq1
returns-then-count-eq1 c = let s = c in
    λ rules controls gux guy contours. shp_shifted (held (goal.at.returns-then-count-eq1 c).Start rules controls gux guy contours) s.args.opcode s.args.operands.now (entry (goal.at.returns-then-count-eq1 c).Start) c.reference_of-reference.ensures c.displaced-by.ensures
    c.in-Ok.is
    c.zp2_move_of-m.ensures
    (back32 _ (omega (arith, c.struct_told-1.given.1.1.0)))
    (back32 _ (omega (arith, c.struct_told-in-Ok-1.given.1.1.1.0)))
    (ap (λ (s : GraphicsState). record { call = c.shift_one_in-call.result; state = s }) (c.by_words.ensures ∙ c.reset_loop_counter.ensures))
    (c.shift_one_in-call.ensures ∙ counted c.zp2_move_of-m.result s.args.operands.now (zones_of (entry (goal.at.returns-then-count-eq1 c).Start)) c.if-count-eq1.true c.zp2-zp2.ensures)

pub shift_in-call-requires : goal.shift_in-call-requires
shift_in-call-requires c = let p = c.requires in (p.1, p.2, p.4, p.5)

pub returns-in-Err : goal.returns-in-Err
returns-in-Err c = λ rules controls gux guy contours. shp_refused (held (goal.at.returns-in-Err c).Start rules controls gux guy contours) c.args.opcode c.args.operands.now (entry (goal.at.returns-in-Err c).Start) c.reference_of-reference.ensures c.displaced-by.ensures
    c.in-Err.is (ap (into (entry (goal.at.returns-in-Err c).Start)) c.refused.ensures)

pub returns-else-count-eq1 : goal.returns-else-count-eq1
returns-else-count-eq1 c = let s = c in
    λ rules controls gux guy contours. shp_shifted (held (goal.at.returns-else-count-eq1 c).Start rules controls gux guy contours) s.args.opcode s.args.operands.now (entry (goal.at.returns-else-count-eq1 c).Start) c.reference_of-reference.ensures c.displaced-by.ensures
    c.in-Ok.is
    c.zp2_move_of-m.ensures
    (back32 _ (omega (arith, c.struct_told-1.given.1.1.0)))
    (back32 _ (omega (arith, c.struct_told-in-Ok-1.given.1.1.1.0)))
    (ap (λ (s : GraphicsState). record { call = c.shift_in-call.result; state = s }) (c.by_words-in-Ok.ensures ∙ c.reset_loop_counter-in-Ok.ensures))
    (c.shift_in-call.ensures ∙ ap (in_zone _ _) c.zp2-zp2.ensures)
