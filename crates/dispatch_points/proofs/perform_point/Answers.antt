-- `dispatch_points::perform_point` meets its contract: each arm's line says it of the lists lent, for every content of the others. Assumes nothing.
use Prim.Native.Nat.{ℕ}
use mathlib.Core.List.{List}
use mathlib.Core.Logic.{◌⊎◌, inl, inr}
use mathlib.Core.Path.{◌≡◌}
use lib.IntN.{ℤ}
use Rattle.opcodes.proofs.Rows.{at_number}
use Rattle.rules.specs.declared.Rules.{Rules}
use Rattle.line.specs.World.{Fixed, World, fixed, world}
use Rattle.dispatch_points.proofs.perform_point.Goals as goal
use Rattle.dispatch_points.proofs.perform_point.Goals.{Start}

abbrev read : Start → Rules → List ℤ → List ℕ → Fixed
read s rules controls = let a = s.args in fixed rules controls a.gux.now a.guy.now a.gox.now a.goy.now

abbrev entry : Start → World
entry s = let a = s.args in world a.s a.gx.now a.gy.now a.gflags.now a.tox.now a.toy.now a.tx.now a.ty.now a.tflags.now

-- the opcode that is left
is_ip : (opcode : ℕ) → (opcode ≡ 0x27) ⊎ ((opcode ≡ 0x29) ⊎ (opcode ≡ 0x39)) → (opcode ≡ 0x27 → ⊥) → (opcode ≡ 0x29 → ⊥) → opcode ≡ 0x39
is_ip opcode (inl e) h k = absurd (h e)
is_ip opcode (inr (inl e)) h k = absurd (k e)
is_ip opcode (inr (inr e)) h k = e

pub alignpts-requires : goal.alignpts-requires
alignpts-requires c = let p = c.requires in (p.1, p.2, p.3, p.4)

pub ip-requires : goal.ip-requires
ip-requires c = let p = c.requires in (p.1, p.2, p.3, p.4)

pub returns-in-39 : goal.returns-in-39
returns-in-39 c = λ rules controls contours. let f = read (goal.at.returns-in-39 c).Start rules controls contours in
    at_number f c.args.opcode c.args.operands.now (entry (goal.at.returns-in-39 c).Start) 0x27 c.in-39.is (c.alignpts.ensures f c.args.opcode c.args.tox.now c.args.toy.now)

pub returns-in-41 : goal.returns-in-41
returns-in-41 c = λ rules controls contours. let f = read (goal.at.returns-in-41 c).Start rules controls contours in let w = entry (goal.at.returns-in-41 c).Start in
    at_number f c.args.opcode c.args.operands.now w 0x29 c.in-41.is (c.utp.ensures f c.args.opcode w.gx w.gy w.tox w.toy w.tx w.ty)

pub returns-in_default : goal.returns-in_default
returns-in_default c = λ rules controls contours.
    at_number (read (goal.at.returns-in_default c).Start rules controls contours) c.args.opcode c.args.operands.now (entry (goal.at.returns-in_default c).Start) 0x39 (is_ip c.args.opcode c.requires.0 c.in_default.in_default-own.rest.0.1 c.in_default.in_default-own.rest.1)
    (c.ip.ensures rules controls contours c.args.opcode)
