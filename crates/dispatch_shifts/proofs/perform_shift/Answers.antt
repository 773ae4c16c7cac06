-- `dispatch_shifts::perform_shift` meets its contract: each arm's line says it of the lists lent, for every content of the others. Assumes nothing.
use mathlib.Core.List.{List}
use mathlib.Core.Logic.{◌⊎◌, inl, inr, ⊎_elim}
use mathlib.Core.Path.{◌≡◌, refl}
use Prim.Native.Nat.{ℕ, ◌≤◌, ◌<◌}
use native.Mathlib.Omega.{arith}
use lib.IntN.{ℤ}
use Rattle.opcodes.proofs.Rows.{at_number, at_range}
use Rattle.rules.specs.declared.Rules.{Rules}
use Rattle.line.specs.World.{Fixed, World, fixed, world}
use Rattle.dispatch_shifts.proofs.perform_shift.Goals as goal
use Rattle.dispatch_shifts.proofs.perform_shift.Goals.{Start, in_default-via-then-opcode-lt50, in_default-via-else-opcode-lt50+else-opcode-lt52+else-opcode-lt54+else-opcode-lt56}

abbrev read : Start → Rules → List ℤ → List ℤ → List ℤ → Fixed
read s rules controls gux guy = let a = s.args in fixed rules controls gux guy a.gox.now a.goy.now a.contours.now

abbrev entry : Start → World
entry s = let a = s.args in world a.s a.gx.now a.gy.now a.gflags.now a.tox.now a.toy.now a.tx.now a.ty.now a.tflags.now

-- the one opcode that is left
is_shpix : (opcode : ℕ) → 0x32 ≤ opcode → opcode < 0x39 → (opcode < 0x32) ⊎ (0x38 ≤ opcode) → opcode ≡ 0x38
is_shpix opcode a b (inl h) = omega arith
is_shpix opcode a b (inr h) = omega arith

pub shp-requires : goal.shp-requires
shp-requires c = let p = c.requires in (p.2, p.3, p.4, p.5, p.6, p.7)

pub shc-requires : goal.shc-requires
shc-requires c = let p = c.requires in (p.2, p.3, p.4, p.5, p.6, p.7)

pub shz-requires : goal.shz-requires
shz-requires c = let p = c.requires in (p.2, p.3, p.4, p.5, p.6, p.7)

pub shpix-requires : goal.shpix-requires
shpix-requires c = let p = c.requires in (p.3, p.4, p.6, p.7)

pub returns-in-50 : goal.returns-in-50
returns-in-50 c = λ rules controls gux guy. at_range (read (goal.at.returns-in-50 c).Start rules controls gux guy) c.args.opcode c.args.operands.now (entry (goal.at.returns-in-50 c).Start) 0x32 0x33 c.in-50.if-opcode-lt50-own.false c.in-50.if-opcode-lt52-own.true refl (c.shp.ensures rules controls gux guy c.args.contours.now)

pub returns-in-52 : goal.returns-in-52
returns-in-52 c = λ rules controls gux guy. at_range (read (goal.at.returns-in-52 c).Start rules controls gux guy) c.args.opcode c.args.operands.now (entry (goal.at.returns-in-52 c).Start) 0x34 0x35 c.in-52.if-opcode-lt52-own.false c.in-52.if-opcode-lt54-own.true refl (c.shc.ensures rules controls gux guy)

pub returns-in-54 : goal.returns-in-54
returns-in-54 c = λ rules controls gux guy. at_range (read (goal.at.returns-in-54 c).Start rules controls gux guy) c.args.opcode c.args.operands.now (entry (goal.at.returns-in-54 c).Start) 0x36 0x37 c.in-54.if-opcode-lt54-own.false c.in-54.if-opcode-lt56-own.true refl (c.shz.ensures rules controls gux guy)

pub returns-in_default : goal.returns-in_default
returns-in_default c = λ rules controls gux guy. at_number (read (goal.at.returns-in_default c).Start rules controls gux guy) c.args.opcode c.args.operands.now (entry (goal.at.returns-in_default c).Start) 0x38
    (is_shpix c.args.opcode c.requires.0 c.requires.1 (elim c.in_default.branch [ in_default-via-then-opcode-lt50 w ↦ inl w.if-opcode-lt50-1.true | in_default-via-else-opcode-lt50+else-opcode-lt52+else-opcode-lt54+else-opcode-lt56 w ↦ inr w.if-opcode-lt56-1.false ]))
    (c.shpix.ensures (read (goal.at.returns-in_default c).Start rules controls gux guy) c.args.opcode c.args.tox.now c.args.toy.now)
