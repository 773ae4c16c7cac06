-- `dispatch_measures::perform_measure` meets its contract: each arm's line says it of the lists lent, for every content of the others. Assumes nothing.
use mathlib.Core.List.{List}
use mathlib.Core.Logic.{◌⊎◌, inl, inr, ⊎_elim}
use mathlib.Core.Path.{refl}
use Prim.Native.Nat.{ℕ, ◌≤◌, ◌<◌}
use native.Mathlib.Omega.{arith}
use Rattle.opcodes.proofs.Rows.{at_range}
use Rattle.rules.specs.declared.Rules.{Rules}
use Rattle.line.specs.World.{Fixed, World, fixed, world}
use Rattle.dispatch_measures.proofs.perform_measure.Goals as goal
use Rattle.dispatch_measures.proofs.perform_measure.Goals.{Start, in_default-via-then-opcode-lt70, in_default-via-else-opcode-lt70+else-opcode-lt72+then-opcode-lt73, in_default-via-else-opcode-lt70+else-opcode-lt72+else-opcode-lt73+else-opcode-lt75+then-opcode-lt192, in_default-via-else-opcode-lt70+else-opcode-lt72+else-opcode-lt73+else-opcode-lt75+else-opcode-lt192+else-opcode-lt224}

abbrev read : Start → Rules → List ℕ → Fixed
read s rules = let a = s.args in fixed rules a.controls.now a.gux.now a.guy.now a.gox.now a.goy.now

abbrev entry : Start → World
entry s = let a = s.args in world a.s a.gx.now a.gy.now a.gflags.now a.tox.now a.toy.now a.tx.now a.ty.now a.tflags.now

-- the opcodes that are left
is_mirp : (opcode : ℕ) → ((0x46 ≤ opcode) × (opcode < 0x48)) ⊎ (((0x49 ≤ opcode) × (opcode < 0x4B)) ⊎ ((0xC0 ≤ opcode) × (opcode < 0x100)))
    → (opcode < 0x46) ⊎ (((0x48 ≤ opcode) × (opcode < 0x49)) ⊎ (((0x4B ≤ opcode) × (opcode < 0xC0)) ⊎ (0xE0 ≤ opcode))) → (0xE0 ≤ opcode) × (opcode < 0x100)
is_mirp opcode (inl p) (inl h) = absurd (omega (arith, p.0))
is_mirp opcode (inl p) (inr (inl h)) = absurd (omega (arith, p.1, h.0))
is_mirp opcode (inl p) (inr (inr (inl h))) = absurd (omega (arith, p.1, h.0))
is_mirp opcode (inl p) (inr (inr (inr h))) = absurd (omega (arith, p.1))
is_mirp opcode (inr (inl p)) (inl h) = absurd (omega (arith, p.0))
is_mirp opcode (inr (inl p)) (inr (inl h)) = absurd (omega (arith, p.0, h.1))
is_mirp opcode (inr (inl p)) (inr (inr (inl h))) = absurd (omega (arith, p.1, h.0))
is_mirp opcode (inr (inl p)) (inr (inr (inr h))) = absurd (omega (arith, p.1))
is_mirp opcode (inr (inr p)) (inl h) = absurd (omega (arith, p.0))
is_mirp opcode (inr (inr p)) (inr (inl h)) = absurd (omega (arith, p.0, h.1))
is_mirp opcode (inr (inr p)) (inr (inr (inl h))) = absurd (omega (arith, p.0, h.1))
is_mirp opcode (inr (inr p)) (inr (inr (inr h))) = (h, p.1)

pub gc-requires : goal.gc-requires
gc-requires c = let p = c.requires in (p.1, p.2, p.4, p.5)

pub md-requires : goal.md-requires
md-requires c = let p = c.requires in (p.1, p.2, p.4, p.5)

pub mdrp-requires : goal.mdrp-requires
mdrp-requires c = let p = c.requires in (p.2, p.3, p.5, p.6)

pub mirp-requires : goal.mirp-requires
mirp-requires c = let p = c.requires in (p.2, p.3, p.5, p.6)

pub returns-in-70 : goal.returns-in-70
returns-in-70 c = let w = entry (goal.at.returns-in-70 c).Start in
    λ rules contours. at_range (read (goal.at.returns-in-70 c).Start rules contours) c.args.opcode c.args.operands.now w 0x46 0x47 c.in-70.if-opcode-lt70-own.false c.in-70.if-opcode-lt72-own.true refl (c.gc.ensures rules c.args.controls.now c.args.gux.now c.args.guy.now contours w.gflags w.tflags)

pub returns-in-73 : goal.returns-in-73
returns-in-73 c = let w = entry (goal.at.returns-in-73 c).Start in
    λ rules contours. at_range (read (goal.at.returns-in-73 c).Start rules contours) c.args.opcode c.args.operands.now w 0x49 0x4A c.in-73.if-opcode-lt73-own.false c.in-73.if-opcode-lt75-own.true refl (c.md.ensures rules c.args.controls.now contours w.gflags w.tflags)

pub returns-in-192-to-223 : goal.returns-in-192-to-223
returns-in-192-to-223 c = λ rules contours. at_range (read (goal.at.returns-in-192-to-223 c).Start rules contours) c.args.opcode c.args.operands.now (entry (goal.at.returns-in-192-to-223 c).Start) 0xC0 0xDF c.in-192-to-223.if-opcode-lt192-own.false c.in-192-to-223.if-opcode-lt224-own.true refl (c.mdrp.ensures rules c.args.controls.now contours)

pub returns-in_default : goal.returns-in_default
returns-in_default c = let is : (0xE0 ≤ c.args.opcode) × (c.args.opcode < 0x100) = is_mirp c.args.opcode c.requires.0 (elim c.in_default.branch [ in_default-via-then-opcode-lt70 w ↦ inl w.if-opcode-lt70-1.true | in_default-via-else-opcode-lt70+else-opcode-lt72+then-opcode-lt73 w ↦ inr (inl (w.if-opcode-lt72-1.false, w.if-opcode-lt73-1.true)) | in_default-via-else-opcode-lt70+else-opcode-lt72+else-opcode-lt73+else-opcode-lt75+then-opcode-lt192 w ↦ inr (inr (inl (w.if-opcode-lt75-1.false, w.if-opcode-lt192-1.true))) | in_default-via-else-opcode-lt70+else-opcode-lt72+else-opcode-lt73+else-opcode-lt75+else-opcode-lt192+else-opcode-lt224 w ↦ inr (inr (inr w.if-opcode-lt224-1.false)) ]) in
    λ rules contours. at_range (read (goal.at.returns-in_default c).Start rules contours) c.args.opcode c.args.operands.now (entry (goal.at.returns-in_default c).Start) 0xE0 0xFF is.0 is.1 refl (c.mirp.ensures rules c.args.gux.now c.args.guy.now contours)
