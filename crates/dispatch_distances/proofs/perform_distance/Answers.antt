-- `dispatch_distances::perform_distance` meets its contract: each arm's line says it of the lists lent, for every content of the others. Assumes nothing.
use mathlib.Core.List.{List}
use mathlib.Core.Logic.{◌⊎◌, inl, inr, ⊎_elim}
use mathlib.Core.Path.{◌≡◌, refl}
use Prim.Native.Nat.{ℕ, ◌≤◌, ◌<◌}
use native.Mathlib.Omega.{arith}
use lib.IntN.{ℤ}
use Rattle.opcodes.proofs.Rows.{at_number, at_range}
use Rattle.line.specs.World.{Fixed, World, fixed, world}
use Rattle.dispatch_distances.proofs.perform_distance.Goals as goal
use Rattle.dispatch_distances.proofs.perform_distance.Goals.{Start, in_default-via-then-opcode-lt46, in_default-via-else-opcode-lt46+else-opcode-lt48+then-opcode-lt58, in_default-via-else-opcode-lt46+else-opcode-lt48+else-opcode-lt58+else-opcode-lt60}

abbrev read : Start → List ℤ → List ℤ → List ℕ → Fixed
read s gux guy = let a = s.args in fixed a.rules a.controls.now gux guy a.gox.now a.goy.now

abbrev entry : Start → World
entry s = let a = s.args in world a.s a.gx.now a.gy.now a.gflags.now a.tox.now a.toy.now a.tx.now a.ty.now a.tflags.now

-- the opcodes that are left
is_miap : (opcode : ℕ) → ((0x2E ≤ opcode) × (opcode < 0x30)) ⊎ (((0x3A ≤ opcode) × (opcode < 0x3D)) ⊎ ((0x3E ≤ opcode) × (opcode < 0x40))) → (opcode ≡ 0x3C → ⊥)
    → (opcode < 0x2E) ⊎ (((0x30 ≤ opcode) × (opcode < 0x3A)) ⊎ (0x3C ≤ opcode)) → (0x3E ≤ opcode) × (opcode < 0x40)
is_miap opcode (inl p) d (inl h) = absurd (omega (arith, p.0))
is_miap opcode (inl p) d (inr (inl h)) = absurd (omega (arith, p.1, h.0))
is_miap opcode (inl p) d (inr (inr h)) = absurd (omega (arith, p.1))
is_miap opcode (inr (inl p)) d (inl h) = absurd (omega (arith, p.0))
is_miap opcode (inr (inl p)) d (inr (inl h)) = absurd (omega (arith, p.0, h.1))
is_miap opcode (inr (inl p)) d (inr (inr h)) = absurd (d (omega (arith, p.1)))
is_miap opcode (inr (inr p)) d q = p

pub alignrp-requires : goal.alignrp-requires
alignrp-requires c = let p = c.requires in (p.1, p.2, p.3, p.4)

pub mdap-requires : goal.mdap-requires
mdap-requires c = let p = c.requires in (p.1, p.2, p.3, p.4)

pub msirp-requires : goal.msirp-requires
msirp-requires c = let p = c.requires in (p.1, p.2, p.3, p.4)

pub miap-requires : goal.miap-requires
miap-requires c = let p = c.requires in (p.1, p.2, p.3, p.4)

pub returns-in-60 : goal.returns-in-60
returns-in-60 c = λ gux guy contours. at_number (read (goal.at.returns-in-60 c).Start gux guy contours) c.args.opcode c.args.operands.now (entry (goal.at.returns-in-60 c).Start) 0x3C c.in-60.is
    (c.alignrp.ensures (read (goal.at.returns-in-60 c).Start gux guy contours) c.args.opcode c.args.tox.now c.args.toy.now)

pub returns-in-46 : goal.returns-in-46
returns-in-46 c = λ gux guy contours. at_range (read (goal.at.returns-in-46 c).Start gux guy contours) c.args.opcode c.args.operands.now (entry (goal.at.returns-in-46 c).Start) 0x2E 0x2F c.in-46.if-opcode-lt46-own.false c.in-46.if-opcode-lt48-own.true refl (c.mdap.ensures (read (goal.at.returns-in-46 c).Start gux guy contours) c.args.tox.now c.args.toy.now)

pub returns-in-58 : goal.returns-in-58
returns-in-58 c = λ gux guy contours. at_range (read (goal.at.returns-in-58 c).Start gux guy contours) c.args.opcode c.args.operands.now (entry (goal.at.returns-in-58 c).Start) 0x3A 0x3B c.in-58.if-opcode-lt58-own.false c.in-58.if-opcode-lt60-own.true refl (c.msirp.ensures c.args.controls.now gux guy contours)

pub returns-in_default : goal.returns-in_default
returns-in_default c = let is : (0x3E ≤ c.args.opcode) × (c.args.opcode < 0x40) = is_miap c.args.opcode c.requires.0 c.in_default-1.rest.1 (elim c.in_default.branch [ in_default-via-then-opcode-lt46 w ↦ inl w.if-opcode-lt46-1.true | in_default-via-else-opcode-lt46+else-opcode-lt48+then-opcode-lt58 w ↦ inr (inl (w.if-opcode-lt48-1.false, w.if-opcode-lt58-1.true)) | in_default-via-else-opcode-lt46+else-opcode-lt48+else-opcode-lt58+else-opcode-lt60 w ↦ inr (inr w.if-opcode-lt60-1.false) ]) in
    λ gux guy contours. at_range (read (goal.at.returns-in_default c).Start gux guy contours) c.args.opcode c.args.operands.now (entry (goal.at.returns-in_default c).Start) 0x3E 0x3F is.0 is.1 refl (c.miap.ensures c.args.rules gux guy c.args.gox.now c.args.goy.now contours)
