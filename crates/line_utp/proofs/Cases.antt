-- UTP in each of its cases, over a plain world: the laws of its steps, in their order. Assumes nothing.
use Prim.Native.Nat.{ℕ, ◌≤◌, ◌<◌}
use mathlib.Core.Bool.{Bool, not}
use mathlib.Core.List.{List}
use mathlib.Core.Path.{◌≡◌, ap, refl, ◌∙◌}
use lib.IntN.{ℤ, pos}
use lib.ListN.{length}
use Rattle.answer.specs.declared.Refusal.TheVariants.{Missing}
use Rattle.graphics.specs.declared.ZonePointer.TheVariants.{Glyph, Twilight}
use Rattle.graphics.specs.declared.ZonePointer.{ZonePointer}
use Rattle.int.specs.Word.{eq_z}
use Rattle.line.specs.Operands.{index_at}
use Rattle.line.specs.World.{Fixed, Lined, World, world}
use Rattle.line_steps.proofs.Laws.{one_missing, one_there}
use Rattle.line_steps.specs.Steps.{refused_in}
use Rattle.zone.specs.Zone.{Marked}
use Rattle.line_utp.specs.Steps.{BothMarked, untouched_in}
use Rattle.line_utp.specs.Utp.{untouch_in, untouched_by, utp_of}

-- ---- the marks
pub untouched_as : (flags : List ℕ) (at : ℕ) {x y x' y' : Bool} {m : Marked} → x ≡ x' → y ≡ y' → m ≡ untouched_by flags at x' y' → m ≡ untouched_by flags at x y
untouched_as flags at p q e = rw (p, q) e

-- ---- the zone
-- a world with what was done to both zones' flags
abbrev pub flagged : World → BothMarked → Lined
flagged w m = record { call = m.call; world = world w.state w.gx w.gy m.gflags w.tox w.toy w.tx w.ty m.tflags }

in_zone_lem : (at : ℕ) (x y : Bool) (w : World) (zone : ZonePointer) → flagged w (untouched_in at x y w.gflags w.tflags zone) ≡ untouch_in at x y w zone
unfolding untouched_in untouch_in
in_zone_lem at x y w Glyph = refl
in_zone_lem at x y w Twilight = refl

-- ---- the line
module _ (f : Fixed) (opcode : ℕ) (operands : List ℤ) (w : World) where
  pub utp_missing : {r : Lined} → length operands < 1 → r ≡ refused_in w Missing → r ≡ utp_of f opcode operands w
  unfolding utp_of
  utp_missing h e = one_missing w operands _ h e

  pub utp_done : {at : ℕ} {x y : Bool} {m : BothMarked} → 1 ≤ length operands → at ≡ index_at operands 0
      → x ≡ eq_z w.state.vectors.freedom.x (pos 0) → y ≡ eq_z w.state.vectors.freedom.y (pos 0)
      → m ≡ untouched_in at (not x) (not y) w.gflags w.tflags w.state.pointers.zp0 → flagged w m ≡ utp_of f opcode operands w
  unfolding utp_of
  utp_done {at = at} {x = x} {y = y} h i p q e =
      one_there w operands _ h
      (rw (← i, ← p, ← q) (ap (flagged w) e ∙ in_zone_lem at (not x) (not y) w w.state.pointers.zp0))
