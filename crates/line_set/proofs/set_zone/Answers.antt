-- `line_set::set_zone` meets its contract: by whether the operand is 0, 1 or neither. Assumes nothing.
use mathlib.Core.Path.{◌≡◌, refl, ap, sym, ◌∙◌}
use mathlib.Core.Bool.{Bool, true, false}
use Prim.Native.Nat.{ℕ}
use lib.IntN.{ℤ, pos}
use mir.Facts.{to_z-of_z}
use Rattle.answer.specs.declared.Refusal.TheVariants.{ZonePointer}
use Rattle.graphics.specs.declared.GraphicsState.{GraphicsState}
use Rattle.graphics.specs.declared.ZonePointer.TheVariants.{Glyph, Twilight}
use Rattle.int.specs.Word.{eq_z, index_of}
use Rattle.line.specs.Line.{done_with, refused_with}
use Rattle.line_set.specs.Setters.{pointer_by, zone_by}
use Rattle.line_set.proofs.set_zone.Goals as goal

-- the outcome by the two tests, over plain values
of_0 : (s : GraphicsState) (op : ℕ) (w : ℤ) → eq_z w (pos 0) ≡ true → zone_by s op w ≡ done_with (pointer_by s op Twilight)
unfolding zone_by
of_0 s op w t = rw t refl

of_1 : (s : GraphicsState) (op : ℕ) (w : ℤ) → eq_z w (pos 0) ≡ false → eq_z w (pos 1) ≡ true → zone_by s op w ≡ done_with (pointer_by s op Glyph)
unfolding zone_by
of_1 s op w t u = rw (t, u) refl

of_neither : (s : GraphicsState) (op : ℕ) (w : ℤ) → eq_z w (pos 0) ≡ false → eq_z w (pos 1) ≡ false → zone_by s op w ≡ refused_with s (ZonePointer (index_of w))
unfolding zone_by
of_neither s op w t u = rw (t, u) refl

-- a test of the word as it is read back is one of the word
tested : (n : ℤ) {w w' : ℤ} {b r : Bool} → w' ≡ w → r ≡ eq_z w' n → r ≡ b → eq_z w n ≡ b
tested n back e g = ap (λ (z : ℤ). eq_z z n) (sym back) ∙ sym e ∙ g

pub returns-then-equal : goal.returns-then-equal
returns-then-equal c = c.done.ensures ∙ ap done_with c.set_pointer.ensures
    ∙ sym (of_0 c.args.s c.args.opcode c.args.word (tested (pos 0) (to_z-of_z c.ranges.word) c.equal.ensures c.if-equal.true))

pub returns-then-equal-2 : goal.returns-then-equal-2
returns-then-equal-2 c = c.done-then-equal-2.ensures ∙ ap done_with c.set_pointer-then-equal-2.ensures
    ∙ sym (of_1 c.args.s c.args.opcode c.args.word (tested (pos 0) (to_z-of_z c.ranges.word) c.equal.ensures c.if-equal.false) (tested (pos 1) (to_z-of_z c.ranges.word) c.equal-else-equal.ensures c.if-equal-2.true))

pub returns-else-equal-2 : goal.returns-else-equal-2
returns-else-equal-2 c = c.refused.ensures ∙ ap (λ (n : ℕ). refused_with c.args.s (ZonePointer n)) (c.as_index.ensures ∙ ap index_of (to_z-of_z c.ranges.word))
    ∙ sym (of_neither c.args.s c.args.opcode c.args.word (tested (pos 0) (to_z-of_z c.ranges.word) c.equal.ensures c.if-equal.false) (tested (pos 1) (to_z-of_z c.ranges.word) c.equal-else-equal.ensures c.if-equal-2.false))
