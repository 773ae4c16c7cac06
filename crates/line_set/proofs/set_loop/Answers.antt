-- `line_set::set_loop` meets its contract: by the operand's sign. Assumes nothing.
use mathlib.Core.Path.{◌≡◌, refl, ap, sym, ◌∙◌}
use mathlib.Core.Bool.{Bool, true, false}
use Prim.Native.Nat.{ℕ, min}
use lib.IntN.{ℤ, nat_abs}
use lib.Signed.{non_neg}
use mir.Facts.{to_z-of_z}
use Rattle.answer.specs.declared.Refusal.TheVariants.{LoopCount}
use Rattle.graphics.specs.State.{with_loop_counter}
use Rattle.graphics.specs.declared.GraphicsState.{GraphicsState}
use Rattle.int.specs.Word.{index_of}
use Rattle.line.specs.Line.{done_with, refused_with}
use Rattle.line.specs.declared.Stepped.{Stepped}
use Rattle.line_set.specs.Setters.{loop_by}
use Rattle.line_set.proofs.set_loop.Goals as goal

-- the outcome by the operand's sign, over plain values
module _ (s : GraphicsState) (w : ℤ) {w' : ℤ} {b : Bool} {r : Stepped} (e : w' ≡ w) (eb : b ≡ non_neg w') where
  counted : {m k : ℕ} {t : GraphicsState} → b ≡ true → m ≡ nat_abs w' → k ≡ min m 65535 → t ≡ with_loop_counter s k → r ≡ done_with t → r ≡ loop_by s w
  unfolding loop_by
  counted h em ek et er = rw (ap non_neg (sym e) ∙ sym eb ∙ h, er, et, ek, em, e) refl

  refuses : {n : ℕ} → b ≡ false → n ≡ index_of w' → r ≡ refused_with s (LoopCount n) → r ≡ loop_by s w
  unfolding loop_by
  refuses h en er = rw (ap non_neg (sym e) ∙ sym eb ∙ h, er, en, e) refl

pub returns-then-non_negative : goal.returns-then-non_negative
returns-then-non_negative c = counted c.args.s c.args.word (to_z-of_z c.ranges.word) c.non_negative.ensures c.if-non_negative.true c.magnitude.ensures c.capped.ensures c.with_loop_counter.ensures c.done.ensures

pub returns-else-non_negative : goal.returns-else-non_negative
returns-else-non_negative c = refuses c.args.s c.args.word (to_z-of_z c.ranges.word) c.non_negative.ensures c.if-non_negative.false c.as_index.ensures c.refused.ensures
