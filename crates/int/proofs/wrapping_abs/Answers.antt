-- `int::wrapping_abs` meets its contract: by the sign, the word itself or its negation. Assumes nothing.
use mathlib.Core.Path.{◌≡◌, sym, ap, ◌∙◌}
use mathlib.Core.Bool.{true, false}
use lib.IntN.{ℤ}
use lib.Signed.{non_neg}
use mir.Syntax.{w32}
use mir.Val.{SFits}
use mir.Facts.{to_z-of_z}
use Rattle.int.proofs.Ints.{abs_of_pos, abs_of_neg}
use Rattle.int.proofs.Words.{back32}
use Rattle.int.proofs.Wraps.{wrap_id}
use Rattle.int.specs.Word.{neg32, abs32, wrap32}
use Rattle.int.proofs.wrapping_abs.Goals as goal

of_pos : (a : ℤ) → SFits w32 a → non_neg a ≡ true → a ≡ abs32 a
unfolding abs32
of_pos a f t = sym (ap wrap32 (abs_of_pos a t) ∙ wrap_id a f)

of_neg : (a : ℤ) → non_neg a ≡ false → neg32 a ≡ abs32 a
unfolding abs32 neg32
of_neg a t = sym (ap wrap32 (abs_of_neg a t))

pub returns-then-non_negative : goal.returns-then-non_negative
returns-then-non_negative c = let s = c in let e = to_z-of_z s.ranges.a in e ∙ of_pos s.args.a s.ranges.a (ap non_neg (sym e) ∙ sym c.non_negative.ensures ∙ c.if-non_negative.true)

pub returns-else-non_negative : goal.returns-else-non_negative
returns-else-non_negative c = let s = c in let e = to_z-of_z s.ranges.a in
    back32 c.wrapping_neg.result c.wrapping_neg.type_inv ∙ c.wrapping_neg.ensures ∙ ap neg32 e ∙ of_neg s.args.a (ap non_neg (sym e) ∙ sym c.non_negative.ensures ∙ c.if-non_negative.false)
