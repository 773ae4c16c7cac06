-- `math::over_one` meets its contract: by 1 nothing is divided, so a stays itself, and else the product of 2.14 numbers is the quotient. Assumes nothing.
use mathlib.Core.Path.{◌≡◌, ◌∙◌, ap, ap₂, sym}
use lib.IntN.{ℤ, pos}
use mir.Facts.{to_z-of_z}
use Rattle.int.proofs.Ints.{eq_z_true}
use Rattle.int.proofs.Words.{back32}
use Rattle.math.specs.Fixed.{mul_div, mul_fix14}
use Rattle.math.proofs.Square.{over_one, one_over_one}
use Rattle.math.proofs.over_one.Goals as goal

pub returns-then-equal : goal.returns-then-equal
returns-then-equal c = let s = c in
    let b-is : s.args.b ≡ pos 0x4000 = sym (to_z-of_z s.ranges.b) ∙ eq_z_true _ _ (sym c.equal.ensures ∙ c.if-equal.true) in
    to_z-of_z s.ranges.a ∙ one_over_one s.args.a s.ranges.a ∙ ap (λ (b : ℤ). mul_div s.args.a b (pos 0x4000)) (sym b-is)

pub returns-else-equal : goal.returns-else-equal
returns-else-equal c = let s = c in back32 c.mul14.result c.mul14.type_inv ∙ c.mul14.ensures ∙ ap₂ mul_fix14 (to_z-of_z s.ranges.a) (to_z-of_z s.ranges.b) ∙ over_one s.args.a s.args.b
