-- `outline_numbers::step_of` meets its contract: number by number. Assumes nothing.
use mathlib.Core.Path.{◌≡◌, sym, ap, ◌∙◌}
use mathlib.Core.Bool.{true, ◌&&◌}
use native.Mathlib.Omega.{arith}
use Prim.Native.Nat.{◌<◌, ◌^◌}
use lib.IntN.{ℤ}
use lib.Ieee.{Float}
use lib.Signed.{mag}
use mir.Syntax.{w64}
use mir.Val.{to_z, of_z}
use Rattle.int.proofs.Words.{back64}
use Rattle.outline_numbers.specs.Drawing.{near, is_near}
use Rattle.outline_numbers.specs.Fraction.{of128}
use Rattle.outline_numbers.proofs.Near.{left_of, right_of}
use Rattle.outline_numbers.proofs.step_of.Goals as goal

-- a number as it is read back
ready : (z : ℤ) → mag z < 2 ^ 63 → near z ≡ true → near (to_z w64 (of_z w64 z)) ≡ true
ready z h e = ap near (back64 z h) ∙ e

read : {r : Float} (z : ℤ) → mag z < 2 ^ 63 → r ≡ of128 (to_z w64 (of_z w64 z)) → r ≡ of128 z
read z h e = e ∙ ap of128 (back64 z h)

-- ---- what is near of a step's numbers
module _ (cx cy x y : ℤ) (e : near cx && near cy && near x && near y ≡ true) where
  third : (near cx && near cy) && near x ≡ true
  third = left_of _ (near y) e

  second : near cx && near cy ≡ true
  second = left_of _ (near x) third

pub of_128ths-requires-in-Curve-3 : goal.of_128ths-requires-in-Curve-3
of_128ths-requires-in-Curve-3 c =
    let k = c in let e = sym (ap is_near k.in-Curve.is) ∙ k.requires in
    ready k.in-Curve.x (omega (arith, k.in-Curve.known_told-in-Curve-1-own.given)) (right_of (near k.in-Curve.cx && near k.in-Curve.cy) (near k.in-Curve.x) (third k.in-Curve.cx k.in-Curve.cy k.in-Curve.x k.in-Curve.y e))

pub of_128ths-requires-in-Curve-4 : goal.of_128ths-requires-in-Curve-4
of_128ths-requires-in-Curve-4 c =
    let k = c in let e = sym (ap is_near k.in-Curve.is) ∙ k.requires in
    ready k.in-Curve.y (omega (arith, k.in-Curve.known_told-in-Curve-1-own.given)) (right_of ((near k.in-Curve.cx && near k.in-Curve.cy) && near k.in-Curve.x) (near k.in-Curve.y) e)
