-- `outline_print::put_place` meets its contract: two numbers, one behind the other. Assumes nothing.
use mathlib.Core.Path.{◌∙◌, ap, subst}
use native.Mathlib.Omega.{arith}
use lib.IntN.{ℤ}
use lib.ListN.{length}
use mir.Syntax.{w64}
use mir.ValLaws.{to_z-of_z}
use Rattle.outline_numbers.proofs.Near.{left_of, right_of}
use Rattle.outline_numbers.specs.Drawing.{near}
use Rattle.record_print.specs.Steps.{Put, ended_by}
use Rattle.record_print.proofs.Puts.{put_join}
use Rattle.outline_print.specs.Lines.{fraction, place_text}
use Rattle.outline_print.proofs.Putting.{place_long}
use Rattle.outline_print.proofs.put_place.Goals as goal

pub put_fraction-next-requires : goal.put_fraction-next-requires
put_fraction-next-requires c = let a = c.args in
    let b = to_z-of_z w64 a.x c.ranges.x in record { z_value = ap near b ∙ left_of (near a.x) (near a.y) c.requires.y_value; end_in_bounds = omega (arith, c.requires.y_in_bounds, place_long a.x a.y, ap (λ (z : ℤ). length (ended_by (fraction z) 32)) b) }

pub put_fraction-requires : goal.put_fraction-requires
put_fraction-requires c = let a = c.args in
    let b = to_z-of_z w64 a.x c.ranges.x in
    let d = to_z-of_z w64 a.y c.ranges.y in record { z_value = ap near d ∙ right_of (near a.x) (near a.y) c.requires.y_value; end_in_bounds = omega (arith, c.requires.y_in_bounds, place_long a.x a.y, ap (λ (z : ℤ). length (ended_by (fraction z) 32)) b, ap (λ (z : ℤ). length (ended_by (fraction z) 10)) d, c.put_fraction-next.ensures.behind, c.put_fraction-next.auto.text) }

pub returns : goal.returns
unfolding place_text
returns c = let a = c.args in
    let p = subst (λ (z : ℤ). Put (ended_by (fraction z) 32) a.at c.put_fraction-next.result a.text.now c.put_fraction-next.new.text) (to_z-of_z w64 a.x c.ranges.x) c.put_fraction-next.ensures in
    let q = subst (λ (z : ℤ). Put (ended_by (fraction z) 10) c.put_fraction-next.result c.put_fraction.result c.put_fraction-next.new.text c.put_fraction.new.text) (to_z-of_z w64 a.y c.ranges.y) c.put_fraction.ensures in
    put_join p q
