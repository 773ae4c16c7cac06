-- `outline_print::put_places` meets its contract: four numbers, one behind the other. Assumes nothing.
use mathlib.Core.List.{List}
use mathlib.Core.Path.{◌∙◌, ap, subst}
use mathlib.Core.Bool.{◌&&◌}
use Prim.Native.Nat.{ℕ}
use native.Mathlib.Omega.{arith}
use lib.IntN.{ℤ}
use lib.ListN.{length}
use mir.Syntax.{w64}
use mir.ValLaws.{to_z-of_z}
use Rattle.outline_numbers.proofs.Near.{left_of, right_of}
use Rattle.outline_numbers.specs.Drawing.{near}
use Rattle.record_print.specs.Steps.{Put, ended_by}
use Rattle.record_print.proofs.Puts.{put_join}
use Rattle.outline_print.specs.Lines.{fraction, places_text}
use Rattle.outline_print.proofs.Putting.{near_back, place_back, places_long}
use Rattle.outline_print.proofs.put_places.Goals as goal

pub put_fraction-second-requires : goal.put_fraction-second-requires
put_fraction-second-requires c = let a = c.args in record { z_value = ap near (to_z-of_z w64 a.a c.ranges.a) ∙ left_of (near a.a) (near a.b) (left_of (near a.a && near a.b) (near a.x) (left_of ((near a.a && near a.b) && near a.x) (near a.y) c.requires.y_value)); end_in_bounds = omega (arith, c.requires.y_in_bounds, places_long a.a a.b a.x a.y, ap (λ (z : ℤ). length (ended_by (fraction z) 32)) (to_z-of_z w64 a.a c.ranges.a)) }

pub put_fraction-next-requires : goal.put_fraction-next-requires
put_fraction-next-requires c = let a = c.args in record { z_value = ap near (to_z-of_z w64 a.b c.ranges.b) ∙ right_of (near a.a) (near a.b) (left_of (near a.a && near a.b) (near a.x) (left_of ((near a.a && near a.b) && near a.x) (near a.y) c.requires.y_value)); end_in_bounds = omega (arith, c.requires.y_in_bounds, places_long a.a a.b a.x a.y, ap (λ (z : ℤ). length (ended_by (fraction z) 32)) (to_z-of_z w64 a.a c.ranges.a), ap (λ (z : ℤ). length (ended_by (fraction z) 32)) (to_z-of_z w64 a.b c.ranges.b), c.put_fraction-second.ensures.behind, c.put_fraction-second.auto.text) }

pub put_place-requires : goal.put_place-requires
put_place-requires c = let a = c.args in
    let nx = right_of (near a.a && near a.b) (near a.x) (left_of ((near a.a && near a.b) && near a.x) (near a.y) c.requires.y_value) in
    let ny = right_of ((near a.a && near a.b) && near a.x) (near a.y) c.requires.y_value in record { y_value = near_back a.x a.y c.ranges.x.sfits c.ranges.y.sfits (λ i. nx i && ny i); y_in_bounds = omega (arith, c.requires.y_in_bounds, places_long a.a a.b a.x a.y, ap (λ (z : ℤ). length (ended_by (fraction z) 32)) (to_z-of_z w64 a.a c.ranges.a), ap (λ (z : ℤ). length (ended_by (fraction z) 32)) (to_z-of_z w64 a.b c.ranges.b), ap length (place_back a.x a.y c.ranges.x.sfits c.ranges.y.sfits), c.put_fraction-second.ensures.behind, c.put_fraction-second.auto.text, c.put_fraction-next.ensures.behind, c.put_fraction-next.auto.text) }

pub returns : goal.returns
unfolding places_text
returns c = let a = c.args in
    let u = subst (λ (z : ℤ). Put (ended_by (fraction z) 32) a.at c.put_fraction-second.result a.text.now c.put_fraction-second.new.text) (to_z-of_z w64 a.a c.ranges.a) c.put_fraction-second.ensures in
    let v = subst (λ (z : ℤ). Put (ended_by (fraction z) 32) c.put_fraction-second.result c.put_fraction-next.result c.put_fraction-second.new.text c.put_fraction-next.new.text) (to_z-of_z w64 a.b c.ranges.b) c.put_fraction-next.ensures in
    let q = subst (λ (t : List ℕ). Put t c.put_fraction-next.result c.put_place.result c.put_fraction-next.new.text c.put_place.new.text) (place_back a.x a.y c.ranges.x.sfits c.ranges.y.sfits) c.put_place.ensures in
    put_join u (put_join v q)
