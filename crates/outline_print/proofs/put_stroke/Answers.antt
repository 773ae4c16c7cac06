-- `outline_print::put_stroke` meets its contract: the word, and the numbers behind it. Assumes nothing.
use mathlib.Core.List.{List}
use mathlib.Core.Path.{◌∙◌, ap, subst, sym}
use Prim.Native.Nat.{ℕ}
use native.Mathlib.Omega.{arith}
use lib.ListN.{length}
use Rattle.outline_numbers.specs.Drawing.{is_near}
use Rattle.outline_numbers.specs.declared.Stroke.{Stroke}
use Rattle.record_print.specs.Steps.{Put}
use Rattle.record_print.proofs.Puts.{put_join}
use Rattle.outline_print.specs.Lines.{stroke_line}
use Rattle.outline_print.proofs.Putting.{move_long, line_long, curve_long, close_long, near_back, nears_back, place_back, places_back}
use Rattle.outline_print.proofs.put_stroke.Goals as goal

pub put_word-next-requires : goal.put_word-next-requires
put_word-next-requires c = let a = c.args in
    omega (arith, c.requires.d_in_bounds, move_long c.in-Move.is)

pub put_place-requires : goal.put_place-requires
put_place-requires c = let a = c.args in
    let near-both = sym (ap is_near c.in-Move.is) ∙ c.requires.d_value in record { y_value = near_back c.in-Move.x c.in-Move.y (omega (arith, c.in-Move.known_told-1-own.given)) (omega (arith, c.in-Move.known_told-1-own.given)) near-both; y_in_bounds = omega (arith, c.requires.d_in_bounds, move_long c.in-Move.is, ap length (place_back c.in-Move.x c.in-Move.y (omega (arith, c.in-Move.known_told-1-own.given)) (omega (arith, c.in-Move.known_told-1-own.given))), c.put_word-next.ensures.behind, c.put_word-next.auto.text) }

pub put_word-next-requires-in-Line : goal.put_word-next-requires-in-Line
put_word-next-requires-in-Line c = let a = c.args in
    omega (arith, c.requires.d_in_bounds, line_long c.in-Line.is)

pub put_place-requires-in-Line : goal.put_place-requires-in-Line
put_place-requires-in-Line c = let a = c.args in
    let near-both = sym (ap is_near c.in-Line.is) ∙ c.requires.d_value in record { y_value = near_back c.in-Line.x c.in-Line.y (omega (arith, c.in-Line.known_told-in-Line-1-own.given)) (omega (arith, c.in-Line.known_told-in-Line-1-own.given)) near-both; y_in_bounds = omega (arith, c.requires.d_in_bounds, line_long c.in-Line.is, ap length (place_back c.in-Line.x c.in-Line.y (omega (arith, c.in-Line.known_told-in-Line-1-own.given)) (omega (arith, c.in-Line.known_told-in-Line-1-own.given))), c.put_word-next-in-Line.ensures.behind, c.put_word-next-in-Line.auto.text) }

pub put_word-next-requires-in-Curve : goal.put_word-next-requires-in-Curve
put_word-next-requires-in-Curve c = let a = c.args in
    omega (arith, c.requires.d_in_bounds, curve_long c.in-Curve.is)

pub put_places-requires : goal.put_places-requires
put_places-requires c = let a = c.args in record { y_value = nears_back c.in-Curve.cx c.in-Curve.cy c.in-Curve.x c.in-Curve.y (omega (arith, c.in-Curve.known_told-in-Curve-1-own.given)) (omega (arith, c.in-Curve.known_told-in-Curve-1-own.given)) (omega (arith, c.in-Curve.known_told-in-Curve-1-own.given)) (omega (arith, c.in-Curve.known_told-in-Curve-1-own.given)) (sym (ap is_near c.in-Curve.is) ∙ c.requires.d_value); y_in_bounds = omega (arith, c.requires.d_in_bounds, curve_long c.in-Curve.is, ap length (places_back c.in-Curve.cx c.in-Curve.cy c.in-Curve.x c.in-Curve.y (omega (arith, c.in-Curve.known_told-in-Curve-1-own.given)) (omega (arith, c.in-Curve.known_told-in-Curve-1-own.given)) (omega (arith, c.in-Curve.known_told-in-Curve-1-own.given)) (omega (arith, c.in-Curve.known_told-in-Curve-1-own.given))), c.put_word-next-in-Curve.ensures.behind, c.put_word-next-in-Curve.auto.text) }

pub put_word-requires : goal.put_word-requires
put_word-requires c = omega (arith, c.requires.d_in_bounds, close_long c.in-Close.is)

pub returns-in-Move : goal.returns-in-Move
unfolding stroke_line
returns-in-Move c = let a = c.args in
    let q = subst (λ (t : List ℕ). Put t c.put_word-next.result c.put_place.result c.put_word-next.new.text c.put_place.new.text) (place_back c.in-Move.x c.in-Move.y (omega (arith, c.in-Move.known_told-1-own.given)) (omega (arith, c.in-Move.known_told-1-own.given))) c.put_place.ensures in
    subst (λ (e : Stroke). Put (stroke_line e) a.at c.put_place.result a.text.now c.put_place.new.text) (sym c.in-Move.is) (put_join c.put_word-next.ensures q)

pub returns-in-Line : goal.returns-in-Line
unfolding stroke_line
returns-in-Line c = let a = c.args in
    let q = subst (λ (t : List ℕ). Put t c.put_word-next-in-Line.result c.put_place-in-Line.result c.put_word-next-in-Line.new.text c.put_place-in-Line.new.text) (place_back c.in-Line.x c.in-Line.y (omega (arith, c.in-Line.known_told-in-Line-1-own.given)) (omega (arith, c.in-Line.known_told-in-Line-1-own.given))) c.put_place-in-Line.ensures in
    subst (λ (e : Stroke). Put (stroke_line e) a.at c.put_place-in-Line.result a.text.now c.put_place-in-Line.new.text) (sym c.in-Line.is) (put_join c.put_word-next-in-Line.ensures q)

pub returns-in-Curve : goal.returns-in-Curve
unfolding stroke_line
returns-in-Curve c = let a = c.args in
    let q = subst (λ (t : List ℕ). Put t c.put_word-next-in-Curve.result c.put_places.result c.put_word-next-in-Curve.new.text c.put_places.new.text) (places_back c.in-Curve.cx c.in-Curve.cy c.in-Curve.x c.in-Curve.y (omega (arith, c.in-Curve.known_told-in-Curve-1-own.given)) (omega (arith, c.in-Curve.known_told-in-Curve-1-own.given)) (omega (arith, c.in-Curve.known_told-in-Curve-1-own.given)) (omega (arith, c.in-Curve.known_told-in-Curve-1-own.given))) c.put_places.ensures in
    subst (λ (e : Stroke). Put (stroke_line e) a.at c.put_places.result a.text.now c.put_places.new.text) (sym c.in-Curve.is) (put_join c.put_word-next-in-Curve.ensures q)

pub returns-in-Close : goal.returns-in-Close
unfolding stroke_line
returns-in-Close c = let a = c.args in
    subst (λ (e : Stroke). Put (stroke_line e) a.at c.put_word.result a.text.now c.put_word.new.text) (sym c.in-Close.is) c.put_word.ensures
