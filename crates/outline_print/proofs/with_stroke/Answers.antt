-- `outline_print::with_stroke` meets its contract: point by point. Assumes nothing.
use mathlib.Core.Path.{◌∙◌, ap, sym}
use native.Mathlib.Omega.{arith}
use Rattle.int.proofs.Words.{back64}
use Rattle.outline_numbers.specs.Drawing.{spots_of, with_point, with_spots}
use Rattle.outline_numbers.specs.declared.Stroke.{Stroke}
use Rattle.outline_print.specs.Lines.{extent_in}
use Rattle.outline_print.proofs.with_stroke.Goals as goal

pub returns-in-Move : goal.returns-in-Move
returns-in-Move c = let a = c.args in
    let x = back64 c.in-Move.x (omega (arith, c.in-Move.known_told-1-own.given)) in
    let y = back64 c.in-Move.y (omega (arith, c.in-Move.known_told-1-own.given)) in
    c.with_spot.ensures ∙ (λ i. with_point (x i) (y i) (extent_in a.f)) ∙ sym (ap (λ (e : Stroke). with_spots (extent_in a.f) (spots_of e)) c.in-Move.is)

pub returns-in-Line : goal.returns-in-Line
returns-in-Line c = let a = c.args in
    let x = back64 c.in-Line.x (omega (arith, c.in-Line.known_told-in-Line-1-own.given)) in
    let y = back64 c.in-Line.y (omega (arith, c.in-Line.known_told-in-Line-1-own.given)) in
    c.with_spot-in-Line.ensures ∙ (λ i. with_point (x i) (y i) (extent_in a.f)) ∙ sym (ap (λ (e : Stroke). with_spots (extent_in a.f) (spots_of e)) c.in-Line.is)

pub returns-in-Curve : goal.returns-in-Curve
returns-in-Curve c = let a = c.args in
    let cx = back64 c.in-Curve.cx (omega (arith, c.in-Curve.known_told-in-Curve-1-own.given)) in
    let cy = back64 c.in-Curve.cy (omega (arith, c.in-Curve.known_told-in-Curve-1-own.given)) in
    let x = back64 c.in-Curve.x (omega (arith, c.in-Curve.known_told-in-Curve-1-own.given)) in
    let y = back64 c.in-Curve.y (omega (arith, c.in-Curve.known_told-in-Curve-1-own.given)) in
    c.with_spot-in-Curve-2.ensures
    ∙ (λ i. with_point (x i) (y i) ((c.with_spot-in-Curve.ensures ∙ (λ j. with_point (cx j) (cy j) (extent_in a.f))) i))
    ∙ sym (ap (λ (e : Stroke). with_spots (extent_in a.f) (spots_of e)) c.in-Curve.is)
