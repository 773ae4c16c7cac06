-- `iup::moved` meets its contract: by where the point lies to its references. Assumes nothing.
use mathlib.Core.Path.{◌≡◌, sym, ap, ap₂, ◌∙◌}
use mathlib.Core.Bool.{true, false}
use lib.IntN.{ℤ}
use lib.Signed.{le_z}
use mir.Facts.{to_z-of_z}
use Rattle.int.proofs.Words.{back32}
use Rattle.int.specs.Word.{add32}
use Rattle.iup.specs.Contour.{offset}
use Rattle.iup.specs.Parts.{inside_by, moved_by}
use Rattle.iup.proofs.moved.Goals as goal

pub returns-then-at_most : goal.returns-then-at_most
unfolding moved_by
returns-then-at_most c = let s = c in let p = s.args.low in let q = s.args.high in
    let t : le_z s.args.original p.original ≡ true = sym (ap₂ le_z (to_z-of_z s.ranges.original) (back32 p.original c.struct_told-1.given.1.0.1)) ∙ sym c.at_most.ensures ∙ c.if-at_most.true in
    rw t (back32 c.carried.result c.carried.type_inv ∙ c.carried.ensures ∙ ap (λ (x : ℤ). add32 x (offset p)) (to_z-of_z s.ranges.original))

pub returns-then-at_most-2 : goal.returns-then-at_most-2
unfolding moved_by
returns-then-at_most-2 c = let s = c in let p = s.args.low in let q = s.args.high in
    let t : le_z s.args.original p.original ≡ false = sym (ap₂ le_z (to_z-of_z s.ranges.original) (back32 p.original c.struct_told-1.given.1.0.1)) ∙ sym c.at_most.ensures ∙ c.if-at_most.false in
    let g : le_z q.original s.args.original ≡ true = sym (ap₂ le_z (back32 q.original c.struct_told-else-at_most-1.given.1.0.1) (to_z-of_z s.ranges.original)) ∙ sym c.at_most-else-at_most.ensures ∙ c.if-at_most-2.true in
    rw (t, g) (back32 c.carried-then-at_most-2.result c.carried-then-at_most-2.type_inv ∙ c.carried-then-at_most-2.ensures ∙ ap (λ (x : ℤ). add32 x (offset q)) (to_z-of_z s.ranges.original))

pub returns-else-at_most-2 : goal.returns-else-at_most-2
unfolding moved_by
returns-else-at_most-2 c = let s = c in let p = s.args.low in let q = s.args.high in
    let t : le_z s.args.original p.original ≡ false = sym (ap₂ le_z (to_z-of_z s.ranges.original) (back32 p.original c.struct_told-1.given.1.0.1)) ∙ sym c.at_most.ensures ∙ c.if-at_most.false in
    let g : le_z q.original s.args.original ≡ false = sym (ap₂ le_z (back32 q.original c.struct_told-else-at_most-1.given.1.0.1) (to_z-of_z s.ranges.original)) ∙ sym c.at_most-else-at_most.ensures ∙ c.if-at_most-2.false in
    rw (t, g) (back32 c.inside.result c.inside.type_inv ∙ c.inside.ensures ∙ ap₂ (inside_by p s.args.flat) (to_z-of_z s.ranges.scale) (to_z-of_z s.ranges.unscaled))
