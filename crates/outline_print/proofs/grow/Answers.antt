-- `outline_print::grow` meets its contract: edge by edge. Assumes nothing.
use mathlib.Core.Path.{◌∙◌, ap₂}
use mir.Syntax.{w64}
use mir.ValLaws.{to_z-of_z}
use Rattle.int.proofs.Words.{back64}
use Rattle.outline_numbers.specs.Drawing.{greater_z, lesser_z}
use Rattle.outline_print.proofs.grow.Goals as goal

pub returns : goal.returns
returns c = let e = c.args.e in
    let x = to_z-of_z w64 c.args.x c.ranges.x in
    let y = to_z-of_z w64 c.args.y c.ranges.y in
    let p = c.lesser in let q = c.lesser-2 in let r = c.greater in let t = c.greater-2 in
    let l = back64 p.result p.type_inv ∙ p.ensures ∙ ap₂ lesser_z x (back64 e.left c.struct_told-1.given.0.1) in
    let m = back64 q.result q.type_inv ∙ q.ensures ∙ ap₂ lesser_z y (back64 e.bottom c.struct_told-2-1.given.1.0.1) in
    let n = back64 r.result r.type_inv ∙ r.ensures ∙ ap₂ greater_z x (back64 e.right c.struct_told-3-1.given.1.1.0.1) in
    let o = back64 t.result t.type_inv ∙ t.ensures ∙ ap₂ greater_z y (back64 e.top c.struct_told-4-1.given.1.1.1.0.1) in
    λ i. record { left = l i; bottom = m i; right = n i; top = o i }
