-- `iup::inside` meets its contract: by whether the references are level. Assumes nothing.
use mathlib.Core.Path.{◌≡◌, ap₂, ◌∙◌}
use mathlib.Core.Bool.{true, false}
use mir.Facts.{to_z-of_z}
use Rattle.int.proofs.Words.{back32}
use Rattle.int.specs.Word.{add32, sub32}
use Rattle.iup.specs.Parts.{inside_by}
use Rattle.math.specs.Fixed.{mul_fix}
use Rattle.iup.proofs.inside.Goals as goal

pub returns-then-flat : goal.returns-then-flat
unfolding inside_by
returns-then-flat c = let s = c in
    let f : s.args.flat ≡ true = c.if-flat.true in
    rw f (back32 s.args.low.current c.struct_told-1.given.1.1.0.1)

pub returns-else-flat : goal.returns-else-flat
unfolding inside_by
returns-else-flat c = let s = c in let p = s.args.low in
    let f : s.args.flat ≡ false = c.if-flat.false in
    rw f
    (back32 c.wrapping_add.result c.wrapping_add.type_inv ∙ c.wrapping_add.ensures
    ∙ ap₂ add32 (back32 p.current c.struct_told-else-flat-2-1.given.1.1.0.1)
    (back32 c.mul.result c.mul.type_inv ∙ c.mul.ensures
    ∙ ap₂ mul_fix
    (back32 c.wrapping_sub.result c.wrapping_sub.type_inv ∙ c.wrapping_sub.ensures ∙ ap₂ sub32 (to_z-of_z s.ranges.unscaled) (back32 p.unscaled c.struct_told-else-flat-1.given.0.1))
    (to_z-of_z s.ranges.scale)))
