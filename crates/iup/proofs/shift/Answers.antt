-- `iup::shift` meets its contract: the library's lemma on a loop that writes each element. Assumes nothing.
use mathlib.Core.Path.{ap, ◌∙◌}
use Prim.Native.Nat.{◌<◌}
use native.Mathlib.Omega.{arith}
use lib.IntN.{ℤ, pos}
use lib.ListN.{get_or, length, set}
use mir.Syntax.{w32}
use mir.Val.{to_z, of_z}
use Rattle.int.proofs.Words.{back32}
use Rattle.int.specs.Word.{add32}
use Rattle.std.proofs.lemmas.List.{get_or_default}
use Rattle.std.proofs.lemmas.List.Edits.{map_over_more}
use Rattle.iup.proofs.shift.Goals as goal

pub loop-place-preserved : goal.loop-place-preserved
loop-place-preserved c = let a = c.args in let v = c.loop-place in let i = v.place-index in
    let f : ℤ → ℤ = λ x. add32 x (to_z w32 (of_z w32 a.delta)) in
    let place : ℤ = get_or v.part i (pos 0) in
    let here : i < length v.part = omega arith in
    ap (set v.part i) (back32 c.wrapping_add.result c.wrapping_add.type_inv ∙ c.wrapping_add.ensures ∙ ap f (back32 place c.wrapping_add-arg-1.given))
    ∙ map_over_more f a.part.now v.part i place (omega arith) v.invariant (get_or_default v.part i (pos 0) place here)
