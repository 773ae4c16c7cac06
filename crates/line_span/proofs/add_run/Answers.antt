-- `line_span::add_run` meets its contract. The invariant: what is left to move of the list, the part put back, is the whole. Assumes nothing.
use Prim.Native.Nat.{◌+◌, ◌-◌, ◌≤◌}
use native.Mathlib.Omega.{arith}
use mathlib.Core.Bool.{true}
use mathlib.Core.Path.{ap, ◌∙◌, ◌≡◌}
use borrow.Rule.Slice.PartMut.{mid_len, put_mid, put_same}
use lib.IntN.{ℤ, pos}
use lib.ListN.{get_or, length}
use mir.Facts.{to_z-of_z}
use mir.Syntax.{w32}
use mir.Val.{of_z, to_z}
use Rattle.int.proofs.Words.{back32}
use Rattle.int.specs.Word.{add32}
use Rattle.line_span.proofs.Walk.{moves_ended, part_moved}
use Rattle.line_span.specs.Steps.{moved_run}
use Rattle.line_span.proofs.add_run.Goals as goal

pub loop-x-init : goal.loop-x-init
loop-x-init c = let a = c.args in
    let first : a.start + 0 ≡ a.start = omega arith in
    rw (first, put_same a.start (a.end - a.start) a.list.now)

pub loop-x-preserved : goal.loop-x-preserved
loop-x-preserved c = let a = c.args in let v = c.loop-x in let d = to_z w32 (of_z w32 a.by) in
    let long : length v.x-items ≡ a.end - a.start = v.auto.x-items ∙ mid_len a.start a.end a.list.now c.requires.1 in
    part_moved d a.start a.end v.x-index a.list.now v.x-items c.requires.0 c.requires.1 long (omega (arith, c.loop-x-test.true, v.auto.x-items))
    (back32 c.wrapping_add.result c.wrapping_add.type_inv ∙ c.wrapping_add.ensures ∙ ap (λ (x : ℤ). add32 x d) (back32 (get_or v.x-items v.x-index (pos 0)) c.wrapping_add-arg-1.given))
    ∙ v.invariant

pub returns : goal.returns
returns c = let a = c.args in let v = c.loop-x in
    let all : a.end ≤ a.start + v.x-index = omega (arith, c.loop-x-test.false, mid_len a.start a.end a.list.now c.requires.1, c.requires.0) in
    moves_ended (to_z w32 (of_z w32 a.by)) a.end (a.start + v.x-index) (put_mid a.start (a.end - a.start) a.list.now v.x-items) all ∙ v.invariant
    ∙ ap (λ (d : ℤ). moved_run true d a.start a.end a.list.now) (to_z-of_z c.ranges.by)
