-- `line_span::touch_run` meets its contract. The invariant: what is left to touch of the flags, the part put back, is the whole. Assumes nothing.
use Prim.Native.Nat.{◌+◌, ◌-◌, ◌≤◌}
use native.Mathlib.Omega.{arith}
use mathlib.Core.Path.{◌∙◌, ◌≡◌}
use borrow.Rule.Slice.PartMut.{mid_len, put_mid, put_same}
use lib.ListN.{length}
use Rattle.line_span.proofs.Walk.{part_touched, touches_ended}
use Rattle.line_span.proofs.touch_run.Goals as goal

pub loop-flag-init : goal.loop-flag-init
loop-flag-init c = let a = c.args in
    let first : a.start + 0 ≡ a.start = omega arith in
    rw (first, put_same a.start (a.end - a.start) a.flags.now)

pub loop-flag-preserved : goal.loop-flag-preserved
loop-flag-preserved c = let a = c.args in let v = c.loop-flag in
    let long : length v.flag-items ≡ a.end - a.start = v.auto.flag-items ∙ mid_len a.start a.end a.flags.now c.requires.1 in
    part_touched a.bits a.start a.end v.flag-index a.flags.now v.flag-items c.requires.0 c.requires.1 long (omega (arith, c.loop-flag-test.true, v.auto.flag-items)) c.with_bits.ensures
    ∙ v.invariant

pub returns : goal.returns
returns c = let a = c.args in let v = c.loop-flag in
    let all : a.end ≤ a.start + v.flag-index = omega (arith, c.loop-flag-test.false, mid_len a.start a.end a.flags.now c.requires.1, c.requires.0) in
    touches_ended a.bits a.end (a.start + v.flag-index) (put_mid a.start (a.end - a.start) a.flags.now v.flag-items) all ∙ v.invariant
