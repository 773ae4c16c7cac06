-- `record_print::put_points` meets its contract: the lines put so far and those that are left make the whole. Assumes nothing.
use Prim.Native.Nat.{◌+◌, ◌<◌, ◌≤◌}
use native.Mathlib.Omega.{arith}
use Rattle.record_print.proofs.Lines.{all_left, lines_left, next_left, next_line, none_left, print_end, print_room, print_start, print_turn}
use Rattle.record_print.proofs.put_points.Goals as goal

pub loop-i-init : goal.loop-i-init
loop-i-init c = let a = c.args in print_start a.at a.text.now (all_left a.out.now a.l)

pub put_point-next-requires : goal.put_point-next-requires
put_point-next-requires c =
    let v = c.loop-i in
    let more : v.i < c.args.l.points = omega (arith, c.loop-i-test.true, c.wide-points.ensures) in
    print_room (next_line c.args.out.now c.args.l v.i) (lines_left c.args.out.now c.args.l (v.i + 1)) v.invariant (next_left c.args.out.now c.args.l v.i more) c.requires

pub loop-i-preserved : goal.loop-i-preserved
loop-i-preserved c =
    let v = c.loop-i in
    let more : v.i < c.args.l.points = omega (arith, c.loop-i-test.true, c.wide-points.ensures) in
    print_turn {piece = next_line c.args.out.now c.args.l v.i} v.invariant (next_left c.args.out.now c.args.l v.i more) c.put_point-next.ensures

pub returns : goal.returns
returns c =
    let v = c.loop-i in
    let all : c.args.l.points ≤ v.i = omega (arith, c.loop-i-test.false, c.wide-points.ensures) in
    print_end v.invariant (none_left c.args.out.now c.args.l v.i all)
