-- `normalize::normalize` meets its contract: by whether a number is 0. Assumes nothing.
use mir.Facts.{to_z-of_z}
use Rattle.int.proofs.Words.{back32}
use Rattle.normalize.proofs.Seen.{normal_axis, normal_aimed, most}
use Rattle.normalize.proofs.normalize.Goals as goal

pub start_of-requires : goal.start_of-requires
start_of-requires c = let a = c in let s = a in (most s.args.x a.magnitude.result s.ranges.x a.magnitude.ensures, most s.args.y c.magnitude-else-equal.result s.ranges.y c.magnitude-else-equal.ensures)

pub returns-then-equal : goal.returns-then-equal
returns-then-equal c = let a = c in let i = a in let n = i in let m = n in let s = m in
    normal_axis (to_z-of_z s.ranges.x) (to_z-of_z s.ranges.y) m.equal.ensures n.equal-2.ensures i.if-equal.true (back32 a.unit_by.result a.unit_by.type_inv) a.unit_by.ensures (back32 c.unit_by-then-equal.result c.unit_by-then-equal.type_inv) c.unit_by-then-equal.ensures

pub returns-else-equal : goal.returns-else-equal
returns-else-equal c = let o = c in let l = o in let k = l in let i = k in let n = i in let m = n in let s = m in
    normal_aimed (to_z-of_z s.ranges.x) (to_z-of_z s.ranges.y) m.equal.ensures n.equal-2.ensures i.if-equal.false k.magnitude.ensures l.magnitude-else-equal.ensures o.start_of.ensures c.aim_from.ensures
