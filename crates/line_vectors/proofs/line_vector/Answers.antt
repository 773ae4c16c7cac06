-- `line_vectors::line_vector` meets its contract: by whether the points are in one place, and by the opcode. Assumes nothing.
use Prim.Native.Nat.{◌^◌, ◌<◌}
use native.Mathlib.Omega.{arith}
use lib.Signed.{mag}
use Rattle.int.proofs.Words.{back32}
use Rattle.line_vectors.proofs.Cases.{one_place, across_it, along_it}
use Rattle.line_vectors.proofs.line_vector.Goals as goal
use Rattle.line_vectors.proofs.line_vector.Goals.{Start}

-- the four numbers fit
told : (s : Start) → let p = s.args.p in let q = s.args.q in (mag p.x < 2 ^ 31) × ((mag q.x < 2 ^ 31) × ((mag p.y < 2 ^ 31) × (mag q.y < 2 ^ 31)))
told s = omega arith

pub returns-then-equal : goal.returns-then-equal
returns-then-equal c = let a = c.args in
    one_place a.p a.q (back32 a.p.x (told (goal.at.returns-then-equal c).Start).0) (back32 a.q.x (told (goal.at.returns-then-equal c).Start).1.0) (back32 a.p.y (told (goal.at.returns-then-equal c).Start).1.1.0) (back32 a.q.y (told (goal.at.returns-then-equal c).Start).1.1.1) (back32 c.wrapping_sub-a.result c.wrapping_sub-a.type_inv) c.wrapping_sub-a.ensures (back32 c.wrapping_sub-b.result c.wrapping_sub-b.type_inv) c.wrapping_sub-b.ensures c.equal.ensures c.equal-2.ensures a.across c.if-equal.true c.x_axis.ensures

pub returns-then-across : goal.returns-then-across
returns-then-across c = let a = c.args in
    across_it a.p a.q (back32 a.p.x (told (goal.at.returns-then-across c).Start).0) (back32 a.q.x (told (goal.at.returns-then-across c).Start).1.0) (back32 a.p.y (told (goal.at.returns-then-across c).Start).1.1.0) (back32 a.q.y (told (goal.at.returns-then-across c).Start).1.1.1) (back32 c.wrapping_sub-a.result c.wrapping_sub-a.type_inv) c.wrapping_sub-a.ensures (back32 c.wrapping_sub-b.result c.wrapping_sub-b.type_inv) c.wrapping_sub-b.ensures c.equal.ensures c.equal-2.ensures c.if-equal.false c.if-across.true (back32 c.wrapping_neg.result c.wrapping_neg.type_inv) c.wrapping_neg.ensures c.normalize.ensures

pub returns-else-across : goal.returns-else-across
returns-else-across c = let a = c.args in
    along_it a.p a.q (back32 a.p.x (told (goal.at.returns-else-across c).Start).0) (back32 a.q.x (told (goal.at.returns-else-across c).Start).1.0) (back32 a.p.y (told (goal.at.returns-else-across c).Start).1.1.0) (back32 a.q.y (told (goal.at.returns-else-across c).Start).1.1.1) (back32 c.wrapping_sub-a.result c.wrapping_sub-a.type_inv) c.wrapping_sub-a.ensures (back32 c.wrapping_sub-b.result c.wrapping_sub-b.type_inv) c.wrapping_sub-b.ensures c.equal.ensures c.equal-2.ensures c.if-equal.false c.if-across.false c.normalize-else-across.ensures
