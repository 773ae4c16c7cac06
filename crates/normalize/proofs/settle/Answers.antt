-- `normalize::settle` meets its contract: the invariant is that from here it settles where it does from the first guess. Assumes nothing.
use mathlib.Core.Path.{◌≡◌, refl, ◌∙◌}
use Prim.Native.Nat.{◌+◌, ◌-◌}
use native.Mathlib.Omega.{arith}
use mir.Syntax.{w32}
use mir.Val.{to_z, of_z}
use mir.Facts.{to_z-of_z}
use Rattle.int.proofs.Words.{back32}
use Rattle.normalize.proofs.Seen.{rests, goes_on, no_more, read_back}
use Rattle.normalize.specs.Unit.{rounds, settled}
use Rattle.normalize.proofs.settle.Goals as goal
use Rattle.normalize.proofs.settle.Goals.{Start}

read : (s : Start) → settled rounds (to_z w32 (of_z w32 s.args.x)) (to_z w32 (of_z w32 s.args.y)) (to_z w32 (of_z w32 s.args.first)) ≡ settled rounds s.args.x s.args.y s.args.first
read s = read_back rounds (to_z-of_z s.ranges.x) (to_z-of_z s.ranges.y) (to_z-of_z s.ranges.first)

pub loop-init : goal.loop-init
loop-init c = refl

pub returns-then-not-less : goal.returns-then-not-less
returns-then-not-less c = let t = c in let z = t in let i = z in let l = i in
    rests refl refl refl (back32 z.correct-by.result z.correct-by.type_inv) z.correct-by.ensures t.less.ensures (rounds - l.loop.counter) (omega arith) c.if-not-less.true-raw ∙ l.loop.invariant ∙ read (goal.at.returns-then-not-less c).Start

pub loop-preserved : goal.loop-preserved
loop-preserved c = let e = c in let t = e in let z = t in let i = z in let l = i in
    goes_on refl refl refl (back32 z.correct-by.result z.correct-by.type_inv) z.correct-by.ensures t.less.ensures (rounds - (l.loop.counter + 1)) (rounds - l.loop.counter) (omega arith) e.if-not-less.false-raw (back32 c.wrapping_add-b.result c.wrapping_add-b.type_inv) c.wrapping_add-b.ensures ∙ l.loop.invariant

pub returns : goal.returns
returns c = let l = c in no_more (rounds - l.loop.counter) _ _ (to_z w32 l.loop.b-bits) (omega arith) ∙ l.loop.invariant ∙ read (goal.at.returns c).Start
