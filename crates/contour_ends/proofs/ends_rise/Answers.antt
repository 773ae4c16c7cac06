-- `contour_ends::ends_rise` meets its contract. The last end lies below the number of points; the invariant: the pairs so far and those from k on rise as all ends do. Assumes nothing.
use mathlib.Core.Path.{◌∙◌}
use Prim.Native.Nat.{◌-◌}
use native.Mathlib.Omega.{arith}
use borrow.Author.Rules.{rules}
use lib.ListN.{length}
use Rattle.contour_ends.proofs.Rising.{all_rise, first_pair, next_pair, no_pair, one_high}
use Rattle.contour_ends.proofs.ends_rise.Goals as goal

pub returns-then-n-eq0 : goal.returns-then-n-eq0
returns-then-n-eq0 c = let s = c in
    all_rise 0 s.args.points s.args.contours.now 0 (omega (arith, c.if-n-eq0.true))

pub returns-then-points-from : goal.returns-then-points-from
returns-then-points-from c = let s = c in
    one_high 0 s.args.points s.args.contours.now (length s.args.contours.now - 1) (search rules) (omega (arith, c.if-points-from.true, c.from.ensures))

pub loop-k-init : goal.loop-k-init
loop-k-init c = let s = c in
    first_pair s.args.points s.args.contours.now (search rules) (omega (arith, c.if-points-from.false, c.from.ensures))

pub loop-k-preserved : goal.loop-k-preserved
loop-k-preserved c = let s = c in let l = c in let i = c in
    next_pair s.args.contours.now l.loop-k.k l.loop-k.rise i.loop-k-test.true ∙ l.loop-k.invariant

pub returns : goal.returns
returns c = let s = c in let l = c in
    no_pair s.args.contours.now l.loop-k.k l.loop-k.rise _ c.loop-k-test.false ∙ l.loop-k.invariant
