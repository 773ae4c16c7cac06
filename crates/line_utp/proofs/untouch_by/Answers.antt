-- `line_utp::untouch_by` meets its contract: by the two tests. Assumes nothing.
use mathlib.Core.Path.{refl}
use Rattle.line_utp.specs.Utp.{untouched_by}
use Rattle.line_utp.proofs.Cases.{untouched_as}
use Rattle.line_utp.proofs.untouch_by.Goals as goal

pub returns-then-y : goal.returns-then-y
unfolding untouched_by
returns-then-y c = let a = c.args in
    untouched_as a.flags.now a.at c.if-x.true c.if-y.true c.untouch.ensures

pub returns-then-x : goal.returns-then-x
unfolding untouched_by
returns-then-x c = let a = c.args in
    untouched_as a.flags.now a.at c.if-x.true c.if-y.false c.untouch-then-x.ensures

pub returns-then-y-2 : goal.returns-then-y-2
unfolding untouched_by
returns-then-y-2 c = let a = c.args in
    untouched_as a.flags.now a.at c.if-x.false c.if-y-2.true c.untouch-then-y-2.ensures

pub returns : goal.returns
unfolding untouched_by
returns c = let a = c.args in untouched_as a.flags.now a.at c.if-x.false c.if-y-2.false refl
