-- `iup::sizes_fit` meets its contract: test by test. Assumes nothing.
use mathlib.Core.Path.{◌≡◌, sym, ◌∙◌}
use mathlib.Core.Bool.{true, false}
use borrow.Author.Tests.{eq-eqb, ne_eqb}
use lib.Dec.{leb}
use Rattle.iup.specs.Iup.{sizes_fit}
use Rattle.limits.specs.Limits.{most_points}
use Rattle.iup.proofs.sizes_fit.Goals as goal

pub returns-then-unscaled-current : goal.returns-then-unscaled-current
unfolding sizes_fit
returns-then-unscaled-current c = let a = c.args in rw (ne_eqb a.unscaled a.current c.if-unscaled-current.true)

pub returns-then-original-current : goal.returns-then-original-current
unfolding sizes_fit
returns-then-original-current c = let a = c.args in
    rw (eq-eqb a.unscaled a.current c.if-unscaled-current.false, ne_eqb a.original a.current c.if-original-current.true)

pub returns-then-flags-current : goal.returns-then-flags-current
unfolding sizes_fit
returns-then-flags-current c = let a = c.args in
    rw (
      eq-eqb a.unscaled a.current c.if-unscaled-current.false,
      eq-eqb a.original a.current c.if-original-current.false,
      ne_eqb a.flags a.current c.if-flags-current.true,
    )

pub returns-then-points_fit : goal.returns-then-points_fit
unfolding sizes_fit
returns-then-points_fit c = let a = c.args in
    let t : leb a.current most_points ≡ true = sym c.points_fit.ensures ∙ c.if-points_fit.true in
    rw (
      eq-eqb a.unscaled a.current c.if-unscaled-current.false,
      eq-eqb a.original a.current c.if-original-current.false,
      eq-eqb a.flags a.current c.if-flags-current.false,
      t,
    )
    c.contours_fit.ensures

pub returns-else-points_fit : goal.returns-else-points_fit
unfolding sizes_fit
returns-else-points_fit c = let a = c.args in
    let t : leb a.current most_points ≡ false = sym c.points_fit.ensures ∙ c.if-points_fit.false in
    rw (
      eq-eqb a.unscaled a.current c.if-unscaled-current.false,
      eq-eqb a.original a.current c.if-original-current.false,
      eq-eqb a.flags a.current c.if-flags-current.false,
      t,
    )
