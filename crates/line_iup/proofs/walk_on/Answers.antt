-- `line_iup::walk_on` meets its contract: by the axis, in any world that holds the lists lent. Assumes nothing.
use mathlib.Core.List.{List}
use mathlib.Core.Path.{ap, sym, ◌∙◌}
use Prim.Native.Nat.{ℕ}
use lib.IntN.{ℤ}
use Rattle.contour_ends.specs.Ends.{ends_rise}
use Rattle.graphics.specs.declared.GraphicsState.{GraphicsState}
use Rattle.rules.specs.declared.Rules.{Rules}
use Rattle.line.specs.World.{Fixed, World, fixed, world}
use Rattle.line_iup.proofs.Cases.{walked_x, walked_y}
use Rattle.line_iup.proofs.walk_on.Goals as goal
use Rattle.line_iup.proofs.walk_on.Goals.{Start}

-- ---- the lists lent, in a world
abbrev lent : Start → Rules → List ℤ → Fixed
lent b rules controls = let a = b.args in fixed rules controls a.gux.now a.guy.now a.gox.now a.goy.now a.contours.now

abbrev entry : Start → GraphicsState → List ℤ → List ℤ → List ℤ → List ℤ → List ℕ → World
entry b s = let a = b.args in world s a.gx.now a.gy.now a.gflags.now

pub iup-requires : goal.iup-requires
iup-requires c = let p = c.requires in (p.0, p.2, p.5, p.6)

pub iup-requires-else-x : goal.iup-requires-else-x
iup-requires-else-x c = let p = c.requires in let y = sym p.4 in
    (p.1 ∙ y, p.3 ∙ y, p.5 ∙ y, ap (λ (n : ℕ). ends_rise n c.args.contours.now) p.4 ∙ p.6)

pub returns-then-x : goal.returns-then-x
returns-then-x c = λ s rules controls tox toy tx ty tflags. walked_x (lent (goal.at.returns-then-x c).Start rules controls) (entry (goal.at.returns-then-x c).Start s tox toy tx ty tflags) c.if-x.true c.iup.ensures

pub returns-else-x : goal.returns-else-x
returns-else-x c = λ s rules controls tox toy tx ty tflags. walked_y (lent (goal.at.returns-else-x c).Start rules controls) (entry (goal.at.returns-else-x c).Start s tox toy tx ty tflags) c.if-x.false c.iup-else-x.ensures
