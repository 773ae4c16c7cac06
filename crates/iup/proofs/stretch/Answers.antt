-- `iup::stretch` meets its contract: it is `interpolate` by the references in order (`refer`), and of an empty stretch nothing is left.
-- Assumes nothing.
use mathlib.Core.Path.{ap, ◌∙◌}
use lib.IntN.{ℤ}
use Rattle.int.proofs.Words.{back32}
use Rattle.iup.proofs.Spread.{refer}
use Rattle.iup.specs.Parts.{both}
use Rattle.iup.proofs.stretch.Goals as goal

pub returns-then-current-gt0 : goal.returns-then-current-gt0
returns-then-current-gt0 c = let s = c in let low = c in let high = c in
    let flat = c in let a = s.args in
    c.interpolate.ensures
    ∙ ap (λ (f : ℤ → ℤ → ℤ). both f a.unscaled.now a.original.now)
    (refer a.before a.after low.lower-low.ensures high.higher-high.ensures flat.level.ensures
    (back32 c.slope.result c.slope.type_inv ∙ c.slope.ensures))
