-- `line_flip::set_through` meets its contract: outside, the range is refused whichever way it goes; else it is what `set_on_curve` ensures.
-- Assumes nothing.
use mathlib.Core.Path.{ap, ◌∙◌}
use Prim.Native.Nat.{ℕ}
use native.Mathlib.Omega.{arith}
use Rattle.line_flip.proofs.Cases.{through_out}
use Rattle.zone.specs.Zone.{set_on_curve_of}
use Rattle.line_flip.proofs.set_through.Goals as goal

pub returns-then-gflags-h : goal.returns-then-gflags-h
returns-then-gflags-h c = let a = c.args in through_out a.gflags.now a.low a.high a.on c.if-gflags-h.true

pub returns : goal.returns
returns c = let a = c.args in
    c.set_on_curve.ensures ∙ ap (λ (end : ℕ). set_on_curve_of a.gflags.now a.low end a.on) (omega arith)
