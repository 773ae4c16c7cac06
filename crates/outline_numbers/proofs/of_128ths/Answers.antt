-- `outline_numbers::of_128ths` meets its contract. The cast is exact to 2 ^ 24, and the product is `of128` by its definition. Assumes nothing.
use mathlib.Core.Path.{sym, ap, subst}
use lib.Ieee.{Float, binary32, to_bits}
use mir.Syntax.{w64}
use mir.ValLaws.{to_z-of_z}
use Rattle.outline_numbers.specs.Fraction.{of128, StandsFor}
use Rattle.outline_numbers.proofs.Exact.{of128_stands}
use Rattle.outline_numbers.proofs.Near.{near_small}
use Rattle.outline_numbers.proofs.of_128ths.Goals as goal

pub returns-clause-value : goal.returns-clause-value
unfolding of128
returns-clause-value c = let h = c.args.h in
    let e = ap of128 (to_z-of_z w64 h c.ranges.h) in e

pub returns-clause-stands_for : goal.returns-clause-stands_for
unfolding of128
returns-clause-stands_for c = let h = c.args.h in
    let e = ap of128 (to_z-of_z w64 h c.ranges.h) in subst (λ (r : Float). StandsFor (to_bits binary32 r) h) (sym e) (of128_stands h (near_small h c.requires))
