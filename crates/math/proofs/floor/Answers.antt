-- `math::floor` meets its contract: 64 is a power of two, so the mask gives the multiple below. Assumes nothing.
use mathlib.Core.Path.{ap, ◌∙◌}
use native.Mathlib.Omega.{arith}
use lib.IntN.{ℤ, pos}
use mir.Facts.{to_z-of_z}
use Rattle.int.proofs.Words.{back32}
use Rattle.math.specs.Fixed.{pad_floor}
use Rattle.math.proofs.Masks.{pad_pow}
use Rattle.math.proofs.floor.Goals as goal

pub returns : goal.returns
returns c = let s = c in back32 c.floor_pad.result c.floor_pad.type_inv ∙ c.floor_pad.ensures ∙ ap (λ (z : ℤ). pad_floor z (pos 64)) (to_z-of_z s.ranges.x) ∙ pad_pow 6 (omega arith) s.args.x s.ranges.x
