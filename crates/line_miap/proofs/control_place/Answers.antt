-- `line_miap::control_place` meets its contract: each coordinate is what its call ensures. Assumes nothing.
use native.Mathlib.Omega.{arith}
use mir.Facts.{to_z-of_z}
use Rattle.int.proofs.Words.{back32}
use Rattle.line_miap.specs.Numbers.{control_place}
use Rattle.line_miap.proofs.control_place.Goals as goal

pub returns : goal.returns
unfolding control_place
returns c =
    cc (to_z-of_z c.ranges.control, back32 c.args.freedom.x (omega (arith, c.struct_told-1.given.0)), back32 c.args.freedom.y (omega (arith, c.struct_told-2-1.given.1.0)), back32 c.mul14-x.result c.mul14-x.type_inv, back32 c.mul14-y.result c.mul14-y.type_inv)
