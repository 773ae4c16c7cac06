-- `line_msirp::made_place` meets its contract: each coordinate is what its call ensures. Assumes nothing.
use native.Mathlib.Omega.{arith}
use mir.Facts.{to_z-of_z}
use Rattle.int.proofs.Words.{back32}
use Rattle.line_msirp.proofs.Cases.{made_from_lem}
use Rattle.line_msirp.proofs.made_place.Goals as goal

pub returns : goal.returns
returns c = made_from_lem c.args.v c.args.distance c.args.original
    (to_z-of_z c.ranges.distance)
    c.original_move_of-m.ensures
    (back32 c.args.original.x (omega (arith, c.struct_told-1.given, c.struct_told-2-1.given)))
    (back32 c.original_move_of-m.result.dx (omega (arith, c.struct_told-1.given, c.struct_told-2-1.given)))
    c.moved_by-x.ensures
    (back32 c.moved_by-x.result c.moved_by-x.type_inv)
    (back32 c.args.original.y (omega (arith, c.struct_told-3-1.given, c.struct_told-4-1.given)))
    (back32 c.original_move_of-m.result.dy (omega (arith, c.struct_told-3-1.given, c.struct_told-4-1.given)))
    c.moved_by-y.ensures
    (back32 c.moved_by-y.result c.moved_by-y.type_inv)
