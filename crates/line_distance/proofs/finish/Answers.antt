-- `line_distance::finish` meets its contract: by whether the opcode keeps the minimum distance. Assumes nothing.
use native.Mathlib.Omega.{arith}
use mir.Facts.{to_z-of_z}
use Rattle.int.proofs.Words.{back32}
use Rattle.line_distance.proofs.Seen.{finish_free, finish_kept}
use Rattle.line_distance.proofs.finish.Goals as goal

pub returns-then-keeps_minimum : goal.returns-then-keeps_minimum
returns-then-keeps_minimum c =
    finish_kept c.args.opcode c.args.native c.args.round c.args.minimum c.args.original c.args.d c.rounds.ensures (to_z-of_z c.ranges.d) c.rounded-r.ensures c.keeps_minimum.ensures c.if-keeps_minimum.true
    (to_z-of_z c.ranges.minimum) (back32 c.minimum_of.result c.minimum_of.type_inv) c.minimum_of.ensures
    (to_z-of_z c.ranges.original) (back32 c.rounded-r.result.word (omega (arith, c.struct_told-1.given)))
    (back32 c.at_least.result c.at_least.type_inv) c.at_least.ensures

pub returns-else-keeps_minimum : goal.returns-else-keeps_minimum
returns-else-keeps_minimum c =
    finish_free c.args.opcode c.args.native c.args.round c.args.minimum c.args.original c.args.d c.rounds.ensures (to_z-of_z c.ranges.d) c.rounded-r.ensures c.keeps_minimum.ensures c.if-keeps_minimum.false
