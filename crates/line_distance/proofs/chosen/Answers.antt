-- `line_distance::chosen` meets its contract: by the test against the cut_in. Assumes nothing.
use mathlib.Core.Path.{◌≡◌}
use mathlib.Core.Bool.{true, false}
use lib.Signed.{lt_z}
use mir.Facts.{to_z-of_z}
use Rattle.int.specs.Word.{sub32, abs32}
use Rattle.int.proofs.Words.{back32}
use Rattle.line_distance.specs.Distance.{chosen_of}
use Rattle.line_distance.proofs.chosen.Goals as goal

pub returns-then-less : goal.returns-then-less
unfolding chosen_of
returns-then-less c =
    let t : lt_z c.args.cut_in (abs32 (sub32 c.args.control c.args.own)) ≡ true = cc (to_z-of_z c.ranges.cut_in, to_z-of_z c.ranges.control, to_z-of_z c.ranges.own, back32 c.wrapping_sub.result c.wrapping_sub.type_inv, back32 c.wrapping_abs.result c.wrapping_abs.type_inv) in
    rw t (to_z-of_z c.ranges.own)

pub returns-else-less : goal.returns-else-less
unfolding chosen_of
returns-else-less c =
    let t : lt_z c.args.cut_in (abs32 (sub32 c.args.control c.args.own)) ≡ false = cc (to_z-of_z c.ranges.cut_in, to_z-of_z c.ranges.control, to_z-of_z c.ranges.own, back32 c.wrapping_sub.result c.wrapping_sub.type_inv, back32 c.wrapping_abs.result c.wrapping_abs.type_inv) in
    rw t (to_z-of_z c.ranges.control)
