-- `zone::put_on_curve` meets its contract: the library's lemma on a loop that writes each element. Assumes nothing.
use mathlib.Core.Path.{ap, ◌∙◌}
use Prim.Native.Nat.{ℕ, ◌<◌}
use native.Mathlib.Omega.{arith}
use lib.ListN.{get_or, length, set}
use Rattle.std.proofs.lemmas.List.{get_or_default}
use Rattle.std.proofs.lemmas.List.Edits.{map_over_more}
use Rattle.zone.specs.Zone.{on_curve}
use Rattle.zone.proofs.put_on_curve.Goals as goal

pub loop-flag-preserved : goal.loop-flag-preserved
loop-flag-preserved c = let a = c.args in let v = c.loop-flag in
    let flag : ℕ = get_or v.part v.flag-index 0 in
    let here : v.flag-index < length v.part = omega arith in
    ap (set v.part v.flag-index) c.on_curve_as.ensures
    ∙ map_over_more (on_curve a.on) a.part.now v.part v.flag-index flag (omega arith) v.invariant (get_or_default v.part v.flag-index 0 flag here)
