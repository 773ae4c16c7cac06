-- `outline_print::put_pointed` meets its contract: nothing, or the point and the digits. Assumes nothing.
use mathlib.Core.Path.{refl, sym, ap, subst}
use Prim.Native.Nat.{ℕ, ◌+◌}
use mathlib.Core.List.{List, [], ◌∷◌}
use native.Mathlib.Omega.{arith}
use lib.ListN.{length, length-set, set}
use Rattle.record_print.proofs.Puts.{put_join}
use Rattle.record_print.specs.Steps.{Put}
use Rattle.outline_print.proofs.Putting.{pointed_none, pointed_some, put_nothing}
use Rattle.outline_print.proofs.put_pointed.Goals as goal

pub bounds-text-at : goal.bounds-text-at
bounds-text-at c = omega (arith, c.requires.r_in_bounds, ap length (pointed_some c.args.r c.if-r-eq0.false))

pub put_tail-requires : goal.put_tail-requires
put_tail-requires c = record { r_bound = c.requires.r_bound; r_in_bounds = omega (arith, c.requires.r_in_bounds, ap length (pointed_some c.args.r c.if-r-eq0.false), length-set c.args.text.now c.args.at 46) }

pub returns-then-r-eq0 : goal.returns-then-r-eq0
returns-then-r-eq0 c = put_nothing c.args.at c.args.text.now (pointed_none c.if-r-eq0.true)

pub returns-else-r-eq0 : goal.returns-else-r-eq0
returns-else-r-eq0 c = let point : Put (46 ∷ []) c.args.at (c.args.at + 1) c.args.text.now (set c.args.text.now c.args.at 46) = record { behind = refl; there = refl } in
    subst (λ (t : List ℕ). Put t c.args.at c.put_tail.result c.args.text.now c.put_tail.new.text) (sym (pointed_some c.args.r c.if-r-eq0.false))
    (put_join point c.put_tail.ensures)
