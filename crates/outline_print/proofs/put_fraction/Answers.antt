-- `outline_print::put_fraction` meets its contract: a minus sign below zero, then the size. Assumes nothing.
use mathlib.Core.List.{List, [], ◌∷◌}
use mathlib.Core.Path.{refl, subst, sym}
use Prim.Native.Nat.{◌+◌, ◌≤◌, ℕ}
use native.Mathlib.Omega.{arith}
use lib.ListN.{length, length-append, length-set, set}
use Rattle.record_print.specs.Steps.{Put, ended_by}
use Rattle.record_print.proofs.Puts.{put_join}
use Rattle.outline_print.specs.Lines.{fraction}
use Rattle.outline_print.proofs.Putting.{a_sign, low_read, no_sign}
use Rattle.outline_print.proofs.put_fraction.Goals as goal

pub put_size-requires : goal.put_size-requires
put_size-requires c = let a = c.args in
    let same = no_sign (low_read a.z c.requires.z_value c.ranges.z c.low32-x.type_inv c.low32-x.ensures) c.non_negative.ensures c.if-non_negative.true c.magnitude.ensures in
    subst (λ (t : List ℕ). a.at + length (ended_by t a.end) ≤ length a.text.now) same c.requires.end_in_bounds

pub bounds-text-at : goal.bounds-text-at
bounds-text-at c = omega (arith, c.requires.end_in_bounds, length-append (fraction c.args.z) (c.args.end ∷ []))

pub put_size-requires-else-non_negative : goal.put_size-requires-else-non_negative
put_size-requires-else-non_negative c = let a = c.args in
    let same = a_sign (low_read a.z c.requires.z_value c.ranges.z c.low32-x.type_inv c.low32-x.ensures) c.non_negative.ensures c.if-non_negative.false c.magnitude-else-non_negative.ensures in
    let room = subst (λ (t : List ℕ). a.at + length (ended_by t a.end) ≤ length a.text.now) same c.requires.end_in_bounds in
    omega (arith, room, length-set a.text.now a.at 45)

pub returns-then-non_negative : goal.returns-then-non_negative
returns-then-non_negative c = let a = c.args in
    let same = no_sign (low_read a.z c.requires.z_value c.ranges.z c.low32-x.type_inv c.low32-x.ensures) c.non_negative.ensures c.if-non_negative.true c.magnitude.ensures in
    subst (λ (t : List ℕ). Put (ended_by t a.end) a.at c.put_size.result a.text.now c.put_size.new.text) (sym same) c.put_size.ensures

pub returns-else-non_negative : goal.returns-else-non_negative
returns-else-non_negative c = let a = c.args in
    let same = a_sign (low_read a.z c.requires.z_value c.ranges.z c.low32-x.type_inv c.low32-x.ensures) c.non_negative.ensures c.if-non_negative.false c.magnitude-else-non_negative.ensures in
    let sign : Put (45 ∷ []) a.at (a.at + 1) a.text.now (set a.text.now a.at 45) = record { behind = refl; there = refl } in
    subst (λ (t : List ℕ). Put (ended_by t a.end) a.at c.put_size-else-non_negative.result a.text.now c.put_size-else-non_negative.new.text) (sym same)
    (put_join sign c.put_size-else-non_negative.ensures)
