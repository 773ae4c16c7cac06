-- `record_print::put_signed` meets its contract: a minus sign below zero, then the magnitude. Assumes nothing.
use mathlib.Core.List.{List, [], ◌∷◌}
use mathlib.Core.Path.{refl, subst, sym}
use Prim.Native.Nat.{◌+◌, ◌≤◌, ℕ}
use native.Mathlib.Omega.{arith}
use lib.ListN.{length, length-append, length-set, set}
use mir.Facts.{to_z-of_z}
use Rattle.record_print.specs.Steps.{Put, ended_by}
use Rattle.record_print.specs.Text.{signed_decimal}
use Rattle.record_print.proofs.Puts.{a_sign, no_sign, put_join}
use Rattle.record_print.proofs.put_signed.Goals as goal

pub put_number-requires : goal.put_number-requires
put_number-requires c =
    let same = no_sign (to_z-of_z c.ranges.x) c.non_negative.ensures c.if-non_negative.true c.magnitude.ensures in
    subst (λ (t : List ℕ). c.args.at + length (ended_by t c.args.end) ≤ length c.args.text.now) same c.requires

pub bounds-text-at : goal.bounds-text-at
bounds-text-at c = omega (arith, c.requires, length-append (signed_decimal c.args.x) (c.args.end ∷ []))

pub put_number-requires-else-non_negative : goal.put_number-requires-else-non_negative
put_number-requires-else-non_negative c =
    let same = a_sign (to_z-of_z c.ranges.x) c.non_negative.ensures c.if-non_negative.false c.magnitude-else-non_negative.ensures in
    let room = subst (λ (t : List ℕ). c.args.at + length (ended_by t c.args.end) ≤ length c.args.text.now) same c.requires in
    omega (arith, room, length-set c.args.text.now c.args.at 45)

pub returns-then-non_negative : goal.returns-then-non_negative
returns-then-non_negative c =
    let same = no_sign (to_z-of_z c.ranges.x) c.non_negative.ensures c.if-non_negative.true c.magnitude.ensures in
    subst (λ (t : List ℕ). Put (ended_by t c.args.end) c.args.at c.put_number.result c.args.text.now c.put_number.new.text) (sym same) c.put_number.ensures

pub returns-else-non_negative : goal.returns-else-non_negative
returns-else-non_negative c =
    let same = a_sign (to_z-of_z c.ranges.x) c.non_negative.ensures c.if-non_negative.false c.magnitude-else-non_negative.ensures in
    let sign : Put (45 ∷ []) c.args.at (c.args.at + 1) c.args.text.now (set c.args.text.now c.args.at 45) = record { behind = refl; there = refl } in
    subst (λ (t : List ℕ). Put (ended_by t c.args.end) c.args.at c.put_number-else-non_negative.result c.args.text.now c.put_number-else-non_negative.new.text) (sym same)
    (put_join sign c.put_number-else-non_negative.ensures)
