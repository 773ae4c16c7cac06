-- `line_sizes::sized` meets its contract: the definition computes at each number matched. Assumes nothing.
use Prim.Native.Nat.{ℕ, ◌^◌, ◌<◌}
use mathlib.Core.Path.{ap, sym, ◌∙◌}
use native.Mathlib.Omega.{arith}
use lib.Signed.{mag}
use mir.Facts.{to_z-of_z}
use Rattle.int.proofs.Words.{back32}
use Rattle.line_sizes.proofs.Cases.{other_size}
use Rattle.line_sizes.specs.Sizes.{minimum_at, cut_in_at, single_cut_in_at, sized_by}
use Rattle.line_sizes.proofs.sized.Goals as goal
use Rattle.line_sizes.proofs.sized.Goals.{Start}

-- the scale fits
told : (s : Start) → mag s.args.m.scale < 2 ^ 31
told s = omega arith

pub returns-in-26 : goal.returns-in-26
unfolding sized_by
returns-in-26 c = let a = c.args in
    c.with_minimum.ensures ∙ ap (minimum_at a.m) (to_z-of_z c.ranges.word) ∙ sym (ap (λ (op : ℕ). sized_by a.m op a.word) c.in-26.is)

pub returns-in-29 : goal.returns-in-29
unfolding sized_by
returns-in-29 c = let a = c.args in
    c.with_cut_in.ensures ∙ ap (cut_in_at a.m) (to_z-of_z c.ranges.word) ∙ sym (ap (λ (op : ℕ). sized_by a.m op a.word) c.in-29.is)

pub returns-in-30 : goal.returns-in-30
unfolding sized_by
returns-in-30 c = let a = c.args in
    c.with_single_cut_in.ensures ∙ ap (single_cut_in_at a.m) (to_z-of_z c.ranges.word) ∙ sym (ap (λ (op : ℕ). sized_by a.m op a.word) c.in-30.is)

pub returns-in_default : goal.returns-in_default
returns-in_default c = let a = c.args in
    other_size a.m a.opcode c.in_default.in_default-own.rest.0.0.1 c.in_default.in_default-own.rest.0.1 c.in_default.in_default-own.rest.1 (to_z-of_z c.ranges.word) (back32 a.m.scale (told (goal.at.returns-in_default c).Start)) (back32 c.mul.result c.mul.type_inv) c.mul.ensures c.with_single_width.ensures
