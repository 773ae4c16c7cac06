-- `line_set::set_pointer` meets its contract: the definition computes at each number matched. Assumes nothing.
use Prim.Native.Nat.{ℕ}
use mathlib.Core.Path.{ap, sym, ◌∙◌}
use Rattle.line_set.proofs.Cases.{other_pointer}
use Rattle.line_set.specs.Setters.{pointer_by}
use Rattle.line_set.proofs.set_pointer.Goals as goal

pub returns-in-19 : goal.returns-in-19
unfolding pointer_by
returns-in-19 c = let a = c.args in
    c.with_zp0.ensures ∙ sym (ap (λ (op : ℕ). pointer_by a.s op a.zone) c.in-19.is)

pub returns-in-20 : goal.returns-in-20
unfolding pointer_by
returns-in-20 c = let a = c.args in
    c.with_zp1.ensures ∙ sym (ap (λ (op : ℕ). pointer_by a.s op a.zone) c.in-20.is)

pub returns-in-21 : goal.returns-in-21
unfolding pointer_by
returns-in-21 c = let a = c.args in
    c.with_zp2.ensures ∙ sym (ap (λ (op : ℕ). pointer_by a.s op a.zone) c.in-21.is)

pub returns-in_default : goal.returns-in_default
returns-in_default c = let a = c.args in
    c.with_all_pointers.ensures ∙ sym (other_pointer a.opcode a.s a.zone c.in_default.in_default-own.rest.0.0.1 c.in_default.in_default-own.rest.0.1 c.in_default.in_default-own.rest.1)
