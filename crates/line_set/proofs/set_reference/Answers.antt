-- `line_set::set_reference` meets its contract: the definition computes at each number matched. Assumes nothing.
use Prim.Native.Nat.{ℕ}
use mathlib.Core.Path.{ap, sym, ◌∙◌}
use Rattle.line_set.proofs.Cases.{other_reference}
use Rattle.line_set.specs.Setters.{reference_by}
use Rattle.line_set.proofs.set_reference.Goals as goal

pub returns-in-16 : goal.returns-in-16
unfolding reference_by
returns-in-16 c = let a = c.args in
    c.with_rp0.ensures ∙ sym (ap (λ (op : ℕ). reference_by a.s op a.at) c.in-16.is)

pub returns-in-17 : goal.returns-in-17
unfolding reference_by
returns-in-17 c = let a = c.args in
    c.with_rp1.ensures ∙ sym (ap (λ (op : ℕ). reference_by a.s op a.at) c.in-17.is)

pub returns-in_default : goal.returns-in_default
returns-in_default c = let a = c.args in
    c.with_rp2.ensures ∙ sym (other_reference a.opcode a.s a.at c.in_default.in_default-own.rest.0.1 c.in_default.in_default-own.rest.1)
